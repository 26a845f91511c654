-- Lemma 2: of two instances of one transaction, by which task has the lower offset and which activation came first, either
-- the response of the one or the jitter of the other reaches as far as (8) asks.
use Prim.Native.Nat.{ℕ, ◌+◌, ◌-◌, ◌*◌, ◌≤◌, ◌<◌}
use mathlib.Core.List.{List}
use mathlib.Core.Bool.{Bool, true, false, ◌||◌, or-true}
use mathlib.Core.Path.{◌≡◌, ap, sym, ◌∙◌}
use native.Mathlib.Nat.{lt_of_mul-lt-mul_left}
use native.Mathlib.Omega.{arith}
use borrow.Author.Tests.{ltb-true, ltb-false, lt-ltb, eqb-true}
use lib.Dec.{ltb, eqb}
use Rattle.rules.specs.declared.Task.{Task}
use Rattle.rules.specs.Records.{period_in, period_at, jitter_missing}
use Rattle.rules.specs.Preempt.{distance, jitter_reaches, response_reaches, barred, decided}
use Rattle.rules.specs.Execution.{Instance, ◌∈◌, InTime, UnfinishedAt, PreemptedBy, task_in, KeepsTo}
use Rattle.rules.proofs.Numbers.{either}
use Rattle.rules.proofs.Distance.{distance_above, distance_below}
use Rattle.rules.proofs.Reasons.{may_preempt_was}
use Rattle.rules.proofs.Unmeasured.{unmeasured-reaches}
use Rattle.rules.proofs.Table.Listed.{Listed}

-- instances v of task i and w of task j, of one transaction with period T, where w starts within v; the jitter of j is
-- measured
module _ (q T : ℕ) (i j : Task) (lower : i.offset < T) (upper : j.offset < T) (v w : Instance) (missing missing' barred : Bool)
    (time : InTime q missing i v) (time' : InTime q missing' j w) (measured : missing' ≡ false)
    (apart : v.activated < w.activated → v.activated + q * T ≤ w.activated)
    (apart' : w.activated < v.activated → w.activated + q * T ≤ v.activated)
    (within : UnfinishedAt v w) (p : PreemptedBy barred i j v w) where
  -- the last line of (8)
  abbrev Reaches : Type 0
  Reaches = (jitter_reaches T i j || response_reaches T i j) ≡ true

  by_jitter : distance T i.offset j.offset < j.jitter → Reaches
  by_jitter h = rw (lt-ltb (distance T i.offset j.offset) j.jitter h)

  by_response : T - distance T i.offset j.offset < i.response - i.offset → Reaches
  by_response h =
      rw (lt-ltb (T - distance T i.offset j.offset) (i.response - i.offset) h) (or-true (jitter_reaches T i j))

  -- case 1: O_i < O_j
  case_1 : i.offset < j.offset → Reaches
  case_1 h =
      let psi = distance_below T i.offset j.offset lower upper h in
      either (ltb w.activated v.activated)
      (λ t.
      let later = apart' (ltb-true w.activated v.activated t) in
      let far : T + i.offset < j.offset + j.jitter = lt_of_mul-lt-mul_left q (omega (arith, time'.within_jitter measured)) in
      by_jitter (omega arith))
      (λ t.
      let earlier = ltb-false w.activated v.activated t in
      let far : j.offset < i.response = lt_of_mul-lt-mul_left q (omega arith) in
      by_response (omega arith))

  -- case 2: O_i ≥ O_j
  case_2 : j.offset ≤ i.offset → Reaches
  case_2 h =
      let psi = distance_above T i.offset j.offset lower upper h in
      either (ltb v.activated w.activated)
      (λ t.
      let later = apart (ltb-true v.activated w.activated t) in
      let far : T + j.offset < i.response = lt_of_mul-lt-mul_left q (omega arith) in
      by_response (omega arith))
      (λ t.
      let earlier = ltb-false v.activated w.activated t in
      let far : i.offset < j.offset + j.jitter = lt_of_mul-lt-mul_left q (omega (arith, time'.within_jitter measured)) in
      by_jitter (omega arith))

  four_cases : Reaches
  four_cases =
      either (ltb i.offset j.offset)
      (λ t. case_1 (ltb-true i.offset j.offset t))
      (λ t. case_2 (ltb-false i.offset j.offset t))

-- two instances of a run that keeps to a table, of which w starts within v
module _ (q : ℕ) (rs : List (List ℕ)) (named : Listed rs) (run : List Instance) (keeps : KeepsTo q rs run)
    (v w : Instance) (one : v ∈ run) (other : w ∈ run) (within : UnfinishedAt v w) where
  preempting : PreemptedBy (barred rs (task_in rs v).id (task_in rs w).id) (task_in rs v) (task_in rs w) v w
  preempting = keeps.preempted v w one other within

  -- in one transaction
  together : (task_in rs v).transaction ≡ (task_in rs w).transaction
      → (jitter_reaches (period_at rs v.place) (task_in rs v) (task_in rs w) || response_reaches (period_at rs v.place) (task_in rs v) (task_in rs w)) ≡ true
  together same =
      let period : period_at rs v.place ≡ period_at rs w.place = ap (period_in rs) same in
      either (jitter_missing rs w.place)
      (λ missing. rw (unmeasured-reaches rs named v.place w.place (keeps.known v one) missing same))
      (λ measured.
      four_cases q (period_at rs v.place) (task_in rs v) (task_in rs w) (named.offset_below v.place (keeps.known v one))
      (rw period (named.offset_below w.place (keeps.known w other))) v w (jitter_missing rs v.place) (jitter_missing rs w.place)
      (barred rs (task_in rs v).id (task_in rs w).id) (keeps.in_time v one) (keeps.in_time w other) measured
      (keeps.periodic v w one other same) (λ h. rw period (keeps.periodic w v other one (sym same) h)) within preempting)

  -- Lemma 2: the task of v may be preempted by the task of w
  pub lemma_2 : decided rs v.place w.place ≡ true
  unfolding decided
  lemma_2 =
      may_preempt_was (period_at rs v.place) (barred rs (task_in rs v).id (task_in rs w).id) (task_in rs v) (task_in rs w)
      ∙ rw (preempting.yielding, preempting.allowed)
      (either (eqb (task_in rs v).transaction (task_in rs w).transaction)
      (λ t. rw t (together (eqb-true (task_in rs v).transaction (task_in rs w).transaction t)))
      (λ t. rw t))
