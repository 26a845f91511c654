-- Preemption thresholds: one that is in range is never below its task's priority, so it only forbids; where byte 22 is 0
-- throughout, every test is the one that there was before.
use Prim.Native.Nat.{ℕ, zero, suc, ◌+◌, ◌≤◌, ◌<◌}
use mathlib.Core.List.{List, []}
use mathlib.Core.Bool.{Bool, true, false, cond, ◌&&◌, not}
use mathlib.Core.Path.{◌≡◌, refl, ap, sym, ◌∙◌}
use native.Mathlib.Omega.{arith}
use borrow.Author.Tests.{lt-ltb, le-ltb, ltb-true, ltb-false}
use lib.Dec.{leb, ltb, eqb}
use lib.ListN.{get_or, get_or-eq_default}
use Rattle.rules.specs.declared.Reason.TheVariants.{Priority, Pair}
use Rattle.rules.specs.declared.Task.{Task}
use Rattle.rules.specs.Numbers.{le2, between, blank}
use Rattle.rules.specs.Records.{number_of, second_of, threshold_of, name_right, tasks, task_count, task_at, period_at}
use Rattle.rules.specs.Preempt.{timing, yields, reason, may_preempt, barred, reason_at, decided, cell, map_from, map_of}
use Rattle.rules.specs.Chains.{related, priority_at}
use Rattle.rules.specs.Patches.{same}
use Rattle.rules.proofs.Bytes.{blank_true, blank_zero}
use Rattle.rules.proofs.Numbers.{either}
use Rattle.rules.proofs.Tests.{both_first, both_second}
use Rattle.rules.proofs.Maps.{map_ext}
use Rattle.rules.proofs.Reasons.{timely, may_preempt_was}
use Rattle.rules.proofs.Patch.Members.{same_other}

-- 0 and the priority written out mean the same
pub threshold_own : (p : ℕ) → threshold_of p 0 ≡ threshold_of p p
threshold_own p = either (eqb p 0) (λ t. rw t) (λ t. rw t)

-- but are different bytes, so a patch takes neither out for the other
pub threshold_differs : (r s : List ℕ) → get_or r 22 0 ≡ 0 → 1 ≤ get_or s 22 0 → same r s ≡ false
threshold_differs r s none some = same_other r s (λ e. omega (arith, ap (λ (l : List ℕ). get_or l 22 0) e))

-- the task with another threshold
abbrev pub with_threshold : ℕ → Task → Task
with_threshold x task =
    record {
      id = task.id;
      transaction = task.transaction;
      priority = task.priority;
      offset = task.offset;
      jitter = task.jitter;
      response = task.response;
      size = task.size;
      threshold = x;
    }

module _ (t : ℕ) (bar : Bool) (i j : Task) where
  -- the threshold of the task that preempts is not asked
  pub upper_threshold_unasked : (x : ℕ) → reason t bar i (with_threshold x j) ≡ reason t bar i j
  unfolding reason
  upper_threshold_unasked x = refl

  -- a higher threshold only forbids: what it allows, a lower one allows
  pub threshold_forbids : (x y : ℕ) → x ≤ y → may_preempt t bar (with_threshold y i) j ≡ true → may_preempt t bar (with_threshold x i) j ≡ true
  threshold_forbids x y lower may =
      let all : (ltb y j.priority && (not bar && timely t i j)) ≡ true = sym (may_preempt_was t bar (with_threshold y i) j) ∙ may in
      may_preempt_was t bar (with_threshold x i) j
      ∙ rw (lt-ltb x j.priority (omega (arith, ltb-true y j.priority (both_first _ _ all)))) (both_second (ltb y j.priority) _ all)

  -- and one of 255 forbids every preemption
  pub most_threshold : i.threshold ≡ 255 → j.priority ≤ 255 → reason t bar i j ≡ Priority
  unfolding reason
  most_threshold most within = rw (le-ltb i.threshold j.priority (omega arith))

-- byte 22 of every task is 0
abbrev pub NoThresholds : List (List ℕ) → Type 0
NoThresholds rs = (i : ℕ) → i < task_count rs → get_or (get_or (tasks rs) i []) 22 0 ≡ 0

-- (8) as it was, with the two priorities in its first condition
abbrev pub by_priority : List (List ℕ) → ℕ → ℕ → Bool
by_priority rs i j =
    ltb (priority_at rs i) (priority_at rs j)
    && (not (barred rs (task_at rs i).id (task_at rs j).id) && timely (period_at rs i) (task_at rs i) (task_at rs j))

module _ (rs : List (List ℕ)) (plain : NoThresholds rs) where
  -- also past the end
  plain_byte : (i : ℕ) → get_or (get_or (tasks rs) i []) 22 0 ≡ 0
  plain_byte i =
      either (ltb i (task_count rs))
      (λ t. plain i (ltb-true i (task_count rs) t))
      (λ t. ap (λ (r : List ℕ). get_or r 22 0) (get_or-eq_default (tasks rs) [] (ltb-false i (task_count rs) t)))

  -- each threshold is then the priority
  pub plain_threshold : (i : ℕ) → (task_at rs i).threshold ≡ priority_at rs i
  plain_threshold i = rw (plain_byte i)

  -- and the first condition the paper's
  pub plain_yields : (i j : ℕ) → yields (task_at rs i) (task_at rs j) ≡ ltb (priority_at rs i) (priority_at rs j)
  plain_yields i j = rw (plain_threshold i)

  -- so the relation is the old one, with any map
  pub plain_related : (rows : List ℕ) (i j : ℕ)
      → related rs rows i j
      ≡ ((ltb i (task_count rs) && ltb j (task_count rs)) && (ltb (priority_at rs i) (priority_at rs j) && cell rows i j))
  unfolding related
  plain_related rows i j = rw (plain_yields i j)

  -- the reason is
  pub plain_reason : (i j : ℕ)
      → reason_at rs i j
      ≡ cond (not (ltb (priority_at rs i) (priority_at rs j))) Priority
      (cond (barred rs (task_at rs i).id (task_at rs j).id) Pair
      (timing (period_at rs i) (task_at rs i) (task_at rs j)))
  unfolding reason_at reason
  plain_reason i j = rw (plain_yields i j)

  -- and so are the decision and the map
  pub plain_decided : (i j : ℕ) → decided rs i j ≡ by_priority rs i j
  unfolding decided
  plain_decided i j =
      may_preempt_was (period_at rs i) (barred rs (task_at rs i).id (task_at rs j).id) (task_at rs i) (task_at rs j)
      ∙ rw (plain_yields i j)

  pub plain_map : map_of rs ≡ map_from (task_count rs) (by_priority rs)
  plain_map = map_ext (task_count rs) (decided rs) (by_priority rs) (λ i j h l. plain_decided i j)

-- a task's record whose byte 22 is 0
module _ (r : List ℕ) (none : get_or r 22 0 ≡ 0) where
  -- has the bytes said to be 0 at 0 where it had them before, with byte 22 among them
  pub plain_blank : blank r 23 8 ≡ blank r 22 9
  plain_blank =
      either (blank r 23 8)
      (λ t. t ∙ sym (blank_true r 22 9 (zeros t)))
      (λ t. either (blank r 22 9) (λ u. blank_true r 23 8 (rest u) ∙ sym u) (λ u. t ∙ sym u))
    where
      rest : blank r 22 9 ≡ true → (k : ℕ) → k < 8 → get_or r (23 + k) 0 ≡ 0
      rest t k h =
          let here : 23 + k ≡ 22 + (1 + k) = omega arith in
          ap (λ (m : ℕ). get_or r m 0) here ∙ blank_zero r 22 9 t (1 + k) (omega arith)

      zeros : blank r 23 8 ≡ true → (k : ℕ) → k < 9 → get_or r (22 + k) 0 ≡ 0
      zeros t zero h = none
      zeros t (suc k) h =
          let here : 22 + suc k ≡ 23 + k = omega arith in
          ap (λ (m : ℕ). get_or r m 0) here ∙ blank_zero r 23 8 t k (omega arith)

  -- and id, transaction and priority are in range where they were
  pub plain_right : name_right r ≡ (leb 1 (number_of r) && (leb 1 (second_of r) && between 1 (le2 r 6) 255))
  plain_right = rw none (ends (leb 1 (number_of r)) (leb 1 (second_of r)) (between 1 (le2 r 6) 255))
    where
      ends : (a b c : Bool) → (a && (b && (c && true))) ≡ (a && (b && c))
      ends false b c = refl
      ends true false c = refl
      ends true true false = refl
      ends true true true = refl
