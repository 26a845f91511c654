-- Jitters that are not measured: each is read as the period of its task's transaction, and every distance is below that.
use Prim.Native.Nat.{ℕ, ◌+◌, ◌-◌, ◌<◌}
use mathlib.Core.List.{List}
use mathlib.Core.Bool.{Bool, true, false, cond, ◌&&◌, not}
use mathlib.Core.Path.{◌≡◌, refl, ap, sym, ◌∙◌}
use native.Mathlib.Nat.{mod-lt}
use native.Mathlib.Omega.{arith}
use borrow.Author.Tests.{lt-ltb, eq-eqb, eqb-true, eqb-false, ne_eqb}
use lib.Dec.{eqb}
use Rattle.rules.specs.declared.Reason.{Reason}
use Rattle.rules.specs.declared.Reason.TheVariants.{Jitter, Priority, Pair}
use Rattle.rules.specs.declared.Task.{Task}
use Rattle.rules.specs.Numbers.{Bytes, le4}
use Rattle.rules.specs.Blocks.{records}
use Rattle.rules.specs.Records.{unmeasured, jitter_of, task_count, task_at, period_in, period_at, jitter_missing}
use Rattle.rules.specs.Reasons.{told}
use Rattle.rules.specs.Preempt.{distance, jitter_reaches, yields, reason, may_preempt, barred, reason_at, decided, cell, map_of}
use Rattle.rules.specs.Patches.{same}
use Rattle.rules.specs.Refusals.{accepted, table_verdict}
use Rattle.rules.proofs.Numbers.{either, never}
use Rattle.rules.proofs.Tests.{both_first, both_second}
use Rattle.rules.proofs.Maps.{cell_of_map}
use Rattle.rules.proofs.Reasons.{timely, may_preempt_was}
use Rattle.rules.proofs.Table.Listed.{Listed, table_of}
use Rattle.rules.proofs.Patch.Members.{same_other}

-- the record of the task at place j leaves its jitter out
abbrev pub Unmeasured : List (List ℕ) → ℕ → Type 0
Unmeasured rs j = jitter_missing rs j ≡ true

-- the jitter is then the period
pub unmeasured-period : (rs : List (List ℕ)) (j : ℕ) → Unmeasured rs j → (task_at rs j).jitter ≡ period_at rs j
unmeasured-period rs j missing = rw missing

-- a jitter that is written is read as it is, whatever the period
pub written_kept : (period j : ℕ) → unmeasured j ≡ false → jitter_of period j ≡ j
written_kept period j written = rw written

-- patches compare bytes: a record without its jitter is none that has one, whatever the two are read as
pub unmeasured_differs : (r s : List ℕ) → unmeasured (le4 r 12) ≡ true → unmeasured (le4 s 12) ≡ false → same r s ≡ false
unmeasured_differs r s missing written =
    same_other r s (λ e. never (unmeasured (le4 s 12)) (rw e at missing) written)

-- the task with another jitter
abbrev pub with_jitter : ℕ → Task → Task
with_jitter x task =
    record {
      id = task.id;
      transaction = task.transaction;
      priority = task.priority;
      offset = task.offset;
      jitter = x;
      response = task.response;
      size = task.size;
      threshold = task.threshold;
    }

-- where the jitter of two tasks is not asked
module _ (t : ℕ) (bar : Bool) (i j : Task) (x : ℕ) where
  -- that of the task that is preempted
  pub lower_jitter_unasked : reason t bar (with_jitter x i) j ≡ reason t bar i j
  unfolding reason
  lower_jitter_unasked = refl

  -- and in different transactions that of the other task
  pub apart_jitter_unasked : (i.transaction ≡ j.transaction → ⊥) → reason t bar i (with_jitter x j) ≡ reason t bar i j
  unfolding reason
  apart_jitter_unasked apart = rw (ne_eqb i.transaction j.transaction apart)

-- the tasks at two places of a table, the second without a jitter
module _ (rs : List (List ℕ)) (named : Listed rs) (i j : ℕ) (h : i < task_count rs) (missing : Unmeasured rs j) where
  -- within one transaction
  module _ (within : (task_at rs i).transaction ≡ (task_at rs j).transaction) where
    -- the jitter rule holds
    pub unmeasured-reaches : jitter_reaches (period_at rs i) (task_at rs i) (task_at rs j) ≡ true
    unmeasured-reaches =
        let some : 0 < period_at rs i = omega (arith, named.offset_below i h) in
        let below = mod-lt ((task_at rs i).offset + (period_at rs i - (task_at rs j).offset)) some in
        lt-ltb (distance (period_at rs i) (task_at rs i).offset (task_at rs j).offset) (task_at rs j).jitter
        (rw (unmeasured-period rs j missing, ← ap (period_in rs) within) below)

    -- so priority and pairs alone decide
    pub unmeasured-reason : reason_at rs i j
        ≡ cond (not (yields (task_at rs i) (task_at rs j))) Priority
        (cond (barred rs (task_at rs i).id (task_at rs j).id) Pair
        Jitter)
    unfolding reason_at reason
    unmeasured-reason = rw (eq-eqb (task_at rs i).transaction (task_at rs j).transaction within, unmeasured-reaches)

    -- and the task may be preempted where both allow it
    pub unmeasured-decided : decided rs i j
        ≡ (yields (task_at rs i) (task_at rs j) && not (barred rs (task_at rs i).id (task_at rs j).id))
    unfolding decided
    unmeasured-decided =
        may_preempt_was (period_at rs i) (barred rs (task_at rs i).id (task_at rs j).id) (task_at rs i) (task_at rs j)
        ∙ rw (eq-eqb (task_at rs i).transaction (task_at rs j).transaction within, unmeasured-reaches)
        (either (barred rs (task_at rs i).id (task_at rs j).id) (λ t. rw t) (λ t. rw t))

  -- whatever the jitter is once it is measured: a preemption that it allows is one that is counted with now
  pub unmeasured_covers : (x : ℕ)
      → may_preempt (period_at rs i) (barred rs (task_at rs i).id (task_at rs j).id) (task_at rs i) (with_jitter x (task_at rs j)) ≡ true
      → decided rs i j ≡ true
  unfolding decided may_preempt
  unmeasured_covers x may =
      let bar = barred rs (task_at rs i).id (task_at rs j).id in
      let urgent = yields (task_at rs i) (task_at rs j) in
      either (eqb (task_at rs i).transaction (task_at rs j).transaction)
      (λ t.
      let all : (urgent && (not bar && timely (period_at rs i) (task_at rs i) (with_jitter x (task_at rs j)))) ≡ true = sym (may_preempt_was (period_at rs i) bar (task_at rs i) (with_jitter x (task_at rs j))) ∙ may in
      unmeasured-decided (eqb-true (task_at rs i).transaction (task_at rs j).transaction t)
      ∙ rw (both_first urgent _ all, both_first (not bar) _ (both_second urgent _ all)))
      (λ t.
      ap (λ (r : Reason). (told r).set)
      (sym (apart_jitter_unasked (period_at rs i) bar (task_at rs i) (task_at rs j) x (eqb-false (task_at rs i).transaction (task_at rs j).transaction t)))
      ∙ may)

-- so in the map of an accepted table: within a transaction, the cell of a task and one without a jitter is set where priority and pairs allow it
pub unmeasured-cell : (image : List ℕ) → Bytes image → accepted (table_verdict image) ≡ true → (i j : ℕ)
    → i < task_count (records image) → j < task_count (records image)
    → (task_at (records image) i).transaction ≡ (task_at (records image) j).transaction → Unmeasured (records image) j
    → cell (map_of (records image)) i j
    ≡ (yields (task_at (records image) i) (task_at (records image) j)
    && not (barred (records image) (task_at (records image) i).id (task_at (records image) j).id))
unmeasured-cell image bytes right i j h l within missing =
    let (shape, named) = table_of image bytes right in
    cell_of_map (task_count (records image)) (decided (records image)) i j shape.few_tasks h l
    ∙ unmeasured-decided (records image) named i j h missing within
