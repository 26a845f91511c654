-- Laws of reasons: which pairs have which, and that a cell is set where it was before there were reasons.
use Prim.Native.Nat.{ℕ, ◌≤◌, ◌<◌}
use mathlib.Core.List.{List}
use mathlib.Core.Bool.{Bool, true, false, cond, ◌&&◌, ◌||◌, not}
use mathlib.Core.Path.{◌≡◌, refl, sym, ◌∙◌}
use borrow.Author.Tests.{lt-ltb, le-ltb, eq-eqb, ne_eqb}
use lib.Dec.{T, leb, eqb}
use Rattle.rules.specs.declared.Reason.{Reason}
use Rattle.rules.specs.declared.Reason.TheVariants.{Transaction, Jitter, Response, Priority, Pair, Timing}
use Rattle.rules.specs.declared.Task.{Task}
use Rattle.rules.specs.Records.{task_count, task_at, period_at}
use Rattle.rules.specs.Reasons.{told}
use Rattle.rules.specs.Preempt.{distance, jitter_reaches, response_reaches, yields, reason, may_preempt, barred, reason_at, decided, map_of}
use Rattle.rules.specs.Chains.{related}
use Rattle.rules.proofs.Tests.{both_first}
use Rattle.rules.proofs.Maps.{cell_of_map}
use Rattle.rules.proofs.Related.{related_says}

-- the last condition of (8) as one test
abbrev pub timely : ℕ → Task → Task → Bool
timely t i j = not (eqb i.transaction j.transaction) || (jitter_reaches t i j || response_reaches t i j)

-- of conditions that are asked one after the other, the first that decides sets a cell where all three are met
first_decides : (first barred apart jitter response : Bool)
    → (told
    (cond (not first) Priority
    (cond barred Pair
    (cond apart Transaction
    (cond jitter Jitter
    (cond response Response
    Timing)))))).set
    ≡ (first && (not barred && (apart || (jitter || response))))
first_decides false barred apart jitter response = refl
first_decides true true apart jitter response = refl
first_decides true false true jitter response = refl
first_decides true false false true response = refl
first_decides true false false false true = refl
first_decides true false false false false = refl

-- the decision is what it was: (8) as one test
pub may_preempt_was : (t : ℕ) (barred : Bool) (i j : Task)
    → may_preempt t barred i j ≡ (yields i j && (not barred && timely t i j))
unfolding may_preempt reason
may_preempt_was t barred i j =
    first_decides (yields i j) barred (not (eqb i.transaction j.transaction)) (jitter_reaches t i j) (response_reaches t i j)

-- a cell is set where the reason is one of the first three
pub first_three : (r : Reason) → (told r).set ≡ leb (told r).number 3
first_three Transaction = refl
first_three Jitter = refl
first_three Response = refl
first_three Priority = refl
first_three Pair = refl
first_three Timing = refl

pub decided-reason : (rs : List (List ℕ)) (i j : ℕ) → decided rs i j ≡ (told (reason_at rs i j)).set
unfolding decided may_preempt reason_at
decided-reason rs i j = refl

-- a task that may be preempted by another yields to it
pub decided-yields : (rs : List (List ℕ)) (i j : ℕ) → decided rs i j ≡ true → yields (task_at rs i) (task_at rs j) ≡ true
unfolding decided
decided-yields rs i j may =
    both_first (yields (task_at rs i) (task_at rs j)) _
    (sym (may_preempt_was (period_at rs i) (barred rs (task_at rs i).id (task_at rs j).id) (task_at rs i) (task_at rs j)) ∙ may)

-- a task with itself, as its threshold is never below its priority
pub itself_priority : (t : ℕ) (barred : Bool) (i : Task) → i.priority ≤ i.threshold → reason t barred i i ≡ Priority
unfolding reason
itself_priority t barred i right = rw (le-ltb i.threshold i.priority right)

-- two tasks that priority and pairs let nest
module _ (t : ℕ) (i j : Task) (urgent : yields i j ≡ true) where
  -- in different transactions, whatever the times are
  pub apart_transaction : (i.transaction ≡ j.transaction → ⊥) → reason t false i j ≡ Transaction
  unfolding reason
  apart_transaction apart = rw (urgent, ne_eqb i.transaction j.transaction apart)

  -- within one, where the jitter rule holds, whether the response rule does or not
  pub within_jitter : i.transaction ≡ j.transaction → distance t i.offset j.offset < j.jitter → reason t false i j ≡ Jitter
  unfolding reason
  within_jitter within far =
      rw (urgent, eq-eqb i.transaction j.transaction within, lt-ltb (distance t i.offset j.offset) j.jitter far)

-- two tasks that are related by the table's own map, as neighbours in its chain are, have one of the first three
pub related-reason : (rs : List (List ℕ)) → task_count rs ≤ 64 → (i j : ℕ) → T (related rs (map_of rs) i j) → (told (reason_at rs i j)).set ≡ true
related-reason rs few i j p =
    let says = related_says rs (map_of rs) i j p in
    sym (decided-reason rs i j)
    ∙ sym (cell_of_map (task_count rs) (decided rs) i j few says.first says.second)
    ∙ says.set
