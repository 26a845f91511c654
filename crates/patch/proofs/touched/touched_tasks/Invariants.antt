-- The loop keeps the set of the tasks that one of the records passed touches.
use Prim.Native.Nat.{ℕ}
use mathlib.Core.List.{List, []}
use mathlib.Core.Bool.{Bool}
use lib.ListN.{get_or}
use Rattle.rules.specs.Numbers.{some}
use Rattle.rules.specs.Blocks.{records}
use Rattle.patch.specs.declared.related.Related.{Related}
use Rattle.patch.specs.Touched.{Marks, touched_in}
use Rattle.patch.proofs.touched.touched_tasks.Given as goal

-- whether record j touches the task at place i
abbrev pub is_touched : List (List ℕ) → Related → ℕ → ℕ → Bool
is_touched ps r i j = touched_in r (get_or ps j []) i

abbrev pub invariant-loop-place : goal.invariant-loop-place
invariant-loop-place l = Marks l.related.tasks (λ i. some (is_touched (records l.patch.image.now) l.related i) l.place) l.set
