-- The new map from what is read of outcome and base.
use Rattle.std.specs.Prelude.{ℕ, List, Bool, cond, ◌||◌, ◌≡◌, get_or}
use Rattle.rules.specs.Preempt.{cell, bit_at}
use Rattle.rules.specs.Patches.{touched_count, patched_map}
use Rattle.preempt.specs.Tasks.{decided_by}
use Rattle.patch.specs.declared.carried.Carried.{Carried}
use Rattle.patch.specs.declared.carried.Standing.{Standing}

-- a cell of row i of a task that is not touched: with a touched task it is decided, and any other is that of the base's row
-- at the old place
unfoldable pub cell_carried : Standing → ℕ → ℕ → ℕ → Bool
cell_carried s row i j =
    cond (bit_at s.touched j) (decided_by s.related.tasks.columns s.related.barred i j) (bit_at row (get_or s.old j 0))

-- a cell of row i: with a touched task it is decided, and any other is the lent map's at the two old places
unfoldable pub cell_new : Standing → List ℕ → ℕ → ℕ → Bool
cell_new s rows i j =
    cond (bit_at s.touched i || bit_at s.touched j)
    (decided_by s.related.tasks.columns s.related.barred i j)
    (cell rows (get_or s.old i 0) (get_or s.old j 0))

-- the map of the outcome, and the number of touched tasks
pub record MapCarried (base patch : List (List ℕ)) (rows : List ℕ) (r : Carried) : Type 0 where
  pub map : r.map ≡ patched_map base patch rows
  pub touched : r.touched ≡ touched_count base patch
