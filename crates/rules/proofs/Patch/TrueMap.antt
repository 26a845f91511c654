-- A patch turns its base's true map into its outcome's: a cell that is carried over would be decided as it was before.
use Prim.Native.Nat.{ℕ, ◌<◌}
use mathlib.Core.List.{List}
use mathlib.Core.Bool.{true, false, ◌||◌}
use mathlib.Core.Path.{◌≡◌, ap, sym, ◌∙◌}
use native.Mathlib.Omega.{arith}
use lib.ListN.{length, drop, get_or-append}
use Rattle.rules.specs.Records.{task_count}
use Rattle.rules.specs.Preempt.{cell, decided, map_of, bit_at}
use Rattle.rules.specs.Patches.{outcome, touched, old_place, carried, patched_map}
use Rattle.rules.specs.Calls.{over}
use Rattle.rules.proofs.Numbers.{either}
use Rattle.rules.proofs.Tests.{neither_first, neither_second}
use Rattle.rules.proofs.Maps.{map-length, cell_of_map, map_ext}
use Rattle.rules.proofs.Patch.Valid.{Valid, valid_few_tasks}
use Rattle.rules.proofs.Patch.Untouched.{old_below, untouched_decided}

-- the cells of the map after a patch
module _ (base patch : List (List ℕ)) (rows : List ℕ) (i j : ℕ) where
  -- with neither task touched, the cell is the lent map's at the two old places, whatever it says
  pub carried-over : touched base patch i ≡ false → touched base patch j ≡ false
      → carried base patch rows i j ≡ cell rows (old_place base patch i) (old_place base patch j)
  unfolding carried
  carried-over untouched untouched' = rw (untouched, untouched')

  -- with one of them touched, it is decided again from the outcome
  pub decided_again : (touched base patch i || touched base patch j) ≡ true
      → carried base patch rows i j ≡ decided (outcome base patch) i j
  unfolding carried
  decided_again some = rw some

-- the same of the map's cells themselves, where the outcome is a table
module _ (base patch : List (List ℕ)) (rows : List ℕ) (after : Valid (outcome base patch)) (i j : ℕ)
    (h : i < task_count (outcome base patch)) (l : j < task_count (outcome base patch)) where
  -- cell j of row i is what was carried over or decided
  patched_cell : cell (patched_map base patch rows) i j ≡ carried base patch rows i j
  patched_cell =
      cell_of_map (task_count (outcome base patch)) (carried base patch rows) i j (valid_few_tasks (outcome base patch) after) h l

  -- the lent map's cell, even if that map is wrong there
  pub cell-carried-over : touched base patch i ≡ false → touched base patch j ≡ false
      → cell (patched_map base patch rows) i j ≡ cell rows (old_place base patch i) (old_place base patch j)
  cell-carried-over untouched untouched' = patched_cell ∙ carried-over base patch rows i j untouched untouched'

  -- or the outcome's decision
  pub cell-decided_again : (touched base patch i || touched base patch j) ≡ true
      → cell (patched_map base patch rows) i j ≡ decided (outcome base patch) i j
  cell-decided_again some = patched_cell ∙ decided_again base patch rows i j some

-- a map's cells stand at the start of the rows that it is written over
over-cell : (map rows : List ℕ) (i j : ℕ) → i < length map → cell (over map rows) i j ≡ cell map i j
over-cell map rows i j h = ap (λ (row : ℕ). bit_at row j) (get_or-append map (drop (length map) rows) 0 i h)

-- a cell of a table's true map is what the table decides
pub true_cell : (rs : List (List ℕ)) (rows : List ℕ) → Valid rs → rows ≡ over (map_of rs) rows
    → (i j : ℕ) → i < task_count rs → j < task_count rs → cell rows i j ≡ decided rs i j
true_cell rs rows table right i j h l =
    let few = valid_few_tasks rs table in
    ap (λ (m : List ℕ). cell m i j) right
    ∙ over-cell (map_of rs) rows i j (omega (arith, map-length (task_count rs) (decided rs)))
    ∙ cell_of_map (task_count rs) (decided rs) i j few h l

-- of a true map, a patch makes the true map of its outcome
pub patched_true : (base patch : List (List ℕ)) (rows : List ℕ) → Valid base → Valid (outcome base patch) → rows ≡ over (map_of base) rows
    → patched_map base patch rows ≡ map_of (outcome base patch)
patched_true base patch rows table after right =
    map_ext (task_count (outcome base patch)) (carried base patch rows) (decided (outcome base patch))
    (λ i j h l.
    either (touched base patch i || touched base patch j)
    (decided_again base patch rows i j)
    (λ t.
    let untouched = neither_first (touched base patch i) (touched base patch j) t in
    let untouched' = neither_second (touched base patch i) (touched base patch j) t in
    carried-over base patch rows i j untouched untouched'
    ∙ true_cell base rows table right (old_place base patch i) (old_place base patch j)
    (old_below base patch i untouched table h) (old_below base patch j untouched' table l)
    ∙ sym (untouched_decided base patch table after i j h l untouched untouched')))
