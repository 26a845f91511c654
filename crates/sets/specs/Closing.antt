-- Rows of cells, and paths over them.
use Rattle.std.specs.Prelude.{ℕ, List, Bool, ◌&&◌, ◌||◌, ◌≡◌, eqb}
use Rattle.rules.specs.Preempt.{bit_at, cell, map_from}

-- the rows have no cells but those of the first n places
abbrev pub IsMap : ℕ → List ℕ → Type 0
IsMap n rows = rows ≡ map_from n (cell rows)

-- a test passes for two places, or for the first and k and for k and the second
abbrev pub through_one : (ℕ → ℕ → Bool) → ℕ → ℕ → ℕ → Bool
through_one test k i j = test i j || (test i k && test k j)

-- the cell of the place is set besides in the rows of all places of the set
abbrev pub ColumnAdded : ℕ → ℕ → List ℕ → List ℕ → Type 0
ColumnAdded set place rows later =
    (i j : ℕ) → cell later i j ≡ (cell rows i j || (bit_at set i && eqb j place))
