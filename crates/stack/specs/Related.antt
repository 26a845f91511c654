-- The rows of the relation between tasks.
use Rattle.std.specs.Prelude.{ℕ, List, Bool, ◌&&◌, ◌≡◌, length, get_or, ltb}
use Rattle.rules.specs.Preempt.{cell}

-- the place's priority is above this threshold
abbrev pub is_higher : List ℕ → ℕ → ℕ → Bool
is_higher priorities threshold j = ltb threshold (get_or priorities j 0)

-- a set cell of the map counts only where both places hold tasks and the first yields to the second
abbrev pub related_in : ℕ → List ℕ → List ℕ → List ℕ → ℕ → ℕ → Bool
related_in count thresholds priorities map i j =
    (ltb i count && ltb j count)
    && (ltb (get_or thresholds i 0) (get_or priorities j 0) && cell map i j)

-- the rows hold the cells that count
pub record RelatedRows (count : ℕ) (thresholds priorities map rows : List ℕ) : Type 0 where
  pub row_count : length rows ≡ 64
  pub cells : (i j : ℕ) → cell rows i j ≡ related_in count thresholds priorities map i j
