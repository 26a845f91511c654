-- The largest size at each priority, and their sum.
use Rattle.std.specs.Prelude.{ℕ, ◌+◌, List, cond, ◌≡◌, length, get_or, eqb}
use Rattle.rules.specs.Numbers.{sum_to, largest_to}

-- a task's size where it has the priority, else 0
abbrev pub size_with : List ℕ → List ℕ → ℕ → ℕ → ℕ
size_with priorities sizes p i = cond (eqb (get_or priorities i 0) p) (get_or sizes i 0) 0

-- the largest size of the first count tasks at a priority, 0 where the priority is not in use
abbrev pub level_in : List ℕ → List ℕ → ℕ → ℕ → ℕ
level_in priorities sizes count p = largest_to (size_with priorities sizes p) count

-- for each priority in use the largest size, added up
abbrev pub levels_of : List ℕ → List ℕ → ℕ → ℕ
levels_of priorities sizes count = sum_to (level_in priorities sizes count) (largest_to (λ i. get_or priorities i 0) count + 1)

-- a size of 0 for each priority
pub record Blank (largest : List ℕ) : Type 0 where
  pub priority_count : length largest ≡ 256
  pub zero : (p : ℕ) → get_or largest p 0 ≡ 0

-- the largest size for each priority
pub record LargestSizes (count : ℕ) (priorities sizes largest : List ℕ) : Type 0 where
  pub priority_count : length largest ≡ 256
  pub levels : (p : ℕ) → get_or largest p 0 ≡ level_in priorities sizes count p
