-- Sums over paths inside a set of places.
use Rattle.std.specs.Prelude.{ℕ, ◌≤◌, List, ◌∷◌, true, false, ◌≡◌, ◌⊎◌, get_or}
use Rattle.rules.specs.Preempt.{cell, bit_at}
use Rattle.rules.specs.Chains.{weight, Chain, Path, All, Largest}
use Rattle.ceiling.specs.Near.{size_of}

-- r is the largest of the sums at the set's places, or 0
pub record LargestAt (sums : List ℕ) (set r : ℕ) : Type 0 where
  pub most : (j : ℕ) → bit_at set j ≡ true → get_or sums j 0 ≤ r
  pub reached : (r ≡ 0) ⊎ ((j : ℕ) × (bit_at set j ≡ true) × (get_or sums j 0 ≡ r))

-- with the place in front, the list is inside the cover, and neighbours satisfy the relation
abbrev pub StartsAt : ℕ → List ℕ → ℕ → ℕ → List ℕ → Type 0
StartsAt n rows cover i c = Path n (cell rows) (i ∷ c) × All (bit_at cover) (i ∷ c)

-- r is the largest sum of sizes over lists inside the cover that start at place i and where only neighbours must satisfy the
-- relation
abbrev pub PathFrom : ℕ → List ℕ → List ℕ → ℕ → ℕ → ℕ → Type 0
PathFrom n rows sizes cover i r =
    Largest (λ c. Path n (cell rows) (i ∷ c) × All (bit_at cover) (i ∷ c)) (λ c. weight (size_of sizes) (i ∷ c)) r

-- filled holds the best sum of each place of the cover, and elsewhere what the sums were
pub record PathSums (n : ℕ) (rows sizes : List ℕ) (cover : ℕ) (sums filled : List ℕ) : Type 0 where
  pub best : (i : ℕ) → bit_at cover i ≡ true → PathFrom n rows sizes cover i (get_or filled i 0)
  pub kept : (i : ℕ) → bit_at cover i ≡ false → get_or filled i 0 ≡ get_or sums i 0

-- r is the largest sum of sizes over lists inside the cover where only neighbours must satisfy the relation
abbrev pub PathBound : ℕ → List ℕ → List ℕ → ℕ → ℕ → Type 0
PathBound n rows sizes cover r = Largest (λ c. Path n (cell rows) c × All (bit_at cover) c) (weight (size_of sizes)) r

-- no chain inside the cover weighs more than r
abbrev pub NoneAbove : ℕ → List ℕ → List ℕ → ℕ → ℕ → Type 0
NoneAbove n rows sizes cover r =
    (d : List ℕ) → Chain n (cell rows) d → All (bit_at cover) d → weight (size_of sizes) d ≤ r
