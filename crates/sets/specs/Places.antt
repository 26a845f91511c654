-- What holds of sets of places, numbers whose bit j says whether place j is in the set.
use Rattle.std.specs.Prelude.{ℕ, ◌≤◌, ◌<◌, true, ◌&&◌, not, ◌≡◌, eqb, ltb, Option, Some, None}
use Rattle.rules.specs.Preempt.{bit_at}

-- place i is in the set, and no lower place is
pub record Lowest (set i : ℕ) : Type 0 where
  pub below : i < 64
  pub there : bit_at set i ≡ true
  pub least : (j : ℕ) → bit_at set j ≡ true → i ≤ j

-- smaller is the set without its place i
pub record Without (set i smaller : ℕ) : Type 0 where
  pub less : smaller < set
  pub rest : (j : ℕ) → bit_at smaller j ≡ (bit_at set j && not (eqb j i))

-- the lowest place of a set is taken out of it, and none where it is empty
abbrev pub TakesLowest : ℕ → Option ℕ → ℕ → Type 0
TakesLowest set None smaller = (set ≡ 0) × (smaller ≡ 0)
TakesLowest set (Some place) smaller = Lowest set place × Without set place smaller

-- both holds the places that a and b share
abbrev pub Shared : ℕ → ℕ → ℕ → Type 0
Shared a b both = (j : ℕ) → bit_at both j ≡ (bit_at a j && bit_at b j)

-- rest holds the places of a that b has not, and is no larger a number
pub record Outside (a b rest : ℕ) : Type 0 where
  pub within : rest ≤ a
  pub apart : (j : ℕ) → bit_at rest j ≡ (bit_at a j && not (bit_at b j))

-- the set holds the places below count
abbrev pub Below : ℕ → ℕ → Type 0
Below count set = (j : ℕ) → bit_at set j ≡ ltb j count

-- every place of the set is below count
abbrev pub Inside : ℕ → ℕ → Type 0
Inside count set = (j : ℕ) → bit_at set j ≡ true → j < count

-- whatever is answered of a place below count is what the function says of it
abbrev pub Tells : {A : Type 0} → ℕ → (ℕ → A → Type 0) → (ℕ → A) → Type 0
Tells {A} count answers f = (place : ℕ) (answer : A) → place < count → answers place answer → answer ≡ f place
