-- Reached by one step or more, over any numbers and any step between two of them.
use Rattle.std.specs.Prelude.{ℕ, zero, suc, Bool, true, ◌&&◌, ◌||◌, ◌≡◌}

-- a path of one or more steps leads from a to b
pub data Reaches (step : ℕ → ℕ → Bool) : ℕ → ℕ → Type 0 where
  one : {a b : ℕ} → step a b ≡ true → Reaches step a b
  more : {a b c : ℕ} → step a b ≡ true → Reaches step b c → Reaches step a c

-- the same, worked out: a path leads from a to b, and between them through none but the first k of the numbers at 0, at 1, ..
unfoldable pub reaches : (ℕ → ℕ → Bool) → (ℕ → ℕ) → ℕ → ℕ → ℕ → Bool
reaches step at zero a b = step a b
reaches step at (suc k) a b = reaches step at k a b || (reaches step at k a (at k) && reaches step at k (at k) b)
