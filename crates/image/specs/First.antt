-- The first of the numbers from 0 up to n that passes a test.
use Rattle.std.specs.Prelude.{ℕ, Option, Some, None, Bool, cond}
use Rattle.rules.specs.Numbers.{lowest, some}

-- none where none passes
abbrev pub first : (ℕ → Bool) → ℕ → Option ℕ
first test n = cond (some test n) (Some (lowest test n)) None
