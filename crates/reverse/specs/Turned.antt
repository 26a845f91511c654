-- Records that are written one after another into a list of bytes.
use Rattle.std.specs.Prelude.{ℕ, ◌+◌, ◌*◌, List, ◌++◌, ◌≡◌, length, take}
use Rattle.rules.specs.Blocks.{joined}

-- the records stand behind the first `before` bytes, which are as they were, and `written` bytes are written then
pub record Behind (rs : List (List ℕ)) (before written : ℕ) (flat later : List ℕ) : Type 0 where
  pub size : written ≡ before + 32 * length rs
  pub same_length : length later ≡ length flat
  pub bytes : take written later ≡ take before flat ++ joined rs
