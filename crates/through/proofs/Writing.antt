-- The figures, written one by one over the start of the room.
use Prim.Native.Nat.{ℕ, ◌+◌, ◌<◌}
use mathlib.Core.List.{List}
use mathlib.Core.Path.{◌≡◌, refl, ◌∙◌}
use lib.IntN.{ℤ}
use lib.ListN.{length, set}
use Rattle.rules.specs.Numbers.{up_to}
use Rattle.rules.specs.Calls.{over}
use Rattle.rules.proofs.Numbers.{up_to_step, length-up_to}
use Rattle.stack.proofs.Writing.{stored_next}

-- no figure is written yet
pub figures_none : (f : ℕ → ℤ) (l : List ℤ) → l ≡ over (up_to f 0) l
unfolding up_to
figures_none f l = refl

-- one more is
pub figures_next : (f : ℕ → ℤ) (l : List ℤ) (k : ℕ) (v : ℤ) → k < length l → v ≡ f k → set (over (up_to f k) l) k v ≡ over (up_to f (k + 1)) l
figures_next f l k v room here =
    stored_next (up_to f k) l k v (length-up_to f k) room ∙ rw (up_to_step f k, here)
