-- What 64 bits say with a sign, cast to a number without one: a number that is not below zero says itself, and one that is
-- below is taken from -1 first, which leaves no sign and never leaves the bits.
use Prim.Native.Nat.{suc}
use mathlib.Core.Bool.{true, false}
use mathlib.Core.Path.{◌≡◌, refl, ap, sym, subst, ◌∙◌}
use native.Mathlib.Nat.{not-suc-le-zero}
use native.Mathlib.Omega.{arith}
use borrow.Author.Tests.{le-leb, le-ltb, leb-false}
use lib.Dec.{T, ltb}
use lib.IntN.{ℤ, pos, negsuc, nat_abs, ◌-ℤ◌}
use lib.Signed.{mag, le_z, lt_z, non_neg, le_z_yes, yes_non_neg}
use mir.Syntax.{w64}
use mir.Val.{Fits, SFits, to_z, of_z}
use mir.Facts.{to_z-of_z, Fits-nat_abs}
use Rattle.rules.proofs.Numbers.{never}

-- zero is not at most a number that is below it
pub is_below : (z : ℤ) → lt_z z (pos 0) ≡ true → le_z (pos 0) z ≡ false
is_below (pos n) h = never (ltb n 0) h (le-ltb n 0 (omega arith))
is_below (negsuc n) h = refl

-- and it is at most every other number
pub not_below : (z : ℤ) → lt_z z (pos 0) ≡ false → le_z (pos 0) z ≡ true
not_below (pos n) h = le-leb 0 n (omega arith)
not_below (negsuc n) h = never (lt_z (negsuc n) (pos 0)) refl h

-- a number below zero that is taken from -1 leaves how far it is from -1
from_minus_one : (z : ℤ) → le_z (pos 0) z ≡ false → negsuc 0 -ℤ z ≡ pos (mag z)
from_minus_one (pos n) h = absurd (not-suc-le-zero (leb-false 0 n h))
from_minus_one (negsuc n) h = rw (le-ltb (suc n) 1 (omega arith)) (ap pos (omega arith))

-- a number that fits 64 bits with a sign, as it is read from its bits
module _ (z : ℤ) (held : SFits w64 z) where
  -- one that is not below zero may be cast as it is
  pub plain_cast : le_z (pos 0) (to_z w64 (of_z w64 z)) ≡ true → T (non_neg (to_z w64 (of_z w64 z))) × Fits w64 (nat_abs (to_z w64 (of_z w64 z)))
  plain_cast above =
      (yes_non_neg {z = to_z w64 (of_z w64 z)} (le_z_yes (subst T (sym above) tt)), subst (λ (v : ℤ). Fits w64 (nat_abs v)) (sym (to_z-of_z held)) (Fits-nat_abs tt held))

  -- one that is below zero
  module _ (below : le_z (pos 0) (to_z w64 (of_z w64 z)) ≡ false) where
    -- is below zero before it is written as bits too
    pub read_below : le_z (pos 0) z ≡ false
    read_below = subst (λ (v : ℤ). le_z (pos 0) v ≡ false) (to_z-of_z held) below

    -- leaves the same where it is taken from -1
    mirror : negsuc 0 -ℤ to_z w64 (of_z w64 z) ≡ pos (mag z)
    mirror = subst (λ (v : ℤ). negsuc 0 -ℤ v ≡ pos (mag z)) (sym (to_z-of_z held)) (from_minus_one z read_below)

    -- what is left fits 64 bits with a sign
    pub mirror_fits : SFits w64 (negsuc 0 -ℤ to_z w64 (of_z w64 z))
    mirror_fits = subst (SFits w64) (sym mirror) (record { sfits = held.sfits })

    -- so it is read from its bits as it was written
    pub mirror_read : to_z w64 (of_z w64 (negsuc 0 -ℤ to_z w64 (of_z w64 z))) ≡ pos (mag z)
    mirror_read = to_z-of_z mirror_fits ∙ mirror

    -- and may be cast as it is
    pub mirror_cast : T (non_neg (to_z w64 (of_z w64 (negsuc 0 -ℤ to_z w64 (of_z w64 z))))) × Fits w64 (nat_abs (to_z w64 (of_z w64 (negsuc 0 -ℤ to_z w64 (of_z w64 z)))))
    mirror_cast =
        subst (λ (v : ℤ). T (non_neg v) × Fits w64 (nat_abs v)) (sym mirror_read) (tt, record { fits = omega (arith, held.sfits) })
