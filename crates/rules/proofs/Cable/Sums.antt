-- Two sums that differ by a weight times a difference of bytes differ modulo 65,521.
use Prim.Native.Nat.{ℕ, ◌+◌, ◌*◌, ◌-◌, ◌%◌, ◌≤◌, ◌<◌}
use mathlib.Core.Bool.{Bool, false}
use mathlib.Core.Path.{◌≡◌, refl, ap, sym, ◌∙◌}
use native.Mathlib.Nat.{mul-le-mul, mul-mod_left, mul-add}
use native.Mathlib.Omega.{arith}
use borrow.Author.Tests.{eqb-false, ltb-true, ltb-false}
use lib.Dec.{eqb, ltb}
use Rattle.rules.specs.Numbers.{some, lowest}
use Rattle.rules.proofs.Numbers.{either, some_fails}

-- 65,521 is prime: nothing from 2 to 255 divides it, and 256 times 256 is more
abbrev divided : ℕ → Bool
divided k = eqb (65521 % (k + 2)) 0

prime : some divided 254 ≡ false
unfolding lowest
prime = refl

-- so no weight, 1 to 510, times a difference of bytes, 1 to 255, is a multiple of it: it would be 65,521 itself
no_multiple : (w d : ℕ) → 0 < w → w ≤ 510 → 0 < d → d ≤ 255 → w * d % 65521 ≡ 0 → ⊥
no_multiple w d weighs weight differs difference multiple =
    let most : w * d ≤ 510 * 255 = mul-le-mul weight difference in
    let least : 1 * 1 ≤ w * d = mul-le-mul weighs differs in
    let itself : w * d ≡ 65521 = omega arith in
    either (ltb d 2)
    (λ t.
    let one : d ≡ 1 = omega (arith, ltb-true d 2 t) in
    let alone : w * 1 ≡ 65521 = rw one at itself in
    omega arith)
    (λ t.
    let divisor : d - 2 + 2 ≡ d = omega (arith, ltb-false d 2 t) in
    let remainder : 65521 % d ≡ 0 = rw itself at (mul-mod_left w d) in
    eqb-false (65521 % (d - 2 + 2)) 0 (some_fails divided 254 (d - 2) (omega arith) prime) (rw divisor remainder))

-- a byte of this weight grew from x to y: the remainders of the two sums differ
grown : (s t w x y : ℕ) → t + w * x ≡ s + w * y → 0 < w → w ≤ 510 → y < 256 → x < y → s % 65521 ≡ t % 65521 → ⊥
grown s t w x y e weighs weight byte less same =
    let product : w * y ≡ w * x + w * (y - x) = ap (λ n. w * n) (omega arith) ∙ mul-add w x (y - x) in
    no_multiple w (y - x) weighs weight (omega arith) (omega arith) (omega arith)

-- and so where it became any other byte
pub sums_apart : (s t w x y : ℕ) → t + w * x ≡ s + w * y → 0 < w → w ≤ 510 → x < 256 → y < 256 → (y ≡ x → ⊥)
    → s % 65521 ≡ t % 65521 → ⊥
sums_apart s t w x y e weighs weight old new other same =
    either (ltb x y)
    (λ l. grown s t w x y e weighs weight new (ltb-true x y l) same)
    (λ l.
    let less : y < x = omega (arith, ltb-false x y l, other) in
    grown t s w y x (sym e) weighs weight old less (sym same))
