-- Laws of sets of places, by a set's lowest bit and the set of the others, moved down by one.
use Prim.Native.Nat.{ℕ, zero, suc, ◌-◌, ◌/◌, ◌%◌, ◌^◌, ◌≤◌, ◌<◌, min}
use mathlib.Core.List.{List, [], ◌∷◌}
use mathlib.Core.Bool.{Bool, true, false, ◌&&◌, ◌||◌, not}
use mathlib.Core.Path.{◌≡◌, refl, ap, sym, ◌∙◌}
use native.Mathlib.Nat.{pow-suc}
use native.Mathlib.Omega.{arith}
use borrow.Author.Tests.{ltb-true, ltb-false, lt-ltb, le-ltb, eqb-true, eqb-false, eq-eqb, ne_eqb, not-true}
use lib.Dec.{eqb, ltb}
use lib.Pow.{pow_pos}
use lib.Bits.{bit_or, bit_and, and_step, and_le_l}
use lib.Count.{count_trailing_zeros}
use lib.ListN.{get_or}
use Rattle.rules.specs.Preempt.{cell, bit_at}
use Rattle.rules.specs.Chains.{Under, All}
use Rattle.rules.proofs.Numbers.{either, never}
use Rattle.rules.proofs.Tests.{both_first, both_second, T_true, true_T}
use Rattle.rules.proofs.Bits.{bit_shift, bit_none, bit-and, bit-or, bit_of_power, bit_enough, bit_taken}
use Rattle.sets.specs.Places.{Lowest, Without, Shared, Outside, Below, Inside}

-- a number is its bits
pub bits_determined : (k a b : ℕ) → a < 2 ^ k → b < 2 ^ k → ((j : ℕ) → bit_at a j ≡ bit_at b j) → a ≡ b
bits_determined zero a b h l same = omega arith
bits_determined (suc k) a b h l same =
    let halves = bits_determined k (a / 2) (b / 2) (omega (arith, pow-suc 2 k)) (omega (arith, pow-suc 2 k)) (λ j. rw (← bit_shift a j, ← bit_shift b j) (same (suc j))) in
    let whole : (n : ℕ) → n / 1 ≡ n = λ n. omega arith in
    let odd : eqb (a % 2) 1 ≡ eqb (b % 2) 1 = rw (whole a, whole b) at (same zero) in
    either (eqb (a % 2) 1)
    (λ t. omega (arith, halves, eqb-true (a % 2) 1 t, eqb-true (b % 2) 1 (sym odd ∙ t)))
    (λ t. omega (arith, halves, eqb-false (a % 2) 1 t, eqb-false (b % 2) 1 (sym odd ∙ t)))

-- the places that two sets share
pub shared_has : (a b : ℕ) → Shared a b (bit_and a b)
shared_has = bit-and

-- a set with one more place
pub with_bit_has : (a b j : ℕ) → bit_at (bit_or a (2 ^ b)) j ≡ (bit_at a j || eqb j b)
with_bit_has a b j = bit-or a (2 ^ b) j ∙ ap (λ (x : Bool). bit_at a j || x) (bit_of_power b j)

-- a set without one of its places is smaller, and every other place stays as it was
pub without-has : (a p : ℕ) → bit_at a p ≡ true → Without a p (a - 2 ^ p)
without-has a p h =
    let there : a / 2 ^ p % 2 ≡ 1 = eqb-true (a / 2 ^ p % 2) 1 h in
    record { less = omega (arith, bit_enough p a there, pow_pos p); rest = bit_taken a p there }

-- the places of a set that are outside another
outside_bit : (a b j : ℕ) → bit_at (a - bit_and a b) j ≡ (bit_at a j && not (bit_at b j))
outside_bit a b zero =
    let whole : (n : ℕ) → n / 1 ≡ n = λ n. omega arith in
    let low : (a - bit_and a b) % 2 ≡ a % 2 - min (a % 2) (b % 2) = omega (arith, and_step a b, and_le_l (a / 2) (b / 2)) in
    rw (whole (a - bit_and a b), whole a, whole b, low) (odd_outside (a % 2) (b % 2) (omega arith) (omega arith))
  where
    odd_outside : (p q : ℕ) → p < 2 → q < 2 → eqb (p - min p q) 1 ≡ (eqb p 1 && not (eqb q 1))
    odd_outside zero q h l =
        let none : 0 - min 0 q ≡ 0 = omega arith in
        rw none
    odd_outside (suc zero) zero h l = refl
    odd_outside (suc zero) (suc zero) h l = refl
    odd_outside (suc zero) (suc (suc q)) h l = absurd (omega arith)
    odd_outside (suc (suc p)) q h l = absurd (omega arith)
outside_bit a b (suc j) =
    let half : (a - bit_and a b) / 2 ≡ a / 2 - bit_and (a / 2) (b / 2) = omega (arith, and_step a b, and_le_l (a / 2) (b / 2)) in
    rw (bit_shift (a - bit_and a b) j, bit_shift a j, bit_shift b j, half) (outside_bit (a / 2) (b / 2) j)

pub outside_has : (a b : ℕ) → Outside a b (a - bit_and a b)
outside_has a b = record { within = omega arith; apart = outside_bit a b }

-- the zeros below the lowest bit
lowest_there : (k a : ℕ) → 0 < a → a < 2 ^ k → (count_trailing_zeros k a < k) × (a / 2 ^ count_trailing_zeros k a % 2 ≡ 1)
unfolding count_trailing_zeros
lowest_there zero a p h = absurd (omega arith)
lowest_there (suc k) a p h =
    either (eqb (a % 2) 1)
    (λ t. rw (eqb-true (a % 2) 1 t) (omega arith, omega (arith, eqb-true (a % 2) 1 t)))
    (λ t.
    let even : a % 2 ≡ 0 = omega (arith, eqb-false (a % 2) 1 t) in
    let (below, there) = lowest_there k (a / 2) (omega arith) (omega (arith, pow-suc 2 k)) in
    rw even (omega arith, rw bit_shift there))

lowest_least : (k a j : ℕ) → a / 2 ^ j % 2 ≡ 1 → count_trailing_zeros k a ≤ j
unfolding count_trailing_zeros
lowest_least zero a j h = omega arith
lowest_least (suc k) a zero h =
    let odd : a % 2 ≡ 1 = omega arith in
    rw odd (omega arith)
lowest_least (suc k) a (suc j) h =
    let later = lowest_least k (a / 2) j (rw bit_shift at h) in
    either (eqb (a % 2) 1)
    (λ t. rw (eqb-true (a % 2) 1 t) (omega arith))
    (λ t.
    let even : a % 2 ≡ 0 = omega (arith, eqb-false (a % 2) 1 t) in
    rw even (omega arith))

pub lowest-has : (a : ℕ) → 0 < a → a < 2 ^ 64 → Lowest a (count_trailing_zeros 64 a)
lowest-has a p h =
    let (below, there) = lowest_there 64 a p h in
    record {
      below = below;
      there = eq-eqb (a / 2 ^ count_trailing_zeros 64 a % 2) 1 there;
      least = λ j t. lowest_least 64 a j (eqb-true (a / 2 ^ j % 2) 1 t);
    }

-- the places below a count
pub below_has : (count : ℕ) → Below count (2 ^ count - 1)
below_has zero j = bit_none j ∙ sym (le-ltb j 0 (omega arith))
below_has (suc count) zero =
    eq-eqb ((2 ^ suc count - 1) / 1 % 2) 1 (omega (arith, pow-suc 2 count, pow_pos count))
    ∙ sym (lt-ltb 0 (suc count) (omega arith))
below_has (suc count) (suc j) =
    let e : (2 ^ suc count - 1) / 2 ≡ 2 ^ count - 1 = omega (arith, pow-suc 2 count, pow_pos count) in
    rw (bit_shift, e)
    (either (ltb j count)
    (λ t. below_has count j ∙ t ∙ sym (lt-ltb (suc j) (suc count) (omega (arith, ltb-true j count t))))
    (λ t. below_has count j ∙ t ∙ sym (le-ltb (suc j) (suc count) (omega (arith, ltb-false j count t)))))

-- in the set of the places below count every place is below count
pub below_inside : (count set : ℕ) → Below count set → Inside count set
below_inside count set below j h = ltb-true j count (sym (below j) ∙ h)

-- places of a set that are also in a row lie over the row's place, and are in the set
pub shared_under : (n : ℕ) (rows : List ℕ) (set place narrower : ℕ) → Shared set (get_or rows place 0) narrower
    → (e : List ℕ) → All (bit_at narrower) e → Under n (cell rows) place e × All (bit_at set) e
shared_under n rows set place narrower meet [] all = (tt, tt)
shared_under n rows set place narrower meet (j ∷ e) all =
    let h = sym (meet j) ∙ T_true (bit_at narrower j) all.0 in
    let (under, wider) = shared_under n rows set place narrower meet e all.1 in (
      (true_T (cell rows place j) (both_second (bit_at set j) (cell rows place j) h), under),
      (true_T (bit_at set j) (both_first (bit_at set j) (cell rows place j) h), wider),
    )

-- a place of the smaller set is one of the set, and another one than the place taken out
pub without_inside : (a i b : ℕ) → Without a i b → (j : ℕ) → bit_at b j ≡ true → (bit_at a j ≡ true) × (j ≡ i → ⊥)
without_inside a i b taken j h =
    let h' : (bit_at a j && not (eqb j i)) ≡ true = sym (taken.rest j) ∙ h in (
      both_first (bit_at a j) (not (eqb j i)) h',
      λ e. never (eqb j i) (eq-eqb j i e) (not-true (eqb j i) (both_second (bit_at a j) (not (eqb j i)) h')),
    )

-- a place outside the smaller set is outside the set, or the place taken out
pub without_outside {ℓ} : {A : Type ℓ} (a i b : ℕ) → Without a i b → (j : ℕ) → bit_at b j ≡ false → (bit_at a j ≡ false → A) → (j ≡ i → A) → A
without_outside a i b taken j h outside out =
    either (bit_at a j)
    (λ t. either (eqb j i)
    (λ e. out (eqb-true j i e))
    (λ e. never (bit_at b j) (taken.rest j ∙ rw (t, e)) h))
    outside

-- a set without one of its places is as it was elsewhere, and the place is gone
pub without_other : (set i smaller : ℕ) → Without set i smaller → (j : ℕ) → (j ≡ i → ⊥) → bit_at smaller j ≡ bit_at set j
without_other set i smaller taken j differ = taken.rest j ∙ rw (ne_eqb j i differ) (either (bit_at set j) (λ t. rw t) (λ t. rw t))

pub without_gone : (set i smaller : ℕ) → Without set i smaller → bit_at smaller i ≡ false
without_gone set i smaller taken = taken.rest i ∙ rw (eq-eqb i i refl) (either (bit_at set i) (λ t. rw t) (λ t. rw t))
