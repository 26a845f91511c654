-- Laws of single bits: of a power of two, of two numbers joined by or, and of a sum of powers.
use Prim.Native.Nat.{ℕ, zero, suc, ◌+◌, ◌*◌, ◌-◌, ◌/◌, ◌%◌, ◌^◌, ◌≤◌, ◌<◌, min, max}
use mathlib.Core.Bool.{Bool, true, false, cond, ◌&&◌, ◌||◌, not}
use mathlib.Core.Path.{◌≡◌, refl, ap, sym, ◌∙◌}
use native.Mathlib.Nat.{pow-suc, div-eq_of_lt, add-mul-div_right, add-zero, zero-add}
use native.Mathlib.Omega.{arith}
use borrow.Author.Tests.{ltb-true, ltb-false, eq-eqb, ne_eqb, eqb-true, eqb-false}
use lib.Bits.{bit_or, bit_and, or_shr, or_step, and_shr, and_step}
use lib.Pow.{pow_pos, pow-add, pow-lt, high, shr-shr, shl_exact}
use lib.Dec.{ltb, eqb}
use Rattle.rules.specs.Numbers.{sum_to}
use Rattle.rules.specs.Preempt.{bit_at}
use Rattle.rules.proofs.Numbers.{either, sum_to_step, sum_to_zero, sum_to_ext}

-- the number whose bits below n are set where the test passes
abbrev pub bits_to : (ℕ → Bool) → ℕ → ℕ
bits_to test n = sum_to (λ j. cond (test j) (2 ^ j) 0) n

-- a higher power of two is an even multiple of a lower one
higher_power : (j m : ℕ) → j < m → 2 ^ m ≡ (2 ^ (m - j - 1) * 2) * 2 ^ j
higher_power j m h =
    let e : m ≡ (suc (m - j - 1)) + j = omega arith in
    ap (λ (n : ℕ). 2 ^ n) e ∙ pow-add 2 (suc (m - j - 1)) j ∙ ap (λ (n : ℕ). n * 2 ^ j) (pow-suc 2 (m - j - 1))

-- a higher power added leaves the bits below it as they are
pub bit_below : (s j m : ℕ) → j < m → bit_at (s + 2 ^ m) j ≡ bit_at s j
bit_below s j m h =
    let e : (s + 2 ^ m) / 2 ^ j ≡ s / 2 ^ j + 2 ^ (m - j - 1) * 2 = ap (λ (n : ℕ). (s + n) / 2 ^ j) (higher_power j m h) ∙ add-mul-div_right s (2 ^ (m - j - 1) * 2) (pow_pos j) in
    let even : (s / 2 ^ j + 2 ^ (m - j - 1) * 2) % 2 ≡ s / 2 ^ j % 2 = omega arith in
    ap (λ (n : ℕ). eqb (n % 2) 1) e ∙ ap (λ (n : ℕ). eqb n 1) even

-- a number below a power of two lacks its bit, and has it where the power is added
pub bit_lacks : (s m : ℕ) → s < 2 ^ m → bit_at s m ≡ false
bit_lacks s m h = rw (div-eq_of_lt h)

pub bit_added : (s m : ℕ) → s < 2 ^ m → bit_at (s + 2 ^ m) m ≡ true
bit_added s m h =
    let e : s + 2 ^ m ≡ 1 * 2 ^ m + s = omega arith in
    ap (λ (n : ℕ). eqb (n % 2) 1) (ap (λ (n : ℕ). n / 2 ^ m) e ∙ high 1 m h)

-- a power of two has one bit
pub bit_of_power : (b j : ℕ) → bit_at (2 ^ b) j ≡ eqb j b
bit_of_power b j =
    ap (λ (n : ℕ). bit_at n j) (sym (zero-add (2 ^ b)))
    ∙ either (ltb j b)
    (λ t.
    let below = ltb-true j b t in
    bit_below 0 j b below ∙ bit_lacks 0 j (pow_pos j) ∙ sym (ne_eqb j b (λ e. omega arith)))
    (λ t.
    either (eqb j b)
    (λ u. rw (eqb-true j b u, eq-eqb b b refl) (bit_added 0 b (pow_pos b)))
    (λ u.
    let above : b < j = omega (arith, ltb-false j b t, eqb-false j b u) in
    ap (λ (n : ℕ). bit_at n j) (zero-add (2 ^ b)) ∙ bit_lacks (2 ^ b) j (pow-lt above) ∙ sym u))

-- the lowest bit of two numbers joined
lowest_or : (x y : ℕ) → eqb (bit_or x y % 2) 1 ≡ (eqb (x % 2) 1 || eqb (y % 2) 1)
lowest_or x y =
    let e : bit_or x y % 2 ≡ max (x % 2) (y % 2) = omega (arith, or_step x y) in
    ap (λ (n : ℕ). eqb n 1) e
    ∙ either (eqb (x % 2) 1)
    (λ t. rw (t, eq-eqb (max (x % 2) (y % 2)) 1 (omega (arith, eqb-true (x % 2) 1 t))))
    (λ t.
    let same : max (x % 2) (y % 2) ≡ y % 2 = omega (arith, eqb-false (x % 2) 1 t) in
    rw (t, same))

-- bit j of two numbers joined is set where it is set in either
pub bit-or : (a b j : ℕ) → bit_at (bit_or a b) j ≡ (bit_at a j || bit_at b j)
bit-or a b j = ap (λ (n : ℕ). eqb (n % 2) 1) (or_shr a b j) ∙ lowest_or (a / 2 ^ j) (b / 2 ^ j)

-- a sum of powers of two below n is below 2 ^ n
pub bits_small : (set : ℕ → Bool) (n : ℕ) → bits_to set n < 2 ^ n
unfolding sum_to
bits_small set zero = omega arith
bits_small set (suc n) =
    either (set n)
    (λ t. rw t (omega (arith, bits_small set n, pow-suc 2 n)))
    (λ t. rw t (omega (arith, bits_small set n, pow-suc 2 n)))

-- and its bits are those of the test
pub bits_at : (set : ℕ → Bool) (n j : ℕ) → j < n → bit_at (bits_to set n) j ≡ set j
unfolding sum_to
bits_at set zero j h = absurd (omega arith)
bits_at set (suc n) j h =
    either (ltb j n)
    (λ t.
    let below = ltb-true j n t in
    either (set n)
    (λ u. rw u (bit_below (bits_to set n) j n below ∙ bits_at set n j below))
    (λ u. rw u (ap (λ (s : ℕ). bit_at s j) (add-zero (bits_to set n)) ∙ bits_at set n j below)))
    (λ t.
    let here : j ≡ n = omega (arith, ltb-false j n t) in
    rw here
    (either (set n)
    (λ u. rw u (bit_added (bits_to set n) n (bits_small set n)))
    (λ u. rw u (ap (λ (s : ℕ). bit_at s n) (add-zero (bits_to set n)) ∙ bit_lacks (bits_to set n) n (bits_small set n)))))

-- one more bit that is set, or is not
pub bits_more : (set : ℕ → Bool) (n : ℕ) → set n ≡ true → bits_to set (n + 1) ≡ bits_to set n + 2 ^ n
bits_more set n e = sum_to_step (λ j. cond (set j) (2 ^ j) 0) n ∙ rw e

pub bits_same : (set : ℕ → Bool) (n : ℕ) → set n ≡ false → bits_to set (n + 1) ≡ bits_to set n
bits_same set n e = sum_to_step (λ j. cond (set j) (2 ^ j) 0) n ∙ rw e (add-zero (bits_to set n))

-- where no bit is set from n on, those below n are all
pub bits_end : (set : ℕ → Bool) (n m : ℕ) → n ≤ m → ((j : ℕ) → n ≤ j → set j ≡ false) → bits_to set m ≡ bits_to set n
unfolding sum_to
bits_end set n zero h none =
    let e : n ≡ 0 = omega arith in
    rw e
bits_end set n (suc m) h none =
    either (ltb m n)
    (λ t.
    let e : n ≡ suc m = omega (arith, ltb-true m n t) in
    rw e)
    (λ t.
    let past = ltb-false m n t in
    rw (none m past) (add-zero (bits_to set m) ∙ bits_end set n m past none))

-- where no bit is set, the number is 0
pub bits_none : (set : ℕ → Bool) (n : ℕ) → ((j : ℕ) → set j ≡ false) → bits_to set n ≡ 0
bits_none set n none = bits_end set 0 n (omega arith) (λ j h. none j) ∙ sum_to_zero (λ j. cond (set j) (2 ^ j) 0)

-- a number of n bits is made of its bits
pub bits_made : (x n : ℕ) → x < 2 ^ n → x ≡ bits_to (bit_at x) n
unfolding sum_to
bits_made x zero h = omega arith
bits_made x (suc n) h =
    either (ltb x (2 ^ n))
    (λ t.
    let small = ltb-true x (2 ^ n) t in
    rw (bit_lacks x n small) (bits_made x n small ∙ sym (add-zero (bits_to (bit_at x) n))))
    (λ t.
    let rest = x - 2 ^ n in
    let parts : x ≡ rest + 2 ^ n = omega (arith, ltb-false x (2 ^ n) t) in
    let small : rest < 2 ^ n = omega (arith, pow-suc 2 n) in
    let top : bit_at x n ≡ true = ap (λ (y : ℕ). bit_at y n) parts ∙ bit_added rest n small in
    let others : bits_to (bit_at x) n ≡ bits_to (bit_at rest) n = sum_to_ext (λ j. cond (bit_at x j) (2 ^ j) 0) (λ j. cond (bit_at rest j) (2 ^ j) 0) n (λ j l. ap (λ (b : Bool). cond b (2 ^ j) 0) (ap (λ (y : ℕ). bit_at y j) parts ∙ bit_below rest j n l)) in
    rw (top, others) (parts ∙ ap (λ (y : ℕ). y + 2 ^ n) (bits_made rest n small)))

-- a bit above the lowest is the one below it in the number moved down
pub bit_shift : (a j : ℕ) → a / 2 ^ suc j ≡ a / 2 / 2 ^ j
bit_shift a j =
    let e : 1 + j ≡ suc j = omega arith in
    sym (shr-shr a 1 j ∙ ap (λ (n : ℕ). a / 2 ^ n) e)

-- no bit of 0 is set
pub bit_none : (j : ℕ) → bit_at 0 j ≡ false
bit_none j = bit_lacks 0 j (pow_pos j)

-- what two bits share
shared_bit : (x y : ℕ) → x < 2 → y < 2 → eqb (min x y) 1 ≡ (eqb x 1 && eqb y 1)
shared_bit x y p q =
    either (eqb x 1)
    (λ s.
    let e : x ≡ 1 = eqb-true x 1 s in
    either (eqb y 1)
    (λ t.
    let f : y ≡ 1 = eqb-true y 1 t in
    rw (e, f))
    (λ t. rw (t, s) (ne_eqb (min x y) 1 (λ g. eqb-false y 1 t (omega arith)))))
    (λ s. rw s (ne_eqb (min x y) 1 (λ g. eqb-false x 1 s (omega arith))))

-- bit j of what two numbers share is set where it is set in both
pub bit-and : (a b j : ℕ) → bit_at (bit_and a b) j ≡ (bit_at a j && bit_at b j)
bit-and a b j =
    let x : ℕ = a / 2 ^ j in
    let y : ℕ = b / 2 ^ j in
    let low : bit_and x y % 2 ≡ min (x % 2) (y % 2) = omega (arith, and_step x y) in
    rw (and_shr a b j, low) (shared_bit (x % 2) (y % 2) (omega arith) (omega arith))

-- a number is no smaller than the power of 2 of one of its bits
pub bit_enough : (p a : ℕ) → a / 2 ^ p % 2 ≡ 1 → 2 ^ p ≤ a
bit_enough zero a h = omega arith
bit_enough (suc p) a h = rw pow-suc (omega (arith, bit_enough p (a / 2) (rw bit_shift at h)))

-- which is then taken from it: the bit is gone, and every other one stays as it was
taken_gone : (p a : ℕ) → a / 2 ^ p % 2 ≡ 1 → (a - 2 ^ p) / 2 ^ p % 2 ≡ 0
taken_gone zero a h = omega arith
taken_gone (suc p) a h =
    let h' : a / 2 / 2 ^ p % 2 ≡ 1 = rw bit_shift at h in
    let e : (a - 2 ^ suc p) / 2 ≡ a / 2 - 2 ^ p = omega (arith, pow-suc 2 p, bit_enough p (a / 2) h') in
    rw (bit_shift, e) (taken_gone p (a / 2) h')

taken_stays : (p a j : ℕ) → a / 2 ^ p % 2 ≡ 1 → (j ≡ p → ⊥) → (a - 2 ^ p) / 2 ^ j % 2 ≡ a / 2 ^ j % 2
taken_stays zero a zero h n = absurd (n refl)
taken_stays zero a (suc j) h n =
    let e : (a - 1) / 2 ≡ a / 2 = omega arith in
    rw (bit_shift (a - 1) j, bit_shift a j, e)
taken_stays (suc p) a zero h n = omega (arith, pow-suc 2 p, bit_enough p (a / 2) (rw bit_shift at h))
taken_stays (suc p) a (suc j) h n =
    let h' : a / 2 / 2 ^ p % 2 ≡ 1 = rw bit_shift at h in
    let e : (a - 2 ^ suc p) / 2 ≡ a / 2 - 2 ^ p = omega (arith, pow-suc 2 p, bit_enough p (a / 2) h') in
    rw (bit_shift (a - 2 ^ suc p) j, bit_shift a j, e) (taken_stays p (a / 2) j h' (λ f. n (omega arith)))

pub bit_taken : (a p : ℕ) → a / 2 ^ p % 2 ≡ 1 → (j : ℕ) → bit_at (a - 2 ^ p) j ≡ (bit_at a j && not (eqb j p))
bit_taken a p there j =
    either (eqb j p)
    (λ t.
    let e : j ≡ p = eqb-true j p t in
    rw (e, taken_gone p a there, there, eq-eqb p p refl))
    (λ t. rw (t, taken_stays p a j there (eqb-false j p t)) (sym (and-true (bit_at a j))))
  where
    and-true : (b : Bool) → (b && true) ≡ b
    and-true true = refl
    and-true false = refl

-- a shift of 1 by fewer than 64 places loses nothing
pub power_fits : (p : ℕ) → p < 64 → (1 * 2 ^ p) % 18446744073709551616 ≡ 2 ^ p
power_fits p h = shl_exact {a = 1} 1 p 64 (omega arith) (omega arith) ∙ omega arith
