-- Laws of tests: what it says that two of them hold, or that neither does.
use Prim.Native.Nat.{ℕ}
use mathlib.Core.Bool.{Bool, true, false, ◌&&◌, ◌||◌, not}
use mathlib.Core.Path.{◌≡◌, refl, sym}
use mathlib.Core.Logic.{◌⊎◌, inl, inr}
use borrow.Author.Tests.{eqb-true, eq-eqb, ltb-true, ltb-false, le-leb, lt-leb, not-false}
use lib.Dec.{T, eqb, ltb, leb}
use Rattle.rules.proofs.Numbers.{either, never}

-- where neither of two holds, the first does not, and the second does not
pub neither_first : (a b : Bool) → (a || b) ≡ false → a ≡ false
neither_first true b h = h
neither_first false b h = refl

pub neither_second : (a b : Bool) → (a || b) ≡ false → b ≡ false
neither_second true b h = never true refl h
neither_second false b h = h

-- and where each of two fails, neither of them holds
pub neither : (a b : Bool) → a ≡ false → b ≡ false → (a || b) ≡ false
neither a b p q = rw (p, q)

-- neither of two holds exactly where each fails
pub not_either : (a b : Bool) → not (a || b) ≡ (not a && not b)
not_either true b = refl
not_either false b = refl

-- where both of two hold, the first does, and the second does
pub both_first : (a b : Bool) → (a && b) ≡ true → a ≡ true
both_first true b h = refl
both_first false b h = h

pub both_second : (a b : Bool) → (a && b) ≡ true → b ≡ true
both_second true b h = h
both_second false b h = never false h refl

-- two tests of which each holds where the other does are equal
pub same_tests : (a b : Bool) → (a ≡ true → b ≡ true) → (b ≡ true → a ≡ true) → a ≡ b
same_tests true b there back = sym (there refl)
same_tests false true there back = back refl
same_tests false false there back = refl

-- a test that holds does not fail
pub not_fails : (b : Bool) → b ≡ true → not b ≡ false
not_fails b h = rw h

-- two numbers of which a test does not say that they differ are equal, and the other way round
pub same_numbers : (x y : ℕ) → not (eqb x y) ≡ false → x ≡ y
same_numbers x y h = eqb-true x y (not-false (eqb x y) h)

pub not_different : (x y : ℕ) → x ≡ y → not (eqb x y) ≡ false
not_different x y h = not_fails (eqb x y) (eq-eqb x y h)

-- a number is not below another exactly where that is at most it
pub not_below : (x y : ℕ) → not (ltb x y) ≡ leb y x
not_below x y =
    either (ltb x y)
    (λ t. rw t (sym (lt-leb y x (ltb-true x y t))))
    (λ t. rw t (sym (le-leb y x (ltb-false x y t))))

-- a test that holds has the value true, and the other way round
pub T_true : (b : Bool) → T b → b ≡ true
T_true true t = refl
T_true false t = absurd t

pub true_T : (b : Bool) → b ≡ true → T b
true_T true e = tt
true_T false e = never false e refl

-- a test of two halves passes where both do
pub both : (a b : Bool) → T (a && b) → T a × T b
both true b t = (tt, t)
both false b t = absurd t

pub both_pass : (a b : Bool) → T a → T b → T (a && b)
both_pass true b s t = t
both_pass false b s t = s

-- where one of two tests holds, it is the first or the second
pub one_of : (a b : Bool) → T (a || b) → T a ⊎ T b
one_of true b t = inl tt
one_of false b t = inr t

-- and where either holds, one of them does
pub first_passes : (a b : Bool) → T a → T (a || b)
first_passes true b t = tt
first_passes false b t = absurd t

pub second_passes : (a b : Bool) → T b → T (a || b)
second_passes true b t = tt
second_passes false b t = t
