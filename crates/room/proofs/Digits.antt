-- Digit by digit the bytes say what they say in all, and what is once no reserve stays none.
use Prim.Native.Nat.{ℕ, suc, ◌+◌, ◌≤◌, ◌<◌}
use mathlib.Core.List.{List, [], ◌∷◌}
use mathlib.Core.Bool.{true, false}
use mathlib.Core.Path.{◌≡◌, sym, ap, ◌∙◌}
use native.Mathlib.Omega.{arith}
use borrow.Author.Tests.{le-ltb, lt-ltb, ltb-true, ltb-false, leb-true}
use lib.Dec.{leb, ltb}
use lib.ListN.{length, get_or, drop, drop_of_length-le}
use lib.Seq.{drop-cons}
use Rattle.rules.proofs.Numbers.{either, never}
use Rattle.room.specs.Digits.{none, is_digit, are_digits, longer, decimal, if_reserve, with_digit, said_behind}

-- a number is a reserve, or there is none
pub reserve_is : (n : ℕ) → n < none → if_reserve n ≡ n
reserve_is n h = rw (lt-ltb n none h)

pub none_is : (n : ℕ) → none ≤ n → if_reserve n ≡ none
none_is n h = rw (le-ltb n none h)

reserve_small : (n : ℕ) → if_reserve n ≤ none
reserve_small n =
    either (ltb n none)
    (λ t. omega (arith, reserve_is n (ltb-true n none t), ltb-true n none t))
    (λ t. omega (arith, none_is n (ltb-false n none t)))

-- more digits say no less
decimal_grows : (n : ℕ) (l : List ℕ) → n ≤ decimal n l
decimal_grows n [] = omega arith
decimal_grows n (b ∷ l) = omega (arith, decimal_grows (longer n b) l)

-- none stays none
none_behind : (n : ℕ) (l : List ℕ) → none ≤ n → said_behind n l ≡ none
none_behind n l h =
    either (are_digits l)
    (λ t. rw t (none_is (decimal n l) (omega (arith, decimal_grows n l))))
    (λ t. rw t)

-- a byte that is a digit, and one that is none
pub digit_is : (n b : ℕ) → is_digit b ≡ true → with_digit n b ≡ if_reserve (longer n b)
digit_is n b t = rw t

pub no_digit_is : (n b : ℕ) → is_digit b ≡ false → with_digit n b ≡ none
no_digit_is n b t = rw t

pub digit_low : (b : ℕ) → is_digit b ≡ true → 48 ≤ b
digit_low b h = either (leb 48 b) (leb-true 48 b) (λ t. never (is_digit b) h (rw t))

pub digit_small : (n b : ℕ) → with_digit n b ≤ none
digit_small n b =
    either (is_digit b)
    (λ t. omega (arith, digit_is n b t, reserve_small (longer n b)))
    (λ t. omega (arith, no_digit_is n b t))

-- a number that is capped says the same with the rest behind it
capped : (n : ℕ) (l : List ℕ) → said_behind (if_reserve n) l ≡ said_behind n l
capped n l =
    either (ltb n none)
    (λ t. ap (λ (m : ℕ). said_behind m l) (reserve_is n (ltb-true n none t)))
    (λ t. ap (λ (m : ℕ). said_behind m l) (none_is n (ltb-false n none t)) ∙ none_behind none l (omega arith) ∙ sym (none_behind n l (ltb-false n none t)))

-- a byte and then the rest
said_next : (n b : ℕ) (l : List ℕ) → said_behind (with_digit n b) l ≡ said_behind n (b ∷ l)
said_next n b l =
    either (is_digit b)
    (λ t. ap (λ (m : ℕ). said_behind m l) (digit_is n b t) ∙ capped (longer n b) l ∙ rw t)
    (λ t. ap (λ (m : ℕ). said_behind m l) (no_digit_is n b t) ∙ none_behind none l (omega arith) ∙ rw t)

-- the same at a place of the bytes
pub said_step : (n k : ℕ) (l : List ℕ) → k < length l → said_behind (with_digit n (get_or l k 0)) (drop (k + 1) l) ≡ said_behind n (drop k l)
said_step n k l h =
    let next : k + 1 ≡ suc k = omega arith in
    ap (λ (j : ℕ). said_behind (with_digit n (get_or l k 0)) (drop j l)) next ∙ said_next n (get_or l k 0) (drop (suc k) l) ∙ ap (said_behind n) (sym (drop-cons l k 0 h))

-- a byte with which there is no reserve: none is said from there on
pub none_from : (n k : ℕ) (l : List ℕ) → k < length l → none ≡ with_digit n (get_or l k 0) → said_behind n (drop k l) ≡ none
none_from n k l h e = sym (said_step n k l h) ∙ ap (λ (m : ℕ). said_behind m (drop (k + 1) l)) (sym e) ∙ none_behind none (drop (k + 1) l) (omega arith)

-- and behind the last of them
pub said_end : (n k : ℕ) (l : List ℕ) → n ≤ none → length l ≤ k → said_behind n (drop k l) ≡ n
said_end n k l small past =
    ap (said_behind n) (drop_of_length-le l past) ∙ either (ltb n none) (λ t. reserve_is n (ltb-true n none t)) (λ t. none_is n (ltb-false n none t) ∙ omega (arith, ltb-false n none t))
