-- Bytes are blank where each of those that the list has is 0: what lies past its end reads as 0.
use Prim.Native.Nat.{ℕ, zero, suc, ◌+◌, ◌-◌, ◌≤◌, ◌<◌, min}
use mathlib.Core.Bool.{Bool, true, false, ◌&&◌, not}
use mathlib.Core.List.{List}
use mathlib.Core.Path.{◌≡◌, refl, sym, ap, ◌∙◌}
use native.Mathlib.Numerals.{add-one}
use native.Mathlib.Omega.{arith}
use borrow.Author.Tests.{ltb-true, ltb-false}
use lib.Dec.{ltb, eqb}
use lib.ListN.{length, get_or, take, drop, length-drop, get_or-eq_default}
use lib.Seq.{take_all}
use Rattle.std.proofs.Common.{nat_eq}
use Rattle.std.proofs.Math.Bool.{and-true}
use Rattle.std.specs.Bool.{MatchBool}
use Rattle.std.specs.List.{list_all, AllWithin, HoldsAt, range_with_len}
use Rattle.std.proofs.lemmas.List.{get_or-drop}
use Rattle.std.proofs.lemmas.List.FromFn.{length-range_with_len, get_or-range_with_len}
use Rattle.std.proofs.lemmas.List.Folds.{list_all_more}
use Rattle.rules.proofs.Bytes.{blank_true, blank_false}
use Rattle.rules.proofs.Tests.{not_either}
use Rattle.rules.specs.Numbers.{blank, lowest}
use Rattle.rules.proofs.Numbers.{either, some_more}

-- twice the other is the same
not_twice : (a : Bool) → not (not a) ≡ a
not_twice true = refl
not_twice false = refl

-- one more byte
blank_more : (s : List ℕ) (start n : ℕ) → blank s start (n + 1) ≡ (blank s start n && eqb (get_or s (start + n) 0) 0)
unfolding blank
blank_more s start n =
    let last : Bool = eqb (get_or s (start + n) 0) 0 in
    rw (some_more (λ k. not (eqb (get_or s (start + k) 0) 0)) n, not_either _ (not last), not_twice last)

-- no byte
blank_none : (s : List ℕ) (start : ℕ) → true ≡ blank s start 0
unfolding blank lowest
blank_none s start = refl

-- the bytes that the list has, as `all` goes through them
pub blank_part : (s : List ℕ) (start n : ℕ) → list_all (λ b. nat_eq b 0) (take n (drop start s)) ≡ blank s start n
blank_part s start zero = blank_none s start
blank_part s start (suc n) =
    let part : List ℕ = drop start s in
    either (ltb n (length part))
    (λ t. rw (← add-one) (list_all_more (λ b. nat_eq b 0) part n 0 (ltb-true n (length part) t) ∙ rw (blank_part s start n, get_or-drop start s n 0) (sym (blank_more s start n))))
    (λ t.
    let past : length part ≤ n = ltb-false n (length part) t in
    let zero_behind : get_or s (start + n) 0 ≡ 0 = get_or-eq_default s 0 (omega (arith, length-drop start s)) in
    rw (← add-one, take_all (n + 1) part (omega arith)) (ap (list_all (λ b. nat_eq b 0)) (sym (take_all n part past)) ∙ blank_part s start n ∙ sym (blank_more s start n ∙ rw (zero_behind, and-true (blank s start n)))))

-- what `all` answers of the places from one on, those of the bytes that the list has
abbrev pub AllZero : List ℕ → ℕ → ℕ → Bool → Type 0
AllZero s from size r =
    MatchBool r (AllWithin (λ x. get_or s x 0 ≡ 0) (range_with_len from size) 0 (length (range_with_len from size)))
    ((k : ℕ) × (k < length (range_with_len from size)) × HoldsAt (λ x. get_or s x 0 ≡ 0 → ⊥) (range_with_len from size) k)

-- so the bytes between a start and an end, both cut off at the end of the list, are blank where all of them are 0
pub blank_between : (s : List ℕ) (start count from to : ℕ) (r : Bool) → from ≡ min start (length s) → to ≡ min (start + count) (length s) → AllZero s from (to - from) r → r ≡ blank s start count
blank_between s start count from to true low high zeros =
    sym
    (blank_true s start count
    (λ k h.
    either (ltb (start + k) (length s))
    (λ t.
    let inside : start + k < length s = ltb-true (start + k) (length s) t in
    let same : from + k ≡ start + k = omega arith in
    rw (get_or-range_with_len from (to - from) k 0 (omega arith), same) at (zeros k 0 (omega arith) (omega (arith, length-range_with_len from (to - from)))))
    (λ f. get_or-eq_default s 0 (ltb-false (start + k) (length s) f))))
blank_between s start count from to false low high (k, below, other) =
    let inside : k < to - from = omega (arith, length-range_with_len from (to - from)) in
    let same : from + k ≡ start + k = omega arith in
    sym (blank_false s start count k (omega arith) (rw (get_or-range_with_len from (to - from) k 0 inside, same) at (other 0)))
