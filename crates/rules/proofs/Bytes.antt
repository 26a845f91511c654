-- Laws of numbers read from bytes and of zero fill.
use Prim.Native.Nat.{ℕ, ◌+◌, ◌≤◌, ◌<◌}
use mathlib.Core.List.{List}
use mathlib.Core.Bool.{Bool, true, false, not}
use mathlib.Core.Path.{◌≡◌, ap}
use native.Mathlib.Omega.{arith}
use borrow.Author.Tests.{eq-eqb, ne_eqb, ltb-true, ltb-false, eqb-true, not-true, not-false}
use lib.ListN.{length, get_or, take, drop, length-take, get_or-eq_default}
use lib.Seq.{get_or-take, get_or-drop}
use lib.Dec.{ltb, eqb}
use Rattle.rules.specs.Numbers.{Bytes, le2, le4, some, lowest, blank}
use Rattle.rules.proofs.Numbers.{either, lowest-none, some_true, some_false, lowest_below}

-- past the end everything reads as 0
pub le2-past : (s : List ℕ) (k : ℕ) → length s ≤ k → le2 s k ≡ 0
le2-past s k h =
    let low : get_or s k 0 ≡ 0 = get_or-eq_default s 0 h in
    let high : get_or s (k + 1) 0 ≡ 0 = get_or-eq_default s 0 (omega arith) in
    omega arith

pub le4-past : (s : List ℕ) (k : ℕ) → length s ≤ k → le4 s k ≡ 0
le4-past s k h = omega (arith, le2-past s k h, le2-past s (k + 2) (omega arith))

-- a byte, and a number, in a part of a list
pub get_d_part : (s : List ℕ) (start size k : ℕ) → k < size → get_or (take size (drop start s)) k 0 ≡ get_or s (start + k) 0
get_d_part s start size k h = rw (get_or-take, get_or-drop)

-- a part of bytes is of bytes
pub part_bytes : (s : List ℕ) (start size : ℕ) → Bytes s → Bytes (take size (drop start s))
part_bytes s start size bytes k =
    either (ltb k size)
    (λ t. rw (get_d_part s start size k (ltb-true k size t)) (bytes (start + k)))
    (λ t.
    let past : length (take size (drop start s)) ≤ k = simp length-take (omega (arith, ltb-false k size t)) in
    omega (arith, get_or-eq_default (take size (drop start s)) 0 past))

-- bytes that are all zero are blank
pub blank_true : (s : List ℕ) (start count : ℕ) → ((k : ℕ) → k < count → get_or s (start + k) 0 ≡ 0) → blank s start count ≡ true
unfolding blank
blank_true s start count zeros =
    ap not
    (some_false (λ k. not (eqb (get_or s (start + k) 0) 0)) count
    (lowest-none (λ k. not (eqb (get_or s (start + k) 0) 0)) count (λ k h. ap not (eq-eqb (get_or s (start + k) 0) 0 (zeros k h)))))

-- a byte that is not zero is enough that they are not
pub blank_false : (s : List ℕ) (start count k : ℕ) → k < count → (get_or s (start + k) 0 ≡ 0 → ⊥) → blank s start count ≡ false
unfolding blank
blank_false s start count k h other =
    ap not (some_true (λ k. not (eqb (get_or s (start + k) 0) 0)) count k h (ap not (ne_eqb (get_or s (start + k) 0) 0 other)))

-- blank bytes are zero
pub blank_zero : (s : List ℕ) (start count : ℕ) → blank s start count ≡ true → (k : ℕ) → k < count → get_or s (start + k) 0 ≡ 0
unfolding blank
blank_zero s start count b k h =
    let faults : ℕ → Bool = λ k. not (eqb (get_or s (start + k) 0) 0) in
    let none = ltb-false (lowest faults count) count (not-true (some faults count) b) in
    eqb-true (get_or s (start + k) 0) 0 (not-false (eqb (get_or s (start + k) 0) 0) (lowest_below faults count k (omega arith)))
