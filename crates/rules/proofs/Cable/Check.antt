-- A block with the right check, of which a byte became another byte, or two neighbours changed over, has a wrong one.
use Prim.Native.Nat.{ℕ, ◌+◌, ◌*◌, ◌≤◌, ◌<◌}
use mathlib.Core.List.{List}
use mathlib.Core.Bool.{true, false, not}
use mathlib.Core.Path.{◌≡◌, ap, sym, ◌∙◌}
use native.Mathlib.Nat.{add-mul}
use native.Mathlib.Omega.{arith}
use borrow.Author.Tests.{ne_eqb, ltb-true, ltb-false}
use lib.ListN.{length, get_or, set, length-set}
use lib.Seq.{get_or-set_same, get_or-set_other}
use lib.Dec.{ltb}
use Rattle.rules.specs.Numbers.{Bytes, le2, sum_to}
use Rattle.rules.specs.Blocks.{check_of, check_wrong}
use Rattle.rules.specs.Cable.{changed_over}
use Rattle.rules.proofs.Numbers.{either, sum_to_changed}
use Rattle.rules.proofs.Tests.{same_numbers}
use Rattle.rules.proofs.Image.Block.{check_front}
use Rattle.rules.proofs.Cable.Sums.{sums_apart}

-- the sum of (i + 1) times byte i
abbrev weighed : List ℕ → ℕ
weighed block = sum_to (λ i. (i + 1) * get_or block i 0) 510

-- with byte k exchanged for v
weighed_set : (block : List ℕ) (k v : ℕ) → k < 510 → k < length block
    → weighed (set block k v) + (k + 1) * get_or block k 0 ≡ weighed block + (k + 1) * v
weighed_set block k v front inside =
    sum_to_changed (λ i. (i + 1) * get_or block i 0) (λ i. (i + 1) * get_or (set block k v) i 0) 510 k front
    (λ i other. rw (get_or-set_other block k i v 0 other))
    ∙ rw (get_or-set_same block k v 0 inside)

-- a byte of this weight became another, and the stored check stayed: the check is wrong
sum_changed : (block later : List ℕ) (w x y : ℕ) → check_wrong block ≡ false → le2 later 510 ≡ le2 block 510
    → weighed later + w * x ≡ weighed block + w * y → 0 < w → w ≤ 510 → x < 256 → y < 256 → (y ≡ x → ⊥)
    → check_wrong later ≡ true
unfolding check_of
sum_changed block later w x y right stored sum weighs weight old new other =
    let before = same_numbers (le2 block 510) (check_of block) right in
    ap not (ne_eqb (le2 later 510) (check_of later)
    (λ after. sums_apart (weighed block) (weighed later) w x y sum weighs weight old new other (omega (arith, before, after))))

-- a store among the first 510 bytes leaves the stored check
stored_kept : (block : List ℕ) (k v : ℕ) → k < 510 → le2 (set block k v) 510 ≡ le2 block 510
stored_kept block k v front =
    rw (get_or-set_other block k 510 v 0 (λ e. omega arith), get_or-set_other block k 511 v 0 (λ e. omega arith))

-- a store in the stored check changes it, if it changes the byte
stored_changed : (block : List ℕ) (k v : ℕ) → length block ≡ 512 → 510 ≤ k → k < 512 → le2 (set block k v) 510 ≡ le2 block 510
    → v ≡ get_or block k 0
stored_changed block k v long behind inside same =
    either (ltb k 511)
    (λ t.
    let low : k ≡ 510 = omega (arith, ltb-true k 511 t) in
    omega (arith, new 510 low, old 510 low, get_or-set_other block k 511 v 0 (λ e. omega arith)))
    (λ t.
    let high : k ≡ 511 = omega (arith, ltb-false k 511 t) in
    omega (arith, new 511 high, old 511 high, get_or-set_other block k 510 v 0 (λ e. omega arith)))
  where
    new : (i : ℕ) → k ≡ i → get_or (set block k v) i 0 ≡ v
    new i e = rw (← e) (get_or-set_same block k v 0 (omega arith))

    old : (i : ℕ) → k ≡ i → get_or block k 0 ≡ get_or block i 0
    old i e = rw e

-- a block of 512 bytes with the right check
module _ (block : List ℕ) (long : length block ≡ 512) (bytes : Bytes block) (right : check_wrong block ≡ false) where
  -- any of its bytes became another: the sum changes alone, or the stored check does
  pub byte_changed : (k v : ℕ) → k < 512 → v < 256 → (v ≡ get_or block k 0 → ⊥) → check_wrong (set block k v) ≡ true
  byte_changed k v inside byte other =
      either (ltb k 510)
      (λ t.
      let front = ltb-true k 510 t in
      sum_changed block (set block k v) (k + 1) (get_or block k 0) v right (stored_kept block k v front)
      (weighed_set block k v front (omega arith)) (omega arith) (omega arith) (bytes k) byte other)
      (λ t.
      let behind = ltb-false k 510 t in
      let sum = check_front (set block k v) block (λ i l. get_or-set_other block k i v 0 (λ e. omega arith)) in
      ap not (ne_eqb (le2 (set block k v) 510) (check_of (set block k v))
      (λ after.
      other (stored_changed block k v long behind inside (after ∙ (sum ∙ sym (same_numbers (le2 block 510) (check_of block) right)))))))

  -- two neighbours among the first 510 bytes changed over: the sum changes by their difference once
  pub neighbours_changed : (k : ℕ) → k + 1 < 510 → (get_or block k 0 ≡ get_or block (k + 1) 0 → ⊥) → check_wrong (changed_over block k) ≡ true
  neighbours_changed k front other =
      let x = get_or block k 0 in
      let y = get_or block (k + 1) 0 in
      let once = set block k y in
      let next : get_or once (k + 1) 0 ≡ y = get_or-set_other block k (k + 1) y 0 (λ e. omega arith) in
      let first = weighed_set block k y (omega arith) (omega arith) in
      let second : weighed (changed_over block k) + (k + 1 + 1) * y ≡ weighed once + (k + 1 + 1) * x = rw next at (weighed_set once (k + 1) x front (rw length-set (omega arith))) in
      sum_changed block (changed_over block k) 1 y x right (stored_kept once (k + 1) x front ∙ stored_kept block k y (omega arith))
      (omega (arith, add-mul (k + 1) 1 x, add-mul (k + 1) 1 y)) (omega arith) (omega arith) (bytes (k + 1)) (bytes k) other
