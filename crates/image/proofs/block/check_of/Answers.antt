use Prim.Native.Nat.{ℕ, ◌+◌, ◌*◌, ◌-◌, ◌%◌, ◌≤◌, ◌<◌}
use mathlib.Core.Path.{◌≡◌, ap, sym, ◌∙◌}
use mathlib.Core.List.{List}
use native.Mathlib.Nat.{mul-add, add-mul, one-mul}
use native.Mathlib.Omega.{arith}
use lib.ListN.{length, get_or, take, length-take}
use lib.Seq.{get_or-take}
use Rattle.rules.specs.Numbers.{sum_to}
use Rattle.rules.specs.Blocks.{check_of}
use Rattle.rules.proofs.Numbers.{sum_to_step, sum_to_zero}
use Rattle.image.proofs.block.check_of.Invariants.{term}
use Rattle.image.proofs.block.check_of.Goals as goal

-- one more byte: its weight, and the sum with it
weighted : (i sum byte : ℕ) → (i + 1) * sum + (sum + byte) + (i + 1) * byte ≡ (i + 1 + 1) * (sum + byte)
weighted i sum byte =
    let apart : (i + 1) * (sum + byte) ≡ (i + 1) * sum + (i + 1) * byte = mul-add (i + 1) sum byte in
    let more : (i + 1 + 1) * (sum + byte) ≡ (i + 1) * (sum + byte) + 1 * (sum + byte) = add-mul (i + 1) 1 (sum + byte) in
    omega (arith, one-mul (sum + byte))

-- at the end: 511 times the sum is all sums and the weighted bytes
whole : (block : List ℕ) (i sum sums : ℕ) → i ≡ 510 → sums + sum_to (term block) i ≡ (i + 1) * sum → sums + sum_to (term block) 510 ≡ 511 * sum
whole block i sum sums end e = ap (λ (n : ℕ). sums + sum_to (term block) n) (sym end) ∙ e ∙ ap (λ (n : ℕ). (n + 1) * sum) end

-- the bytes that are passed are the first 510
long : (block : List ℕ) → 510 ≤ length block → length (take 510 block) ≡ 510
long block h = omega (arith, length-take 510 block)

-- the byte that comes next is the block's, and a byte
read : (block : List ℕ) (i byte : ℕ) → 510 ≤ length block → i < length (take 510 block) → byte ≡ get_or (take 510 block) i 0 → get_or block i 0 < 256
    → (byte ≡ get_or block i 0) × (byte ≤ 255)
read block i byte h inside e fits =
    let here : byte ≡ get_or block i 0 = e ∙ get_or-take 510 block i 0 (omega (arith, long block h)) in
    (here, omega arith)

pub loop-byte-init : goal.loop-byte-init
loop-byte-init c = (omega (arith, sum_to_zero (term c.args.block.now)), omega arith, omega arith)

pub overflow_add-sum : goal.overflow_add-sum
overflow_add-sum c =
    let s = c.loop-byte in
    let byte = read c.args.block.now s.byte-index c.from-sum.result c.requires c.loop-byte-test.true c.from-sum.ensures (c.type_inv.block s.byte-index).fits in
    omega (arith, byte.1, long c.args.block.now c.requires)

pub overflow_add-sums : goal.overflow_add-sums
overflow_add-sums c =
    let s = c.loop-byte in
    let byte = read c.args.block.now s.byte-index c.from-sum.result c.requires c.loop-byte-test.true c.from-sum.ensures (c.type_inv.block s.byte-index).fits in
    omega (arith, byte.1, long c.args.block.now c.requires)

pub loop-byte-preserved : goal.loop-byte-preserved
loop-byte-preserved c =
    let block = c.args.block.now in
    let s = c.loop-byte in
    let byte = read block s.byte-index c.from-sum.result c.requires c.loop-byte-test.true c.from-sum.ensures (c.type_inv.block s.byte-index).fits in
    let weight : (s.byte-index + 1) * get_or block s.byte-index 0 ≡ (s.byte-index + 1) * c.from-sum.result = ap (λ (b : ℕ). (s.byte-index + 1) * b) (sym byte.0) in (
      omega (arith, sum_to_step (term block) s.byte-index, weight, s.invariant.0, weighted s.byte-index s.sum c.from-sum.result),
      omega (arith, byte.1, long block c.requires),
      omega (arith, byte.1, long block c.requires),
    )

-- after the loop all 510 are passed
passed : (block : List ℕ) (i sum sums : ℕ) → 510 ≤ length block → i ≤ length (take 510 block) → length (take 510 block) ≤ i
    → sums + sum_to (term block) i ≡ (i + 1) * sum → sums + sum_to (term block) 510 ≡ 511 * sum
passed block i sum sums h low high e = whole block i sum sums (omega (arith, long block h)) e

pub overflow_mul-result : goal.overflow_mul-result
overflow_mul-result c = omega (arith, long c.args.block.now c.requires)

pub overflow_sub-result : goal.overflow_sub-result
overflow_sub-result c =
    let s = c.loop-byte in
    omega (arith, passed c.args.block.now s.byte-index s.sum s.sums c.requires s.auto.byte-index-end c.loop-byte-test.false s.invariant.0)

pub returns : goal.returns
unfolding check_of
returns c =
    let s = c.loop-byte in
    let block = c.args.block.now in
    let all = passed block s.byte-index s.sum s.sums c.requires s.auto.byte-index-end c.loop-byte-test.false s.invariant.0 in
    let rest : 511 * s.sum - s.sums ≡ sum_to (term block) 510 = omega arith in
    record { right = ap (λ (n : ℕ). n % 65521) rest; in_two_bytes = omega arith }
