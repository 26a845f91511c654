-- What is added up so far and the next number are within the whole sum.
use Prim.Native.Nat.{ℕ}
use mathlib.Core.Path.{◌≡◌, refl, ◌∙◌}
use native.Mathlib.Omega.{arith}
use lib.ListN.{length}
use lib.Seq.{take-length}
use Rattle.std.proofs.lemmas.List.Sums.{sum_by_more, sum_by_more_le}
use Rattle.stack.proofs.levels.sum_of.Goals as goal

pub loop-number-init : goal.loop-number-init
loop-number-init c = refl

pub overflow_add-total : goal.overflow_add-total
overflow_add-total c =
    omega (arith, c.loop-number.invariant, sum_by_more_le (λ (x : ℕ). x) c.args.numbers.now c.loop-number.number-index 0 c.loop-number-test.true, c.requires)

pub loop-number-preserved : goal.loop-number-preserved
loop-number-preserved c =
    omega (arith, c.loop-number.invariant, sum_by_more (λ (x : ℕ). x) c.args.numbers.now c.loop-number.number-index 0 c.loop-number-test.true)

pub returns : goal.returns
returns c =
    let end : c.loop-number.number-index ≡ length c.args.numbers.now = omega arith in
    c.loop-number.invariant ∙ rw (end, take-length c.args.numbers.now)
