-- A power of 2 less 1 has exactly the bits below it.
use lib.Pow.{pow_pos}
use Rattle.rules.proofs.Bits.{power_fits}
use Rattle.sets.proofs.Sets.{below_has}
use native.Mathlib.Omega.{arith}
use Rattle.sets.proofs.places.all_below.Goals as goal

pub overflow_sub-result : goal.overflow_sub-result
overflow_sub-result c = rw (power_fits c.args.count (omega arith)) (pow_pos c.args.count)

pub returns-then-count-eq64 : goal.returns-then-count-eq64
returns-then-count-eq64 c = rw c.if-count-eq64.true (below_has 64)

pub returns-else-count-eq64 : goal.returns-else-count-eq64
returns-else-count-eq64 c = rw (power_fits c.args.count (omega arith)) (below_has c.args.count)
