-- Where it is wanted the answer is that of with_bit, and otherwise the number itself.
use Rattle.sets.proofs.bits.with_bit_if.Goals as goal

pub returns-then-wanted : goal.returns-then-wanted
returns-then-wanted c = rw c.if-wanted.true c.with_bit.ensures
