-- A bit of the difference is one of the set that the other has not.
use lib.Bits.{and_le_l}
use Rattle.sets.proofs.Sets.{outside_has}
use Rattle.sets.proofs.places.outside.Goals as goal

pub overflow_sub-result : goal.overflow_sub-result
overflow_sub-result c = and_le_l c.args.set c.args.other

pub returns : goal.returns
returns c = outside_has c.args.set c.args.other
