-- What power answers is put in.
use mathlib.Core.Path.{ap}
use lib.Bits.{bit_or}
use Rattle.sets.proofs.bits.with_bit.Goals as goal

pub returns : goal.returns
returns c = ap (bit_or c.args.bits) c.power.ensures
