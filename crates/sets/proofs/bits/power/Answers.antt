-- A shift by fewer than 64 bits loses nothing of the number 1.
use Rattle.rules.proofs.Bits.{power_fits}
use Rattle.sets.proofs.bits.power.Goals as goal

pub returns : goal.returns
returns c = power_fits c.args.j c.requires
