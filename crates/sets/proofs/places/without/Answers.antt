-- A set place is one power of 2 in the number, and taking that away changes no other bit.
use Prim.Native.Nat.{◌/◌, ◌%◌, ◌^◌}
use borrow.Author.Tests.{eqb-true}
use Rattle.rules.proofs.Bits.{power_fits, bit_enough}
use Rattle.sets.proofs.Sets.{without-has}
use Rattle.sets.proofs.places.without.Goals as goal

pub overflow_sub-result : goal.overflow_sub-result
overflow_sub-result c = rw (power_fits c.args.place c.requires.0) (bit_enough c.args.place c.args.set (eqb-true (c.args.set / 2 ^ c.args.place % 2) 1 c.requires.1))

pub returns : goal.returns
returns c = rw (power_fits c.args.place c.requires.0) (without-has c.args.set c.args.place c.requires.1)
