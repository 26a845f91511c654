-- The zeros below the lowest bit count up to its place.
use lib.Count.{trailing_le}
use Rattle.sets.proofs.Sets.{lowest-has}
use native.Mathlib.Omega.{arith}
use Rattle.sets.proofs.places.lowest.Goals as goal

pub overflow_cast-result : goal.overflow_cast-result
overflow_cast-result c = omega (arith, trailing_le 64 c.args.set)

pub returns : goal.returns
returns c = lowest-has c.args.set c.requires c.ranges.set.fits
