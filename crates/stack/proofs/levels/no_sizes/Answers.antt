-- Every element of the array is 0.
use mathlib.Core.Path.{refl}
use Rattle.stack.proofs.Sums.{zeros}
use Rattle.stack.proofs.levels.no_sizes.Goals as goal

pub returns : goal.returns
returns c = record { priority_count = refl; zero = zeros 256 }
