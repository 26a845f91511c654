-- The sum is a digest all along.
use Rattle.std.proofs.Common.{◌<◌}
use Rattle.answers.proofs.digest.of_numbers.Given as goal

abbrev pub invariant-loop-number : goal.invariant-loop-number
invariant-loop-number g l = l.sum < 4294967291
