-- The sum is a digest all along.
use Rattle.std.proofs.Common.{◌<◌}
use Rattle.answers.proofs.digest.with_bytes.Given as goal

abbrev pub invariant-loop-byte : goal.invariant-loop-byte
invariant-loop-byte l = l.sum < 4294967291
