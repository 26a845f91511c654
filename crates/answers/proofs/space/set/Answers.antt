-- A number has at most eight bytes.
use Rattle.std.proofs.Common.{arith}
use Rattle.answers.proofs.space.set.Goals as goal

pub split_first_chunk-requires : goal.split_first_chunk-requires
split_first_chunk-requires g c = omega (arith, g.met.T.LittleEndian.narrow)

pub of_bytes-requires : goal.of_bytes-requires
of_bytes-requires g c = omega (arith, g.met.T.LittleEndian.narrow)
