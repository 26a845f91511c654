-- A number has at most eight bytes.
use Rattle.std.proofs.Common.{arith}
use Rattle.answers.proofs.digest.of_numbers.Goals as goal

pub bytes-requires : goal.bytes-requires
bytes-requires g c = omega (arith, g.met.T.LittleEndian.narrow)

pub shared_whole_as_slice-with_bytes : goal.shared_whole_as_slice-with_bytes
shared_whole_as_slice-with_bytes g c = omega (arith, g.met.T.LittleEndian.narrow)
