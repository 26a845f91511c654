-- The loop keeps that the numbers stored are those of the records passed.
use Prim.Native.Nat.{ℕ, ◌+◌, ◌<◌}
use mathlib.Core.Path.{◌≡◌}
use lib.ListN.{length, get_or}
use Rattle.rules.specs.Blocks.{record_at}
use Rattle.rules.specs.Records.{number_of}
use Rattle.table.proofs.place.numbers_from.Given as goal

abbrev pub invariant-loop-k : goal.invariant-loop-k
invariant-loop-k l = (length l.numbers ≡ 64) × ((i : ℕ) → i < l.k → get_or l.numbers i 0 ≡ number_of (record_at l.image (l.first + i)))
