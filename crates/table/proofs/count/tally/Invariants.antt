-- The loop keeps that each of the eight counts is that of the records passed.
-- one more record is counted where it belongs, and nowhere else
use Prim.Native.Nat.{ℕ, ◌<◌}
use mathlib.Core.Path.{◌≡◌}
use lib.ListN.{length, get_or}
use Rattle.rules.specs.Blocks.{records}
use Rattle.table.specs.Tally.{slotted}
use Rattle.table.proofs.count.tally.Given as goal

abbrev pub invariant-loop-k : goal.invariant-loop-k
invariant-loop-k l = (length l.counts ≡ 8) × ((i : ℕ) → i < 8 → get_or l.counts i 0 ≡ slotted (records l.image) i l.k)
