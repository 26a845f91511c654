-- Each kind is 1, 2 or 3. For 2 and 3 the loop keeps that all records below `low` are of a lower kind and that the one at `high`
-- is not; the middle halves what is between.
-- the kind of record k
use Prim.Native.Nat.{ℕ, ◌-◌, ◌≤◌, ◌<◌}
use mathlib.Core.List.{List, []}
use lib.ListN.{get_or}
use Rattle.rules.specs.Blocks.{records, record_count}
use Rattle.rules.specs.Records.{kind_of}
use Rattle.table.proofs.count.kind_start.Given as goal

abbrev pub kind_at : List ℕ → ℕ → ℕ
kind_at image k = kind_of (get_or (records image) k [])

abbrev pub invariant-loop-low : goal.invariant-loop-low
invariant-loop-low l = (l.low ≤ l.high) × (l.high ≤ record_count l.image) × ((k : ℕ) → k < l.low → kind_at l.image k < l.kind) × (l.high < record_count l.image → l.kind ≤ kind_at l.image l.high)

abbrev pub decreases-loop-low : goal.decreases-loop-low
decreases-loop-low l = l.high - l.low
