-- The loop keeps the rows with the cells of the pairs passed; each pair adds its cell where it is of the sort.
use Prim.Native.Nat.{◌+◌, ◌≤◌}
use mathlib.Core.Path.{◌≡◌}
use Rattle.rules.specs.Records.{task_count}
use Rattle.rules.specs.Blocks.{records, record_count}
use Rattle.rules.specs.Preempt.{map_from}
use Rattle.table.proofs.Pairing.{marked_to}
use Rattle.table.proofs.pairs.mark_pairs.Given as goal

abbrev pub invariant-loop-k : goal.invariant-loop-k
invariant-loop-k l =
    (l.first + l.count ≤ record_count l.image) × (l.rows ≡ map_from (task_count (records l.image)) (marked_to l.sort (records l.image) l.initial.rows l.k))
