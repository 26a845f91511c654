-- The loop keeps what is read of the tasks passed.
use Rattle.rules.specs.Blocks.{records}
use Rattle.preempt.specs.Tasks.{ColumnsTo}
use Rattle.preempt.proofs.tasks.read_tasks.Given as goal

abbrev pub invariant-loop-i : goal.invariant-loop-i
invariant-loop-i l = ColumnsTo (records l.table.image.now) l.i l.columns
