-- The place is one of a task.
use Rattle.std.proofs.Common.{◌<◌}
use Rattle.reasons.proofs.print.pair_lines.Given as goal

abbrev pub invariant-loop-high : goal.invariant-loop-high
invariant-loop-high g l = l.place < l.table.tasks
