-- A table has at most 64 tasks.
use Rattle.table.proofs.Tables.{few_records}
use Rattle.room.proofs.print.task_lines.Goals as goal

pub loop-place-init : goal.loop-place-init
loop-place-init g c = (few_records c.args.tasks.now.table).1
