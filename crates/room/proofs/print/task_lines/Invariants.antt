-- The loop's invariant: a table has at most 64 tasks.
use Prim.Native.Nat.{◌≤◌}
use Rattle.room.proofs.print.task_lines.Given as goal

abbrev pub invariant-loop-place : goal.invariant-loop-place
invariant-loop-place g l = l.tasks.table.tasks ≤ 64
