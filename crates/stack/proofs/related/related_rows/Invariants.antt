-- The loop's invariant: the rows of the places passed are made.
use Rattle.stack.proofs.Relating.{RowsBelow}
use Rattle.stack.proofs.related.related_rows.Given as goal

abbrev pub invariant-loop-place : goal.invariant-loop-place
invariant-loop-place l = RowsBelow l.count l.thresholds l.priorities l.map l.rows l.place
