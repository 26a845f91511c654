-- The loop turns the cells row by row.
use Rattle.sets.proofs.Turning.{Turning}
use Rattle.sets.proofs.rows.both_ways.Given as goal

abbrev pub invariant-loop-i : goal.invariant-loop-i
invariant-loop-i l = Turning l.count l.initial.rows l.i l.rows
