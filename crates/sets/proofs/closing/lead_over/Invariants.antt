-- The loop adds the paths row by row; over a place from which no step leads there is none to add.
use Rattle.sets.proofs.Paths.{Leading}
use Rattle.sets.proofs.closing.lead_over.Given as goal

abbrev pub invariant-loop-i : goal.invariant-loop-i
invariant-loop-i l = Leading l.count l.k l.initial.rows l.i l.rows
