-- The loop's invariant: the place is in the rows of those places that are no longer in the rest.
use Rattle.sets.proofs.Turning.{Adding}
use Rattle.sets.proofs.rows.set_column.Given as goal

abbrev pub invariant-loop-other : goal.invariant-loop-other
invariant-loop-other l = Adding l.set l.place l.initial.rows l.rows l.other-iterator.rest
