-- The loop's invariant: the largest is that of the sums at the places already taken out of the rest.
use Rattle.stack.proofs.Sums.{Sought}
use Rattle.stack.proofs.path.largest_at.Given as goal

abbrev pub invariant-loop-place : goal.invariant-loop-place
invariant-loop-place l = Sought l.sums l.set l.largest l.place-iterator.rest
