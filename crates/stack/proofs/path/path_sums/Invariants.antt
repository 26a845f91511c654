-- The loop's invariant: the sums of the cover's places outside the rest are settled, and the rest stand later in the order.
use Rattle.stack.proofs.Sums.{Underway}
use Rattle.stack.proofs.path.path_sums.Given as goal

abbrev pub invariant-loop-k : goal.invariant-loop-k
invariant-loop-k l = Underway l.ordered.count l.ordered.rows l.ordered.sizes l.ordered.order l.cover l.initial.sums l.sums l.rest l.k
