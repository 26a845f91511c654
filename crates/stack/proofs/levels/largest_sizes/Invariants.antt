-- The loop's invariant: for each priority the largest size of the tasks passed.
use Rattle.stack.specs.Levels.{LargestSizes}
use Rattle.stack.proofs.levels.largest_sizes.Given as goal

abbrev pub invariant-loop-place : goal.invariant-loop-place
invariant-loop-place l = LargestSizes l.place l.rising.priorities l.rising.sizes l.largest
