-- The loop keeps how many of the places passed are in the set.
use mathlib.Core.Path.{◌≡◌}
use Rattle.rules.specs.Numbers.{count_to}
use Rattle.rules.specs.Preempt.{bit_at}
use Rattle.patch.proofs.touched.count_places.Given as goal

abbrev pub invariant-loop-i : goal.invariant-loop-i
invariant-loop-i l = (l.found ≡ count_to (bit_at l.set) l.i)
