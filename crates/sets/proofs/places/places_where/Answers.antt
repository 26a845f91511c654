use native.Mathlib.Omega.{arith}
use Rattle.sets.proofs.Choosing.{chosen_none, chosen_more, chosen_all}
use Rattle.sets.proofs.places.places_where.Goals as goal

pub loop-place-init : goal.loop-place-init
loop-place-init g c = λ test tells. chosen_none

pub loop-place-preserved : goal.loop-place-preserved
loop-place-preserved g c =
    λ test tells. chosen_more (c.loop-place.invariant test tells) (omega arith) (omega arith) (rw (← tells _ _ (omega arith) c.passes.ensures) c.with_bit_if-set.ensures)

pub returns : goal.returns
returns g c = λ test tells. chosen_all (c.loop-place.invariant test tells) (omega arith)
