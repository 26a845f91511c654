use native.Mathlib.Omega.{arith}
use Rattle.sets.proofs.Turning.{adding_none, adding_more, adding_all}
use Rattle.sets.proofs.rows.set_column.Goals as goal

pub loop-other-init : goal.loop-other-init
loop-other-init c = rw (c.into_iter-other-iterator.ensures.into_iter_gives, c.of-other-items.ensures) (adding_none c.requires.0)

pub loop-other-preserved : goal.loop-other-preserved
loop-other-preserved c =
    rw c.set_cell.ensures (adding_more c.loop-other.invariant c.in-Some.ensures.steps.0.below c.in-Some.ensures.steps.0.there c.in-Some.ensures.steps.1)

pub shape_of-rows : goal.shape_of-rows
shape_of-rows c = omega (arith, c.loop-other.invariant.room, c.requires.0)

pub returns : goal.returns
returns c = adding_all c.loop-other.invariant c.in-None.ensures.steps.0
