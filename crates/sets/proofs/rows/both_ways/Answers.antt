use native.Mathlib.Omega.{arith}
use Rattle.sets.proofs.Turning.{turning_none, turning_more, turning_all}
use Rattle.sets.proofs.rows.both_ways.Goals as goal

pub loop-i-init : goal.loop-i-init
loop-i-init c = turning_none c.requires.1

pub set_column-requires : goal.set_column-requires
set_column-requires c = omega arith

pub loop-i-preserved : goal.loop-i-preserved
loop-i-preserved c =
    let so_far = c.loop-i.invariant in
    turning_more so_far (omega arith) (omega (arith, c.set_column.auto.rows, so_far.room)) c.set_column.ensures

pub returns : goal.returns
returns c = turning_all c.loop-i.invariant c.requires.0 c.requires.1 (omega arith)
