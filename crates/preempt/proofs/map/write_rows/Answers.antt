use mathlib.Core.Path.{◌≡◌, refl, ◌∙◌}
use native.Mathlib.Omega.{arith}
use lib.Seq.{take_all}
use lib.ListN.{length-set}
use Rattle.image.proofs.Writes.{copied_more}
use Rattle.preempt.proofs.map.write_rows.Goals as goal

pub loop-i-init : goal.loop-i-init
loop-i-init c = (omega arith, refl, refl)

pub loop-i-preserved : goal.loop-i-preserved
loop-i-preserved c =
    let a = c.args in
    let s = c.loop-i in
    (omega arith, length-set s.lent s.i _ ∙ s.invariant.1, rw s.invariant.2 (copied_more a.map a.lent.now s.i (omega arith) (omega arith)))

pub returns : goal.returns
returns c =
    let a = c.args in
    let end : c.loop-i.i ≡ 64 = omega arith in
    let size = c.requires.0 in
    rw (size, ← take_all 64 a.map (omega arith)) (c.loop-i.invariant.2 ∙ rw end)
