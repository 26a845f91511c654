use mathlib.Core.Path.{◌≡◌, refl, ◌∙◌}
use lib.ListN.{length, length-set}
use lib.Seq.{take-length}
use Rattle.image.proofs.Writes.{copied_more}
use native.Mathlib.Omega.{arith}
use Rattle.image.proofs.write.copy_bytes.Goals as goal

pub loop-k-init : goal.loop-k-init
loop-k-init c = (omega arith, refl, refl)

pub loop-k-preserved : goal.loop-k-preserved
loop-k-preserved c =
    let from = c.args.from.now in
    let to = c.args.to.now in
    let k = c.loop-k.k in (
      omega arith,
      rw c.loop-k.invariant.1 (copied_more from to k c.loop-k-test.true c.requires),
      rw length-set c.loop-k.invariant.2,
    )

pub returns : goal.returns
returns c =
    let from = c.args.from.now in
    let end : c.loop-k.k ≡ length from = omega arith in
    c.loop-k.invariant.1 ∙ rw (end, take-length from)
