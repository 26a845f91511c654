use Rattle.stack.proofs.Levelling.{sizes_none, sizes_taken, sizes_kept}
use native.Mathlib.Omega.{arith}
use Rattle.stack.proofs.levels.largest_sizes.Goals as goal
use Rattle.stack.proofs.levels.largest_sizes.Goals.{then-largest-priority, else-largest-priority}

pub loop-place-init : goal.loop-place-init
loop-place-init c = sizes_none c.no_sizes-largest.ensures

pub loop-place-preserved : goal.loop-place-preserved
loop-place-preserved c =
    let so_far = c.loop-place.invariant in
    elim c.if-largest-priority.branch [
      | then-largest-priority w ↦ rw w.largest-is (sizes_taken so_far (omega (arith, c.args.rising.now.rises.most c.loop-place.place (omega arith))) (omega arith))
      | else-largest-priority w ↦ rw w.largest-is (sizes_kept so_far (omega arith))
    ]
