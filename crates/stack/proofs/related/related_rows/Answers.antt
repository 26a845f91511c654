use mathlib.Core.Path.{refl}
use Rattle.stack.proofs.Sums.{zeros}
use Rattle.stack.proofs.Relating.{rows_none, rows_more}
use native.Mathlib.Omega.{arith}
use Rattle.stack.proofs.related.related_rows.Goals as goal

pub loop-place-init : goal.loop-place-init
loop-place-init c = rows_none refl (zeros 64)

pub loop-place-preserved : goal.loop-place-preserved
loop-place-preserved c =
    rows_more c.higher-above.result c.shared.result c.loop-place.invariant (omega arith) (omega arith) c.higher-above.ensures c.shared.ensures
