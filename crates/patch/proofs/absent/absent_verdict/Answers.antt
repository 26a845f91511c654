-- The first record that is not met lies in the patch, which has few records.
use native.Mathlib.Omega.{arith}
use Rattle.rules.specs.declared.Form.TheVariants.{Patch}
use Rattle.rules.proofs.Image.Frame.{frame_accepted}
use Rattle.table.proofs.Counts.{records_few, patch_held}
use Rattle.patch.proofs.absent.absent_verdict.Goals as goal

pub record_at-requires : goal.record_at-requires
record_at-requires c =
    let patch = c.args.patch.now in
    omega (arith, patch_held patch.image.now patch.accepted, c.record_count.ensures, c.if-met-record_count.true)

pub overflow_cast-result : goal.overflow_cast-result
overflow_cast-result c =
    let patch = c.args.patch.now in
    omega (arith, c.record_count.ensures, c.if-met-record_count.true, records_few Patch patch.image.now (frame_accepted Patch patch.image.now patch.accepted))
