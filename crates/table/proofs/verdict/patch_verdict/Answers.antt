-- A refused frame hides what comes after it.
use mathlib.Core.Bool.{true}
use mathlib.Core.Path.{◌≡◌}
use Rattle.rules.specs.declared.Form.TheVariants.{Patch}
use Rattle.rules.specs.Refusals.{accepted, frame_verdict, patch_verdict}
use Rattle.rules.proofs.Judged.{is_refused}
use Rattle.table.proofs.Counts.{records_few, records_held}
use Rattle.table.proofs.Judging.{handed_on}
use Rattle.table.proofs.verdict.patch_verdict.Goals as goal

pub returns-in_err-frame_verdict-clause-told : goal.returns-in_err-frame_verdict-clause-told
unfolding patch_verdict
returns-in_err-frame_verdict-clause-told c =
    let e = c.in_err-frame_verdict.field-0.0 in
    handed_on c.from_residual.result e c.from_residual.ensures.1 (rw (← c.in_err-frame_verdict.ensures, is_refused e))

pub check_records-requires : goal.check_records-requires
check_records-requires c =
    let image = c.args.image.now in
    let framed : accepted (frame_verdict Patch image) ≡ true = rw (← c.in_ok-frame_verdict.ensures) in
    record { few = records_few Patch image framed; held = records_held Patch image framed }

pub returns-in_err-check_records-clause-told : goal.returns-in_err-check_records-clause-told
unfolding patch_verdict
returns-in_err-check_records-clause-told c =
    let e = c.in_err-check_records.field-0.0 in
    handed_on c.from_residual-in_err-check_records.result e c.from_residual-in_err-check_records.ensures.1 (rw (← c.in_ok-frame_verdict.ensures) c.in_err-check_records.ensures)

pub invariant_of-result : goal.invariant_of-result
unfolding patch_verdict
invariant_of-result c =
    record { bytes = λ k. (c.type_inv.image k).fits; accepted = rw (← c.in_ok-frame_verdict.ensures, ← c.in_ok-check_records.ensures) }

pub returns-clause-told : goal.returns-clause-told
unfolding patch_verdict
returns-clause-told c = rw (← c.in_ok-frame_verdict.ensures, ← c.in_ok-check_records.ensures)
