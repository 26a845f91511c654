-- A refusal of base or patch is answered, and nothing is written.
use mathlib.Core.Path.{sym, ◌∙◌}
use Rattle.std.proofs.lemmas.Result.{err_from_is_err_and}
use Rattle.rules.proofs.Judged.{is_refused}
use Rattle.patch.proofs.Calling.{call_refused, patch_refused}
use Rattle.patch.proofs.call.apply_patch.Goals as goal

pub returns-in_err-change : goal.returns-in_err-change
returns-in_err-change c =
    let a = c.args in
    let p = err_from_is_err_and c.from_residual.result c.from_residual.ensures.1 in
    let e = c.in_err-change.field-0.0 in
    let told = c.in_err-change.ensures.told in
    let refused = is_refused e in
    rw (p.1, p.2)
    (patch_refused a.base.now a.patch.now a.map.now a.room.now a.carried.now _ (call_refused a.base.now a.patch.now a.map.now a.room.now a.carried.now (rw told at refused) ∙ sym told) refused)
