-- The checks in their order: the table, then the two ids.
use mathlib.Core.Bool.{true}
use mathlib.Core.Path.{◌≡◌, sym}
use native.Mathlib.Omega.{arith}
use Rattle.rules.specs.Refusals.{accepted, table_verdict}
use Rattle.table.proofs.Judging.{judged_before}
use Rattle.reason.proofs.Calls.{refusal_handed_on, table_refused, low_unlisted, high_unlisted, reason_found}
use Rattle.reason.proofs.call.find_reason.Goals as goal

pub returns-in_err-table : goal.returns-in_err-table
returns-in_err-table c =
    let a = c.args in
    let e = c.in_err-table.field-0.0 in
    refusal_handed_on c.from_residual.result e c.from_residual.ensures.1 (table_refused a.image.now a.low a.high e c.in_err-table.ensures.judges.verdict)

pub returns-in_err-i : goal.returns-in_err-i
returns-in_err-i c =
    let a = c.args in
    let t = c.in_ok-table.table in
    let e = c.in_err-i.field-0.0 in
    rw (← c.in_ok-table.ensures.of_image)
    (refusal_handed_on c.from_residual-in_err-i.result e c.from_residual-in_err-i.ensures.1 (low_unlisted t.image.now a.low a.high t.accepted e c.in_err-i.ensures.told))

pub returns-in_err-j : goal.returns-in_err-j
returns-in_err-j c =
    let a = c.args in
    let t = c.in_ok-table.table in
    let e = c.in_err-j.field-0.0 in
    rw (← c.in_ok-table.ensures.of_image)
    (refusal_handed_on c.from_residual-in_err-j.result e c.from_residual-in_err-j.ensures.1 (high_unlisted t.image.now a.low a.high t.accepted e c.in_err-j.ensures.told))

pub reason_at-requires-clause-before_known : goal.reason_at-requires-clause-before_known
reason_at-requires-clause-before_known c =
    let ok = c.in_ok-table.ensures in
    let right : accepted (table_verdict c.args.image.now) ≡ true = rw (← ok.of_image) c.in_ok-table.table.accepted in
    rw ok.of_image (judged_before c.args.image.now _ _ _ ok.judges right)

pub returns : goal.returns
returns c =
    let a = c.args in
    let t = c.in_ok-table.table in
    let i = c.in_ok-i.ensures.place in
    let j = c.in_ok-j.ensures.place in
    rw (← c.in_ok-table.ensures.of_image, c.reason_at.ensures)
    (sym (reason_found t.image.now a.low a.high t.accepted c.in_ok-i.i c.in_ok-j.j (i.0, omega (arith, i.1, t.tasks_counted)) (j.0, omega (arith, j.1, t.tasks_counted))))
