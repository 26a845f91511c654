-- One case for each way out: a refused table, too short a map, and a map that is filled.
use mathlib.Core.List.{List}
use mathlib.Core.Bool.{true, false}
use mathlib.Core.Path.{◌≡◌, ap, ◌∙◌}
use Rattle.rules.specs.Calls.{over}
use Rattle.rules.specs.Refusals.{accepted, table_verdict}
use Rattle.rules.proofs.Judged.{is_refused}
use Rattle.table.proofs.Judging.{judged_before, handed_on}
use Rattle.preempt.proofs.Calls.{map_refused, map_short, map_filled}
use Rattle.preempt.proofs.map.fill_map.Goals as goal

pub returns-in_err-table : goal.returns-in_err-table
returns-in_err-table c =
    let a = c.args in
    let e = c.in_err-table.field-0.0 in
    let refusal = c.in_err-table.ensures.judges.verdict in
    let refused : accepted (table_verdict c.args.image.now) ≡ false = rw (← refusal) (is_refused e) in
    let call = map_refused a.image.now a.rows.now refused in
    record { told = handed_on c.from_residual.result e c.from_residual.ensures.1 (refusal ∙ call.0); rows_after = call.1 }

pub returns-then-rows-lt64 : goal.returns-then-rows-lt64
returns-then-rows-lt64 c =
    let t = c.in_ok-table.table in
    let call = map_short t.image.now c.args.rows.now t.accepted c.if-rows-lt64.true in
    rw (← c.in_ok-table.ensures.of_image) (record { told = call.0; rows_after = call.1 })

pub table_map-requires : goal.table_map-requires
table_map-requires c =
    let ok = c.in_ok-table.ensures in
    let right : accepted (table_verdict c.args.image.now) ≡ true = rw (← ok.of_image) c.in_ok-table.table.accepted in
    rw ok.of_image (judged_before c.args.image.now _ _ _ ok.judges right)

pub returns : goal.returns
returns c =
    let t = c.in_ok-table.table in
    let lent = c.args.rows.now in
    let call = map_filled t.image.now lent t.accepted c.if-rows-lt64.false in
    rw (← c.in_ok-table.ensures.of_image) (record { told = call.0; rows_after = c.write_rows.ensures ∙ ap (λ (map : List _). over map lent) c.table_map.ensures ∙ call.1 })
