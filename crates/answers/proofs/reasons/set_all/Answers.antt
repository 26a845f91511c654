-- A table that is not refused has at most 64 tasks, and is judged with the rows of what comes before what.
use mathlib.Core.Bool.{true}
use mathlib.Core.Path.{◌≡◌}
use Rattle.rules.specs.Refusals.{accepted, table_verdict}
use Rattle.table.proofs.Judging.{judged_before}
use Rattle.table.proofs.Tables.{few_records}
use Rattle.answers.proofs.reasons.set_all.Goals as goal

pub set_row-requires-clause-before_known : goal.set_row-requires-clause-before_known
set_row-requires-clause-before_known c =
    let ok = c.in_ok-table.ensures in
    let right : accepted (table_verdict c.args.image.now) ≡ true = rw (← ok.of_image) c.in_ok-table.table.accepted in
    rw ok.of_image (judged_before c.args.image.now _ _ _ ok.judges right)

pub set_row-requires-clause-few : goal.set_row-requires-clause-few
set_row-requires-clause-few c = (few_records c.in_ok-table.table).1
