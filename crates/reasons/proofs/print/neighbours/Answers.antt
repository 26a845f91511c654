-- An accepted table is judged with the rows of what comes before what.
use Rattle.std.proofs.Common.{◌≡◌, true}
use Rattle.rules.specs.Refusals.{accepted, table_verdict}
use Rattle.table.proofs.Judging.{judged_before}
use Rattle.reasons.proofs.print.neighbours.Goals as goal

pub pair_lines-requires-clause-before_known : goal.pair_lines-requires-clause-before_known
pair_lines-requires-clause-before_known g c =
    let ok = c.in-Ok.ensures in
    let right : accepted (table_verdict c.args.image.now) ≡ true = rw (← ok.of_image) c.in-Ok.table.accepted in
    rw ok.of_image (judged_before c.args.image.now _ _ _ ok.judges right)
