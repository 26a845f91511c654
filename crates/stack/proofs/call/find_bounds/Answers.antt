-- Each way out is one of the three answers of a bound call.
use mathlib.Core.Bool.{true, ◌||◌}
use mathlib.Core.Path.{◌≡◌, ap, ◌∙◌}
use borrow.Author.Tests.{lt-ltb, le-ltb}
use lib.Dec.{ltb}
use lib.ListN.{length}
use native.Mathlib.Omega.{arith}
use Rattle.rules.specs.Refusals.{accepted, table_verdict}
use Rattle.table.specs.declared.accepted.Table.{Table}
use Rattle.stack.proofs.Readying.{few_tasks, rows_rising, rows_related, prepared_ready}
use Rattle.stack.proofs.Calling.{by_table, by_short, answered}
use Rattle.stack.proofs.call.find_bounds.Goals as goal
use Rattle.stack.proofs.call.find_bounds.Goals.{then-map-lt64-via-then-map-lt64, then-map-lt64-via-else-map-lt64+then-ids-lt64}

pub returns-in_err-table : goal.returns-in_err-table
returns-in_err-table c =
    by_table c.args.image.now c.args.map.now c.args.ids.now c.from_residual.result c.in_err-table.field-0.0 c.from_residual.ensures.1 c.in_err-table.ensures.told

pub returns-then-map-lt64 : goal.returns-then-map-lt64
returns-then-map-lt64 c =
    let map = length c.args.map.now in
    let ids = length c.args.ids.now in
    let short : (ltb map 64 || ltb ids 64) ≡ true = elim c.then-map-lt64.branch [
      | then-map-lt64-via-then-map-lt64 w ↦ rw (lt-ltb map 64 (omega (arith, w.if-map-lt64.true)))
      | then-map-lt64-via-else-map-lt64+then-ids-lt64 w ↦ rw (le-ltb map 64 (omega (arith, w.if-map-lt64.false)), lt-ltb ids 64 (omega (arith, w.if-ids-lt64.true)))
    ] in
    by_short c.args.image.now c.args.map.now c.args.ids.now (rw (← c.in_ok-table.ensures.told)) short

pub prepare-prepared-requires : goal.prepare-prepared-requires
prepare-prepared-requires c = record { in_bounds = (few_tasks c.read_tasks-tasks.result, omega (arith, c.if-map-lt64.false)) }

pub bounds_over-requires-clause-ready : goal.bounds_over-requires-clause-ready
bounds_over-requires-clause-ready c = prepared_ready c.read_tasks-tasks.result c.args.map.now c.prepare-prepared.result c.prepare-prepared.ensures

pub bounds_over-requires-clause-rises : goal.bounds_over-requires-clause-rises
bounds_over-requires-clause-rises c =
    rows_rising c.read_tasks-tasks.result c.args.map.now c.prepare-prepared.result.rows c.prepare-prepared.ensures.related

pub returns : goal.returns
returns c =
    let tasks = c.read_tasks-tasks in
    let lent = c.args.map.now in
    let image_is : tasks.result.table.image.now ≡ c.args.image.now = ap (λ (t : Table). t.image.now) tasks.ensures.of_table ∙ c.in_ok-table.ensures.of_image in
    let same = rows_related tasks.result lent c.prepare-prepared.result.rows c.prepare-prepared.ensures.related in
    let right : accepted (table_verdict c.args.image.now) ≡ true = rw (← c.in_ok-table.ensures.told) in
    answered c.args.image.now lent c.args.ids.now right (omega (arith, c.if-map-lt64.false)) (omega (arith, c.if-ids-lt64.false))
    _ _
    (rw image_is at (c.bounds_over.ensures lent same))
