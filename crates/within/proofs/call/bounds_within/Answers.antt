-- Each way out is one of the answers of a bound call with a limit.
use Rattle.std.proofs.Common.{◌≡◌, ap, ◌∙◌}
use Rattle.table.specs.declared.accepted.Table.{Table}
use Rattle.stack.proofs.Readying.{few_tasks, prepared_ready, rows_rising, rows_related}
use Rattle.within.proofs.Calling.{within_by_table, within_by_short, within_answered}
use Rattle.within.proofs.call.bounds_within.Goals as goal

pub returns-in_err-table : goal.returns-in_err-table
returns-in_err-table c =
    within_by_table c.args.image.now c.args.map.now c.args.ids.now c.args.limit c.from_residual.result c.in_err-table.field-0.0 c.from_residual.ensures.1 c.in_err-table.ensures.told

pub returns-then-map-lt64 : goal.returns-then-map-lt64
returns-then-map-lt64 c =
    rw c.in_ok-table.ensures.of_image at (within_by_short c.in_ok-table.table c.args.map.now c.args.ids.now c.args.limit c.then-map-lt64.either)

pub prepare-prepared-requires : goal.prepare-prepared-requires
prepare-prepared-requires c = record { in_bounds = (few_tasks c.read_tasks-tasks.result, c.if-map-lt64.false) }

pub within_over-requires : goal.within_over-requires
within_over-requires c =
    let tasks = c.read_tasks-tasks.result in
    let prepared = c.prepare-prepared in
    record {
      ready = prepared_ready tasks c.args.map.now prepared.result prepared.ensures;
      rises = rows_rising tasks c.args.map.now prepared.result.rows prepared.ensures.related;
      in_bounds = c.if-ids-lt64.false;
    }

pub returns : goal.returns
returns c =
    let tasks = c.read_tasks-tasks.result in
    let prepared = c.prepare-prepared in
    let map = c.args.map.now in
    let same : tasks.table.image.now ≡ c.args.image.now = ap (λ (t : Table). t.image.now) c.read_tasks-tasks.ensures.of_table ∙ c.in_ok-table.ensures.of_image in
    rw same at
    (within_answered tasks.table map c.args.ids.now c.args.limit c.if-map-lt64.false c.if-ids-lt64.false _ c.within_over.new.ids
    (c.within_over.ensures map (rows_related tasks map prepared.result.rows prepared.ensures.related)))
