-- Each way out is one of the four answers of a chain call for one task.
use Rattle.std.proofs.Common.{◌<◌, ◌≡◌, ap, ◌∙◌}
use native.Mathlib.Omega.{arith}
use borrow.Author.Rules.{rules}
use Rattle.rules.specs.Blocks.{records}
use Rattle.rules.specs.Records.{tasks as Records·tasks, place_of}
use Rattle.rules.specs.Preempt.{cell}
use Rattle.rules.proofs.FourBounds.Shown.{chain_below}
use Rattle.table.specs.declared.accepted.Table.{Table}
use Rattle.stack.specs.Listed.{listed}
use Rattle.stack.proofs.Calling.{listed_few}
use Rattle.stack.proofs.Readying.{few_tasks, ids_small}
use Rattle.through.proofs.Calling.{through_by_table, through_by_id, through_by_short, some_size, through_answered}
use Rattle.through.proofs.call.chain_through.Goals as goal

pub returns-in_err-table : goal.returns-in_err-table
returns-in_err-table c =
    through_by_table c.args.image.now c.args.map.now c.args.id c.args.ids.now c.from_residual.result c.in_err-table.field-0.0 c.from_residual.ensures.1 c.in_err-table.ensures.told

pub returns-in_default : goal.returns-in_default
returns-in_default c =
    rw c.in_ok-table.ensures.of_image at (through_by_id c.in_ok-table.table c.args.map.now c.args.id c.args.ids.now c.in_default.ensures.place)

pub returns-then-map-lt64 : goal.returns-then-map-lt64
returns-then-map-lt64 c =
    let found = c.in-Some.ensures in
    rw c.in_ok-table.ensures.of_image at (through_by_short c.in_ok-table.table c.args.map.now c.args.id c.in-Some.place found.place found.in_bounds c.args.ids.now c.then-map-lt64.either)

pub heaviest_through-best-requires : goal.heaviest_through-best-requires
heaviest_through-best-requires c =
    let tasks = c.read_tasks-tasks.result in
    let rising = c.related_tasks in
    let below : c.in-Some.place < tasks.table.tasks = rw c.read_tasks-tasks.ensures.of_table c.in-Some.ensures.in_bounds in
    record {
      task_with_size = (
        omega (arith, rising.ensures.count),
        rw rising.ensures.sizes (some_size tasks c.args.map.now rising.result.rows rising.ensures.related c.in-Some.place below),
      );
    }

pub write_ids-requires : goal.write_ids-requires
write_ids-requires c =
    let tasks = c.read_tasks-tasks.result in
    let rising = c.related_tasks in
    let best = c.heaviest_through-best in
    let chain = best.result.chain in
    rw c.as_slice.ensures
    (record {
      in_bounds = (listed_few chain (search rules), c.if-ids-lt64.false);
      places_below = λ k h. omega (arith, few_tasks tasks, rising.ensures.count, chain_below rising.result.count (cell rising.result.rows) (listed chain) best.ensures.heaviest.among.0 k h);
      ids_small = ids_small tasks;
    })

pub returns : goal.returns
returns c =
    let tasks = c.read_tasks-tasks.result in
    let rising = c.related_tasks in
    let best = c.heaviest_through-best in
    let place = c.in-Some.place in
    let same : tasks.table.image.now ≡ c.args.image.now = ap (λ (t : Table). t.image.now) c.read_tasks-tasks.ensures.of_table ∙ c.in_ok-table.ensures.of_image in
    let here : place ≡ place_of (Records·tasks (records tasks.table.image.now)) c.args.id = rw c.read_tasks-tasks.ensures.of_table c.in-Some.ensures.place in
    let below : place < tasks.table.tasks = rw c.read_tasks-tasks.ensures.of_table c.in-Some.ensures.in_bounds in
    rw same at
    (through_answered tasks c.args.map.now rising.result.rows rising.ensures.related c.args.id place best.result c.args.ids.now c.write_ids.new.ids here below
    c.if-map-lt64.false c.if-ids-lt64.false (search rules) (rw (rising.ensures.count, rising.ensures.sizes) at best.ensures) (rw c.as_slice.ensures at c.write_ids.ensures))
