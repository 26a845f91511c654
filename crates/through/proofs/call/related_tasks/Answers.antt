-- The rows are those that an accepted table's tasks have over the map, which rise in priority.
use Rattle.stack.proofs.Readying.{few_tasks, rows_arrays, rows_rising, rows_related}
use Rattle.through.proofs.call.related_tasks.Goals as goal

pub related_rows-requires : goal.related_rows-requires
related_rows-requires c = record { in_bounds = (few_tasks c.args.tasks.now, c.requires.in_bounds) }

pub invariant_of-result : goal.invariant_of-result
invariant_of-result c =
    let tasks = c.args.tasks.now in
    record {
      arrays = rows_arrays tasks c.args.map.now c.related_rows.result c.related_rows.ensures;
      rises = rows_rising tasks c.args.map.now c.related_rows.result c.related_rows.ensures;
    }

pub returns-clause-related : goal.returns-clause-related
returns-clause-related c = rows_related c.args.tasks.now c.args.map.now c.related_rows.result c.related_rows.ensures
