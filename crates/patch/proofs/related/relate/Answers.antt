-- Both ways round, what comes before what is what comes before or after what; with the one-way pairs it is what is barred.
use mathlib.Core.Path.{◌∙◌}
use Rattle.rules.specs.Blocks.{records}
use Rattle.table.proofs.Closed.{before_is_map, beside_turned}
use Rattle.table.proofs.Tables.{shape, few_records}
use Rattle.preempt.proofs.Reading.{ids_directory}
use Rattle.patch.proofs.related.relate.Goals as goal

pub both_ways-requires : goal.both_ways-requires
both_ways-requires c =
    let t = c.args.table.now in
    ((few_records t).1, rw t.tasks_counted (before_is_map (records t.image.now) c.args.before (shape t).few_tasks c.requires))

pub mark_one_way-requires : goal.mark_one_way-requires
mark_one_way-requires c =
    let t = c.args.table.now in
    let read = c.read_tasks-tasks in
    record {
      tasks_listed = ids_directory (records t.image.now) t.tasks read.result.columns (shape t) read.ensures.read;
      beside = c.both_ways.ensures ∙ beside_turned (records t.image.now) c.args.before t.tasks (shape t).few_tasks t.tasks_counted c.requires;
    }

pub invariant_of-result : goal.invariant_of-result
invariant_of-result c =
    let t = c.args.table.now in
    let read = c.read_tasks-tasks in
    rw read.ensures.of_table
    (record {
      few = (few_records t).1;
      paths = c.both_ways.ensures ∙ beside_turned (records t.image.now) c.args.before t.tasks (shape t).few_tasks t.tasks_counted c.requires;
      bars = c.mark_one_way.ensures;
    })
