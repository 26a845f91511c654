-- The decision from what was read is the decision of the table.
use mathlib.Core.Path.{◌∙◌}
use Rattle.rules.specs.Blocks.{records}
use Rattle.table.proofs.Closed.{before_is_map, beside_turned}
use Rattle.table.proofs.Tables.{shape, few_records}
use Rattle.preempt.proofs.Reading.{ids_directory, map_read}
use Rattle.preempt.proofs.map.table_map.Goals as goal

pub both_ways-requires : goal.both_ways-requires
both_ways-requires c =
    let t = c.args.table.now in
    ((few_records t).1, rw t.tasks_counted (before_is_map (records t.image.now) c.args.before (shape t).few_tasks c.requires))

pub mark_one_way-requires : goal.mark_one_way-requires
mark_one_way-requires c =
    let t = c.args.table.now in
    let read = c.read_tasks-tasks in
    record {
      tasks_listed = ids_directory (records t.image.now) t.tasks read.result.columns (shape t) read.ensures.read;
      beside = c.both_ways.ensures ∙ beside_turned (records t.image.now) c.args.before t.tasks (shape t).few_tasks t.tasks_counted c.requires;
    }

pub map_of-requires : goal.map_of-requires
map_of-requires c = (few_records c.args.table.now).1

pub returns : goal.returns
returns c =
    let t = c.args.table.now in
    let read = c.read_tasks-tasks in
    c.map_of.ensures
    ∙ map_read (records t.image.now) t.tasks read.result.columns c.mark_one_way.new.rows (shape t) read.ensures.read c.mark_one_way.ensures
