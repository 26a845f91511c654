-- The tasks stand behind the transactions, so the place among those records is the place among the tasks.
use mathlib.Core.Path.{◌∙◌}
use native.Mathlib.Omega.{arith}
use Rattle.table.proofs.Counts.{table_held}
use Rattle.table.proofs.Tables.{kinds_counted, task_placed}
use Rattle.preempt.proofs.tasks.task_place.Goals as goal

pub place_from-requires : goal.place_from-requires
place_from-requires c =
    let t = c.args.table.now in
    record { in_bounds = omega (arith, kinds_counted t); held = table_held t.image.now t.accepted }

pub returns : goal.returns
returns c = record { place = c.place_from.ensures.placed ∙ task_placed c.args.table.now c.args.id; in_bounds = c.place_from.ensures.inside }
