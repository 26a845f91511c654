-- The ids that are read list the table's tasks.
use native.Mathlib.Omega.{arith}
use Rattle.table.proofs.Counts.{records-accepted, table_held}
use Rattle.table.proofs.Places.{tasks_directory}
use Rattle.table.proofs.Tables.{few_records, kinds_counted}
use Rattle.patch.proofs.carried.ids_of.Goals as goal

pub numbers_from-requires : goal.numbers_from-requires
numbers_from-requires c =
    let t = c.args.table.now in
    record { few = (few_records t).1; in_bounds = omega (arith, kinds_counted t); held = table_held t.image.now t.accepted }

pub returns : goal.returns
returns c =
    let t = c.args.table.now in
    tasks_directory t.image.now t.bytes (records-accepted t.image.now t.accepted) _ _ _ c.numbers_from.ensures t.transactions_counted t.tasks_counted
