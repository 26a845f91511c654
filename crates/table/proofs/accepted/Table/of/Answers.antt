-- An accepted table holds its records, and they are in form, in order, in range and not too many.
use Rattle.table.proofs.Counts.{table_held, records-accepted}
use Rattle.table.proofs.accepted.Table.of.Goals as goal

pub count_of-requires : goal.count_of-requires
count_of-requires c = record { held = table_held c.args.image.now c.requires; sound = records-accepted c.args.image.now c.requires }

pub count_of-requires-2 : goal.count_of-requires-2
count_of-requires-2 c = record { held = table_held c.args.image.now c.requires; sound = records-accepted c.args.image.now c.requires }

pub count_of-requires-3 : goal.count_of-requires-3
count_of-requires-3 c = record { held = table_held c.args.image.now c.requires; sound = records-accepted c.args.image.now c.requires }
