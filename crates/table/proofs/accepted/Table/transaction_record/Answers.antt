-- The transactions stand first.
use mathlib.Core.Path.{◌∙◌}
use native.Mathlib.Omega.{arith}
use Rattle.table.proofs.Tables.{record_whole, transaction_record}
use Rattle.table.proofs.accepted.Table.transaction_record.Goals as goal

pub record_at-requires : goal.record_at-requires
record_at-requires c = record_whole c.args.self.now c.args.place (omega arith)

pub returns : goal.returns
returns c = c.record_at.ensures ∙ transaction_record c.args.self.now c.args.place c.requires
