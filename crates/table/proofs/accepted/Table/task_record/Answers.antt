-- The tasks stand behind the transactions.
use Prim.Native.Nat.{◌+◌}
use mathlib.Core.Path.{◌∙◌}
use native.Mathlib.Omega.{arith}
use Rattle.table.proofs.Tables.{few_records, record_whole, task_record}
use Rattle.table.proofs.accepted.Table.task_record.Goals as goal

pub overflow_add-self : goal.overflow_add-self
overflow_add-self c = record { fits = omega (arith, few_records c.args.self.now) }

pub record_at-requires : goal.record_at-requires
record_at-requires c = record_whole c.args.self.now (c.args.self.now.transactions + c.args.place) (omega arith)

pub returns : goal.returns
returns c = c.record_at.ensures ∙ task_record c.args.self.now c.args.place c.requires
