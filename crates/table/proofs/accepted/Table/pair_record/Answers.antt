-- The pairs stand behind the tasks.
use Prim.Native.Nat.{◌+◌}
use mathlib.Core.Path.{◌∙◌}
use native.Mathlib.Omega.{arith}
use Rattle.table.proofs.Tables.{few_records, record_whole, pair_record}
use Rattle.table.proofs.accepted.Table.pair_record.Goals as goal

pub overflow_add-self : goal.overflow_add-self
overflow_add-self c = record { fits = omega (arith, few_records c.args.self.now) }

pub overflow_add-self-2 : goal.overflow_add-self-2
overflow_add-self-2 c = record { fits = omega (arith, few_records c.args.self.now) }

pub record_at-requires : goal.record_at-requires
record_at-requires c =
    record_whole c.args.self.now (c.args.self.now.transactions + c.args.self.now.tasks + c.args.place) (omega arith)

pub returns : goal.returns
returns c = c.record_at.ensures ∙ pair_record c.args.self.now c.args.place c.requires
