use Prim.Native.Nat.{ℕ}
use mathlib.Core.List.{[]}
use mathlib.Core.Path.{ap, ◌∙◌}
use native.Mathlib.Omega.{arith}
use lib.ListN.{get_or}
use Rattle.rules.specs.Blocks.{records}
use Rattle.rules.specs.Records.{tasks, task_of}
use Rattle.table.proofs.Tables.{few_records}
use Rattle.preempt.proofs.Reading.{columns_none, columns_more}
use Rattle.preempt.proofs.tasks.read_tasks.Goals as goal

pub loop-i-init : goal.loop-i-init
loop-i-init c = rw c.none-columns.ensures (columns_none (records c.args.table.now.image.now))

pub put-requires : goal.put-requires
put-requires c = omega (arith, few_records c.args.table.now)

pub loop-i-preserved : goal.loop-i-preserved
loop-i-preserved c =
    let rs = records c.args.table.now.image.now in
    let i = c.loop-i.i in
    let own = c.period_at-period in
    let here = c.task_at.ensures ∙ ap (λ (t : ℕ). task_of t (get_or (tasks rs) i [])) own.ensures in
    rw c.put.ensures (columns_more rs i c.loop-i.columns c.task_at.result own.result (omega (arith, few_records c.args.table.now)) c.loop-i.invariant here own.ensures)
