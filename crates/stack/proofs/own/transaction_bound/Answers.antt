use Prim.Native.Nat.{◌+◌}
use mathlib.Core.Path.{ap, ◌∙◌}
use Rattle.rules.specs.Blocks.{records}
use Rattle.rules.specs.Records.{number_of, transactions}
use Rattle.table.proofs.Tables.{shape}
use Rattle.stack.proofs.Owning.{members_inside, own_none, own_next, own_within}
use native.Mathlib.Omega.{arith}
use Rattle.stack.proofs.own.transaction_bound.Goals as goal

pub loop-t-init : goal.loop-t-init
loop-t-init c =
    let o = c.args.ordered.now in
    own_none o.count o.rows o.sizes c.args.numbers.now (transactions (records c.args.table.now.image.now))

pub path_sums-more-requires : goal.path_sums-more-requires
path_sums-more-requires c =
    record { inside = members_inside c.args.numbers.now c.args.ordered.now.count c.two_bytes-number.result c.members-own.result c.args.ordered.now.ready.arrays.few c.members-own.ensures }

pub overflow_add-total : goal.overflow_add-total
overflow_add-total c =
    let ready = c.args.ordered.now.ready in
    let here = c.two_bytes-number.ensures.0 ∙ ap number_of c.transaction_record.ensures in
    let next = own_next c.loop-t.invariant ready.arrays.few here c.members-own.ensures c.path_sums-more.ensures c.largest_at-total.ensures in
    let table = c.args.table.now in
    omega (arith, own_within ready c.args.numbers.now (transactions (records table.image.now)) (c.loop-t.t + 1) (c.loop-t.total + c.largest_at-total.result) (shape table).transactions_rise (omega (arith, table.transactions_counted)) next)

pub loop-t-preserved : goal.loop-t-preserved
loop-t-preserved c =
    let here = c.two_bytes-number.ensures.0 ∙ ap number_of c.transaction_record.ensures in
    own_next c.loop-t.invariant c.args.ordered.now.ready.arrays.few here c.members-own.ensures c.path_sums-more.ensures c.largest_at-total.ensures
