-- The transactions stand first, so the place among those records is the place among the transactions.
use Prim.Native.Nat.{ℕ}
use mathlib.Core.List.{[]}
use mathlib.Core.Path.{ap, sym, ◌∙◌}
use native.Mathlib.Omega.{arith}
use lib.ListN.{get_or, get_or-eq_default}
use Rattle.rules.specs.Blocks.{records}
use Rattle.rules.specs.Records.{period_of, transactions}
use Rattle.table.proofs.Counts.{table_held}
use Rattle.table.proofs.Tables.{kinds_counted, transaction_placed}
use Rattle.preempt.proofs.tasks.period_in.Goals as goal

pub place_from-requires : goal.place_from-requires
place_from-requires c =
    let t = c.args.table.now in
    record { in_bounds = omega (arith, kinds_counted t); held = table_held t.image.now t.accepted }

pub returns-in-Some : goal.returns-in-Some
returns-in-Some c =
    let t = c.args.table.now in
    c.four_bytes.ensures
    ∙ ap period_of c.transaction_record.ensures
    ∙ ap (λ (p : ℕ). period_of (get_or (transactions (records t.image.now)) p [])) (c.in-Some.ensures.placed ∙ transaction_placed t c.args.number)

pub returns-in-None : goal.returns-in-None
returns-in-None c =
    let t = c.args.table.now in
    let l = transactions (records t.image.now) in
    sym (ap period_of (get_or-eq_default l [] (omega (arith, c.in-None.ensures.placed, transaction_placed t c.args.number, t.transactions_counted))))
