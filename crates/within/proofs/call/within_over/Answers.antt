-- Each way out is one of the two answers where the bounds are asked.
use Rattle.within.proofs.Counting.{none_left, some_left}
use Rattle.within.proofs.Calling.{given_up, found_within}
use Rattle.within.proofs.call.within_over.Goals as goal

pub returns-then-is_spent : goal.returns-then-is_spent
returns-then-is_spent c lent same =
    let tasks = c.args.tasks.now in
    let ordered = c.ordered-ordered.ensures in
    let tally = c.tally_chains-tally in
    given_up tasks c.args.prepared.now.rows lent same c.args.ids.now c.args.limit tally.result
    (rw (ordered.count, ordered.rows, ordered.sizes) at tally.ensures)
    c.path_bound-path.result c.transaction_bound-transactions.result
    (rw (ordered.count, ordered.rows, ordered.sizes) at c.path_bound-path.ensures)
    (rw (ordered.count, ordered.rows, ordered.sizes) at c.transaction_bound-transactions.ensures)
    (none_left c.is_spent.ensures c.if-is_spent.true)

pub returns : goal.returns
returns c lent same =
    let tasks = c.args.tasks.now in
    let ordered = c.ordered-ordered.ensures in
    let tally = c.tally_chains-tally in
    found_within tasks c.args.prepared.now.rows lent same c.args.ids.now c.args.limit tally.result
    (rw (ordered.count, ordered.rows, ordered.sizes) at tally.ensures)
    c.bounds_over.result c.opened.result c.bounds_over.new.ids (c.bounds_over.ensures lent same)
    (some_left c.is_spent.ensures c.if-is_spent.false) c.opened.ensures
