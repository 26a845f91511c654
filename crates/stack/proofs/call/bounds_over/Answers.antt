-- What was found over the rows is right for the table and any map that they come from.
use Rattle.rules.specs.Preempt.{cell}
use Rattle.rules.proofs.FourBounds.Shown.{chain_below}
use Rattle.stack.specs.Listed.{listed}
use Rattle.stack.proofs.Readying.{ids_small}
use Rattle.stack.proofs.Calling.{listed_few, worked_out}
use native.Mathlib.Omega.{arith}
use borrow.Author.Rules.{rules}
use Rattle.stack.proofs.call.bounds_over.Goals as goal

pub write_ids-requires : goal.write_ids-requires
write_ids-requires c =
    let chain = c.heaviest_chain-best.result.chain in
    let among = c.heaviest_chain-best.ensures.heaviest.among in
    rw c.as_slice.ensures
    (record {
      in_bounds = (listed_few chain (search rules), c.requires.in_bounds);
      places_below = λ k h. omega (arith, c.requires.ready.arrays.few, chain_below c.args.tasks.now.table.tasks (cell c.args.prepared.now.rows) (listed chain) among k h);
      ids_small = ids_small c.args.tasks.now;
    })

pub returns : goal.returns
returns c lent same =
    let ordered = c.ordered-ordered.ensures in
    let best = c.heaviest_chain-best in
    worked_out c.args.tasks.now lent c.args.prepared.now.rows same best.result _ _ _ c.args.ids.now _ (search rules) best.ensures
    (rw (ordered.count, ordered.rows, ordered.sizes) at c.path_bound.ensures)
    (rw (ordered.count, ordered.rows, ordered.sizes) at c.transaction_bound.ensures)
    c.level_bound.ensures
    (rw c.as_slice.ensures at c.write_ids.ensures)
