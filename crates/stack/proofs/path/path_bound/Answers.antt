-- The best sums of all places are made, and a set of all places leaves the path bound itself.
use Rattle.rules.specs.Preempt.{cell}
use Rattle.ceiling.specs.Near.{size_of}
use Rattle.stack.proofs.Sums.{sums_bound}
use Rattle.stack.proofs.Figures.{largest_all}
use Rattle.stack.proofs.path.path_bound.Goals as goal

pub returns : goal.returns
returns c =
    let ordered = c.args.ordered.now in
    let all = c.all_below-all.result in
    largest_all ordered.count (cell ordered.rows) all (size_of ordered.sizes) c.largest_at.result c.all_below-all.ensures
    (sums_bound ordered.count ordered.rows ordered.sizes all c.path_sums-sums.ensures c.largest_at.ensures)
