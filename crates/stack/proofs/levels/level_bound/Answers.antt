-- The largest sizes add up to the levels.
use mathlib.Core.Path.{◌∙◌}
use native.Mathlib.Omega.{arith}
use Rattle.stack.proofs.Levelling.{sizes_sum, sizes_fit}
use Rattle.stack.proofs.levels.level_bound.Goals as goal

pub sum_of-requires : goal.sum_of-requires
sum_of-requires c =
    let r = c.args.rising.now in
    record { fits = omega (arith, sizes_fit r.arrays r.rises c.largest_sizes.ensures) }

pub returns : goal.returns
returns c =
    let r = c.args.rising.now in
    c.sum_of.ensures ∙ sizes_sum r.arrays r.rises c.largest_sizes.ensures
