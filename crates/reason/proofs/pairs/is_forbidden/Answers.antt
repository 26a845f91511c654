-- The pairs are asked in turn.
use mathlib.Core.Bool.{◌&&◌}
use mathlib.Core.List.{[]}
use lib.Dec.{eqb}
use lib.ListN.{get_or}
use Rattle.std.proofs.Common.{rules}
use Rattle.rules.specs.Blocks.{records}
use Rattle.rules.specs.Records.{pairs, sort_of}
use Rattle.rules.specs.Preempt.{names, paired}
use Rattle.reason.proofs.Searching.{any_in_range}
use Rattle.reason.proofs.pairs.is_forbidden.Goals as goal

pub returns : goal.returns
unfolding paired
returns c =
    let a = c.args in
    let l = pairs (records a.table.now.image.now) in
    rw (← a.table.now.pairs_counted)
    (any_in_range (λ k. eqb (sort_of (get_or l k [])) 0 && names (get_or l k []) a.low a.high) a.table.now.pairs _ _ _ c.any.ensures.ran
    (λ x answer q called. search rules))
