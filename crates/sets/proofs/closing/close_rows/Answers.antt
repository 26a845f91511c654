use Prim.Native.Nat.{ℕ}
use mathlib.Core.Path.{◌≡◌, ap, ◌∙◌}
use native.Mathlib.Omega.{arith}
use Rattle.rules.specs.Preempt.{cell, map_from}
use Rattle.rules.specs.Reach.{reaches}
use Rattle.sets.proofs.Paths.{closed_more, closed_none, is_map}
use Rattle.sets.proofs.closing.close_rows.Goals as goal

pub loop-k-init : goal.loop-k-init
loop-k-init c = (omega arith, closed_none c.args.count c.args.rows.now c.requires.map)

pub lead_over-requires : goal.lead_over-requires
lead_over-requires c =
    let s = c.loop-k in record { count_bound = (c.requires.count_bound, omega arith); map = is_map c.args.count (reaches (cell c.args.rows.now) (λ m. m) s.k) s.rows c.requires.count_bound s.invariant.1 }

pub loop-k-preserved : goal.loop-k-preserved
loop-k-preserved c =
    let s = c.loop-k in
    (omega arith, c.lead_over.ensures ∙ closed_more c.args.count (cell c.args.rows.now) s.rows s.k c.requires.count_bound (omega arith) s.invariant.1)

pub returns : goal.returns
returns c =
    let a = c.args in
    let end : c.loop-k.k ≡ a.count = omega arith in
    c.loop-k.invariant.1 ∙ ap (λ (k : ℕ). map_from a.count (reaches (cell a.rows.now) (λ m. m) k)) end
