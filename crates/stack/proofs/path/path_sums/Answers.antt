use mathlib.Core.Path.{sym, ◌∙◌}
use Rattle.stack.proofs.Sums.{underway_none, next_place, underway_skip, underway_take, underway_light}
use native.Mathlib.Omega.{arith}
use borrow.Author.Rules.{rules}
use Rattle.stack.proofs.path.path_sums.Goals as goal
use Rattle.stack.proofs.path.path_sums.Goals.{then-is_set, else-is_set}

pub loop-k-init : goal.loop-k-init
loop-k-init c = underway_none c.args.ordered.now.ready (search rules) c.requires.inside

pub overflow_add-sums : goal.overflow_add-sums
overflow_add-sums c =
    let ready = c.args.ordered.now.ready in
    let so_far = c.loop-k.invariant in
    let (left, place, few) = next_place c.args.ordered.now.ready c.loop-k.invariant (omega (arith, c.if-rest-eq0.false)) c.ranges.cover.fits c.from-place.ensures in
    omega (arith, few, ready.arrays.light c.from-place.result place, so_far.count, underway_light ready so_far left (rw c.from-place.ensures at c.shared-higher.ensures) c.largest_at.ensures)

pub loop-k-preserved : goal.loop-k-preserved
loop-k-preserved c =
    let ready = c.args.ordered.now.ready in
    let (left, place, few) = next_place ready c.loop-k.invariant (omega (arith, c.if-rest-eq0.false)) c.ranges.cover.fits c.from-place.ensures in
    elim c.if-is_set.branch [
      | then-is_set w ↦
          rw (w.sums-is, w.rest-is, c.from-place.ensures)
          (underway_take ready c.loop-k.invariant left
          (rw c.from-place.ensures at (sym c.is_set.ensures ∙ w.if-is_set.true))
          (rw c.from-place.ensures at w.shared-higher.ensures)
          w.largest_at.ensures
          (rw c.from-place.ensures at w.without-rest.ensures))
      | else-is_set w ↦
          rw (w.sums-is, w.rest-is)
          (underway_skip ready c.loop-k.invariant left (rw c.from-place.ensures at (sym c.is_set.ensures ∙ w.if-is_set.false)))
    ]
