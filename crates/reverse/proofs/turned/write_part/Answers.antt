-- Each record is read from the patch, has 32 bytes, and finds room behind those before it.
use mathlib.Core.Path.{◌≡◌, ap, ◌∙◌}
use mathlib.Core.List.{[]}
use native.Mathlib.Omega.{arith}
use lib.ListN.{length, get_or}
use Rattle.rules.specs.Blocks.{records}
use Rattle.table.proofs.Counts.{patch_held}
use Rattle.patch.proofs.Accepted.{read_is}
use Rattle.reverse.proofs.Growing.{growing_none, growing_next, growing_fits, growing_more, growing_all}
use Rattle.reverse.proofs.turned.write_part.Goals as goal

pub loop-place-init : goal.loop-place-init
loop-place-init c = growing_none c.args.patch.now _ _ _ _ _ c.requires.in_bounds

pub record_at-requires : goal.record_at-requires
record_at-requires c = omega (arith, patch_held c.args.patch.now.image.now c.args.patch.now.accepted)

pub write_turned-requires : goal.write_turned-requires
write_turned-requires c =
    let read : c.record_at.result.now ≡ get_or (records c.args.patch.now.image.now) c.loop-place.place [] = read_is c.args.patch.now.image.now c.loop-place.place c.record_at.result.now (omega arith) c.record_at.ensures in
    let pre = c.requires in
    let s = c.loop-place in
    let more = c.loop-place-test.true in
    (ap length read ∙ growing_next c.args.patch.now _ _ _ _ _ pre.in_bounds _ _ _ s.invariant more, growing_fits c.args.patch.now _ _ _ _ _ pre.in_bounds _ _ _ s.invariant more)

pub overflow_add-written : goal.overflow_add-written
overflow_add-written c =
    let pre = c.requires in
    omega (arith, growing_fits c.args.patch.now _ _ _ _ _ pre.in_bounds _ _ _ c.loop-place.invariant c.loop-place-test.true)

pub loop-place-preserved : goal.loop-place-preserved
loop-place-preserved c =
    let read : c.record_at.result.now ≡ get_or (records c.args.patch.now.image.now) c.loop-place.place [] = read_is c.args.patch.now.image.now c.loop-place.place c.record_at.result.now (omega arith) c.record_at.ensures in
    let pre = c.requires in
    rw (c.write_turned.ensures, c.from.ensures, read)
    (growing_more c.args.patch.now _ _ _ _ _ pre.in_bounds _ _ _ c.loop-place.invariant c.loop-place-test.true)

pub shape_of-flat : goal.shape_of-flat
shape_of-flat c = c.loop-place.invariant.behind.same_length

pub returns : goal.returns
returns c =
    let pre = c.requires in
    growing_all c.args.patch.now _ _ _ _ _ pre.in_bounds _ _ _ c.loop-place.invariant c.loop-place-test.false
