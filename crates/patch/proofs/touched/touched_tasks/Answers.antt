-- One record more adds the tasks that it touches.
use mathlib.Core.Path.{◌≡◌, sym, ap, ◌∙◌}
use mathlib.Core.List.{[]}
use native.Mathlib.Omega.{arith}
use lib.ListN.{length, get_or}
use Rattle.rules.specs.Numbers.{some}
use Rattle.rules.specs.Blocks.{records, record_at, record_count}
use Rattle.rules.proofs.Numbers.{length-up_to, get_or-up_to}
use Rattle.table.proofs.Counts.{patch_held}
use Rattle.patch.specs.Touched.{Marks}
use Rattle.patch.proofs.Touching.{marks_start, marks_more}
use Rattle.patch.proofs.touched.touched_tasks.Invariants.{is_touched}
use Rattle.patch.proofs.touched.touched_tasks.Goals as goal

pub loop-place-init : goal.loop-place-init
loop-place-init c =
    let a = c.args in
    marks_start a.related.now.tasks (is_touched (records a.patch.now.image.now) a.related.now)

pub record_at-fields-requires : goal.record_at-fields-requires
record_at-fields-requires c =
    let patch = c.args.patch.now in
    omega (arith, patch_held patch.image.now patch.accepted, c.record_count-place-end.ensures, c.loop-place-test.true)

pub loop-place-preserved : goal.loop-place-preserved
loop-place-preserved c =
    let image = c.args.patch.now.image.now in
    let related = c.args.related.now in
    let k = c.loop-place.place in
    let test = is_touched (records image) related in
    let read : get_or (records image) k [] ≡ c.record_at-fields.result.now = get_or-up_to (record_at image) (record_count image) k [] (omega (arith, c.record_count-place-end.ensures)) ∙ sym c.record_at-fields.ensures in
    let here : Marks related.tasks (λ i. test i k) c.touched_by.result = rw read c.touched_by.ensures in
    rw c.union-set.ensures (marks_more related.tasks test k c.loop-place.set c.touched_by.result c.loop-place.invariant here)

pub returns : goal.returns
returns c =
    let image = c.args.patch.now.image.now in
    let end : c.loop-place.place ≡ length (records image) = omega (arith, c.record_count-place-end.ensures, length-up_to (record_at image) (record_count image)) in
    λ i l. c.loop-place.invariant i l ∙ ap (some (is_touched (records image) c.args.related.now i)) end
