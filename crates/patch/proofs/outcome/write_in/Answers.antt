-- What is merged are the records of the outcome, so what is written is their image.
use mathlib.Core.Path.{sym}
use lib.Seq.{length-take-le}
use Rattle.rules.specs.Blocks.{records}
use Rattle.rules.specs.Patches.{outcome}
use Rattle.rules.proofs.Patch.Outcome.{outcome_sized}
use Rattle.patch.proofs.Writing.{image_written}
use Rattle.patch.proofs.outcome.write_in.Goals as goal

pub slice_bounds-write_image-end-2 : goal.slice_bounds-write_image-end-2
slice_bounds-write_image-end-2 c = sym (length-take-le c.merge-bytes.result c.merge-bytes.new.flat c.merge-bytes.ensures.inside)

pub returns : goal.returns
returns c =
    let change = c.args.change.now in
    let rs = outcome (records change.base.image.now) (records change.patch.image.now) in
    let sized = outcome_sized change.base.image.now change.patch.image.now change.base.accepted change.patch.accepted in
    let bytes = c.merge-bytes.ensures.bytes in
    let image = c.write_image.ensures in
    rw (image.room_written, bytes) (image_written rs sized c.args.room.now c.requires.in_bounds.1 c.write_image.result (rw bytes at image.length_written) image.not_empty)
