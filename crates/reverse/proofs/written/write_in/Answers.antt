-- What is written are the records of the reverse, so the image that is made of them is the reverse.
use mathlib.Core.Path.{sym, ◌∙◌}
use lib.Seq.{length-take-le}
use Rattle.reverse.proofs.Reversing.{reverse_inside, reverse_image}
use Rattle.reverse.proofs.written.write_in.Goals as goal

pub slice_bounds-write_image-end : goal.slice_bounds-write_image-end
slice_bounds-write_image-end c = reverse_inside c.args.patch.now _ _ _ c.requires.in_bounds.0 c.write_reversed-bytes.ensures

pub slice_bounds-write_image-end-2 : goal.slice_bounds-write_image-end-2
slice_bounds-write_image-end-2 c = sym (length-take-le _ _ (slice_bounds-write_image-end c))

pub returns : goal.returns
returns c =
    c.write_image.ensures.room_written
    ∙ (reverse_image c.args.patch.now c.args.room.now c.requires.in_bounds.1 _ c.write_reversed-bytes.ensures.bytes).1
