-- The part that is put in is written first, to be taken out, and the part that is taken out behind it, to be put in.
use native.Mathlib.Omega.{arith}
use lib.ListN.{length-take, length-drop}
use Rattle.rules.proofs.Patch.Ways.{length-with_way}
use Rattle.table.proofs.Counts.{patch_held}
use Rattle.patch.proofs.Accepted.{as_many}
use Rattle.reverse.proofs.Growing.{behind_both}
use Rattle.reverse.proofs.Reversing.{first_inside, patch_few, reverse_parts}
use Rattle.reverse.proofs.turned.write_reversed.Goals as goal

pub first_put_in-first-requires : goal.first_put_in-first-requires
first_put_in-first-requires c = let patch = c.args.patch.now in patch_held patch.image.now patch.accepted

pub write_part-written-requires : goal.write_part-written-requires
write_part-written-requires c =
    let patch = c.args.patch.now in
    omega (arith, patch_few patch, first_inside patch.image.now)

pub write_part-requires : goal.write_part-requires
write_part-requires c =
    let patch = c.args.patch.now in
    let size = simp (length-with_way, length-take, length-drop) at c.write_part-written.ensures.size in
    omega (arith, patch_few patch, first_inside patch.image.now, as_many patch.image.now, size)

pub returns : goal.returns
returns c =
    behind_both _ _ _ _ _ _ _ _ _ c.write_part-written.ensures c.write_part.ensures
    (reverse_parts c.args.patch.now _ _ c.first_put_in-first.ensures c.record_count-count.ensures)
