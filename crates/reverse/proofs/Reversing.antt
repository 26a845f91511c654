-- The reverse of an accepted patch: its records are the two parts of the patch, changed over, and their image is as long as the
-- patch, so it is written wherever the room holds that.
use Prim.Native.Nat.{ℕ, ◌*◌, ◌-◌, ◌%◌, ◌≤◌}
use mathlib.Core.List.{List, ◌++◌}
use mathlib.Core.Bool.{true}
use mathlib.Core.Path.{◌≡◌, sym, ◌∙◌}
use native.Mathlib.Omega.{arith}
use borrow.Author.Tests.{eq-eqb, le-leb}
use lib.ListN.{length, take, drop, length-drop}
use lib.Seq.{take_all}
use Rattle.rules.specs.declared.Form.TheVariants.{Patch as Form·Patch}
use Rattle.rules.specs.Numbers.{lowest}
use Rattle.rules.specs.Blocks.{records, record_count, blocks_for, joined}
use Rattle.rules.specs.Patches.{reversed}
use Rattle.table.specs.declared.accepted.Patch.{Patch}
use Rattle.rules.specs.Calls.{over, writable, written_length, written_room, reverse_of}
use Rattle.rules.proofs.Numbers.{lowest_le}
use Rattle.rules.proofs.Image.Frame.{Frame, frame_of, frame_accepted, records_fit}
use Rattle.rules.proofs.Image.Parts.{Records, length-joined}
use Rattle.rules.proofs.Image.Written.{length-image_of}
use Rattle.rules.proofs.Patch.Reversed.{reversed_at, reversed_sized, reverse-count, reverse-length}
use Rattle.patch.specs.Parts.{is_put_in}
use Rattle.patch.proofs.Accepted.{as_many, first_in, formed, puts_from, takes_below}
use Rattle.patch.proofs.Writing.{count-joined, cut-joined}
use Rattle.reverse.specs.Turned.{Behind}
use Rattle.reverse.proofs.Growing.{part}

-- the number of the first record that a patch puts in, or the number of its records
abbrev pub first_put_in : List ℕ → ℕ
first_put_in patch = lowest (is_put_in (records patch)) (record_count patch)

pub first_inside : (patch : List ℕ) → first_put_in patch ≤ record_count patch
first_inside patch = lowest_le (is_put_in (records patch)) (record_count patch)

-- an accepted patch
module _ (patch : Patch) where
  abbrev image : List ℕ
  image = patch.image.now

  abbrev ps : List (List ℕ)
  ps = records image

  framed : Frame Form·Patch image
  framed = frame_of Form·Patch image (frame_accepted Form·Patch image patch.accepted)

  -- has at most 45 blocks
  pub patch_long : length image ≤ 23040
  patch_long = let f = framed in omega (arith, f.whole, f.not_too_many)

  -- with at most 675 records
  pub patch_few : record_count image ≤ 675
  patch_few = let f = framed in omega (arith, records_fit Form·Patch image f, f.not_too_many)

  -- what it puts in, to be taken out, and behind it what it takes out, to be put in, are its reverse
  pub reverse_parts : (first count : ℕ) → first ≡ first_put_in image → count ≡ record_count image → part ps 0 first count ++ part ps 1 0 first ≡ reversed ps
  reverse_parts first count start end =
      let many : count ≡ length ps = end ∙ sym (as_many image) in
      let found = first_in image first start in
      let inside : first ≤ length ps = omega (arith, first_inside image) in
      let rest : take (count - first) (drop first ps) ≡ drop first ps = take_all (count - first) (drop first ps) (rw length-drop (omega arith)) in
      let front : first - 0 ≡ first = omega arith in
      rw (rest, front) (sym (reversed_at ps first inside (takes_below patch first found) (puts_from patch first found)))

  -- where they are written, they lie inside a list that has room for 675 records
  pub reverse_inside : (written : ℕ) (flat later : List ℕ) → 21600 ≤ length flat → Behind (reversed ps) 0 written flat later → written ≤ length later
  reverse_inside written flat later room behind = omega (arith, behind.size, behind.same_length, reverse-count image patch.accepted, patch_few)

  -- the records of the reverse have 32 bytes each
  sized : Records (reversed ps)
  sized = reversed_sized ps (formed patch).sized

  -- and fill as many bytes, in whole blocks, as the patch has
  blocks_long : 512 * blocks_for (length (reversed ps)) ≡ length image
  blocks_long = sym (length-image_of Form·Patch (reversed ps) sized) ∙ reverse-length image patch.accepted

  -- a room that holds as many has room for their image
  module _ (room : List ℕ) (holds : length image ≤ length room) where
    reverse-writable : writable Form·Patch (joined (reversed ps)) room ≡ true
    unfolding writable
    reverse-writable =
        let rs = reversed ps in
        rw (
          eq-eqb (length (joined rs) % 32) 0 (omega (arith, length-joined 32 rs sized)),
          count-joined rs sized,
          le-leb (blocks_for (length rs)) 45 (omega (arith, blocks_long, patch_long)),
          le-leb (512 * blocks_for (length rs)) (length room) (omega (arith, blocks_long)),
        )

    -- which is written, as long as the patch
    pub reverse_image : (flat : List ℕ) → flat ≡ joined (reversed ps)
        → (written_length Form·Patch flat room ≡ length image) × (written_room Form·Patch flat room ≡ over (reverse_of image) room)
    reverse_image flat same =
        rw same (rw (reverse-writable, count-joined (reversed ps) sized) blocks_long, rw (reverse-writable, cut-joined (reversed ps) sized))
