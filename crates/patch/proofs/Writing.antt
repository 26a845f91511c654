-- Records that lie one after another are cut into those records again, so what is written of them is their image.
use Prim.Native.Nat.{ℕ, ◌*◌, ◌/◌, ◌%◌, ◌≤◌, ◌<◌}
use mathlib.Core.List.{List, []}
use Rattle.std.specs.Prelude.{Option, Some, None, IfSome, unwrap_or}
use mathlib.Core.Bool.{false}
use mathlib.Core.Path.{◌≡◌, ap, sym, ◌∙◌}
use native.Mathlib.Omega.{arith}
use borrow.Author.Tests.{eq-eqb, le-leb, leb-true, leb-false}
use lib.ListN.{length, get_or, take, drop, length-append, length-drop}
use lib.Seq.{take_at}
use lib.Dec.{leb}
use Rattle.rules.specs.declared.Form.TheVariants.{Table}
use Rattle.rules.specs.Numbers.{up_to}
use Rattle.rules.specs.Blocks.{blocks_for, joined, image_of}
use Rattle.rules.specs.Calls.{cut, writable, written_length, written_room}
use Rattle.rules.specs.Refusals.{accepted, table_verdict}
use Rattle.rules.proofs.Numbers.{either, up_to_ext}
use Rattle.rules.proofs.Image.Parts.{Records, length-joined, part_joined}
use Rattle.rules.proofs.Image.Written.{length-image_of}
use Rattle.rules.proofs.Table.Kinds.{up_to_elements}
use Rattle.rules.proofs.Patch.Valid.{valid_few, valid_image_of}
use Rattle.patch.specs.Written.{ImageWritten}

-- records of 32 bytes, one after another
module _ (rs : List (List ℕ)) (sized : Records rs) where
  -- how many they are, by their bytes
  pub count-joined : length (joined rs) / 32 ≡ length rs
  count-joined = omega (arith, length-joined 32 rs sized)

  -- cut again, they are the records
  pub cut-joined : cut (joined rs) ≡ rs
  cut-joined =
      ap (up_to (λ k. take 32 (drop (32 * k) (joined rs)))) count-joined
      ∙ up_to_ext (λ k. take 32 (drop (32 * k) (joined rs))) (λ k. get_or rs k []) (length rs) (λ k l. part_joined 32 rs k sized l)
      ∙ up_to_elements [] rs

  -- as many blocks as a table may have are written, where the room holds them
  writable_where : (room : List ℕ) → 11776 ≤ length room → writable Table (joined rs) room ≡ leb (blocks_for (length rs)) 23
  unfolding writable
  writable_where room holds =
      rw (eq-eqb (length (joined rs) % 32) 0 (omega (arith, length-joined 32 rs sized)), count-joined)
      (either (leb (blocks_for (length rs)) 23)
      (λ t. rw (t, le-leb (512 * blocks_for (length rs)) (length room) (omega (arith, leb-true (blocks_for (length rs)) 23 t))))
      (λ t. rw t))

  -- an image with more blocks is no table
  crowded : leb (blocks_for (length rs)) 23 ≡ false → accepted (table_verdict (image_of Table rs)) ≡ false
  crowded many =
      either (accepted (table_verdict (image_of Table rs)))
      (λ t. absurd (omega (arith, leb-false (blocks_for (length rs)) 23 many, valid_few rs (valid_image_of rs sized t))))
      (λ t. t)

  -- what is written of them, and how many bytes
  pub image_written : (room : List ℕ) → 11776 ≤ length room → (written : Option ℕ) → unwrap_or written 0 ≡ written_length Table (joined rs) room
      → IfSome written (λ n. 0 < n) → ImageWritten rs written (written_room Table (joined rs) room)
  image_written room holds None told some =
      either (leb (blocks_for (length rs)) 23)
      (λ t. absurd (omega (arith, rw (writable_where room holds, t, count-joined) at told)))
      (λ t. crowded t)
  image_written room holds (Some n) told some =
      either (leb (blocks_for (length rs)) 23)
      (λ t.
      let few = leb-true (blocks_for (length rs)) 23 t in
      let long = length-image_of Table rs sized in
      let bytes : n ≡ 512 * blocks_for (length rs) = rw (writable_where room holds, t, count-joined) at told in
      rw (writable_where room holds ∙ t, cut-joined)
      (rw (length-append, length-drop) (omega arith), take_at (image_of Table rs) (drop (length (image_of Table rs)) room) n (long ∙ sym bytes)))
      (λ t. absurd (omega (arith, some, rw (writable_where room holds, t) at told)))
