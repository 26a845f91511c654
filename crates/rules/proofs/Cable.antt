-- One byte changed on the cable, or two neighbours changed over: every call refuses the image at that block.
use Prim.Native.Nat.{ℕ, ◌+◌, ◌*◌, ◌<◌}
use mathlib.Core.List.{List}
use mathlib.Core.Bool.{true, false}
use mathlib.Core.Path.{◌≡◌, ◌∙◌}
use lib.ListN.{length, get_or, set}
use Rattle.rules.specs.declared.Form.{Form}
use Rattle.rules.specs.declared.Form.TheVariants.{Table, Patch}
use Rattle.rules.specs.Numbers.{Bytes}
use Rattle.rules.specs.Blocks.{block_count, block_at, check_wrong}
use Rattle.rules.specs.Refusals.{accepted, refusal, numbered, frame_verdict, table_verdict, patch_verdict, image_verdict}
use Rattle.rules.specs.Calls.{map_verdict, map_after, bound_verdict, room_left_verdict, through_verdict, reason_verdict, patch_call_verdict, reverse_verdict}
use Rattle.rules.specs.Cable.{changed_over, Caught}
use Rattle.rules.proofs.Image.Frame.{frame_accepted, frame_of, length-block_at}
use Rattle.rules.proofs.Cable.Blocks.{OneBlockWrong, byte_wrong, neighbours_wrong, frame_refused}
pub mod Sums
pub mod Check
pub mod Blocks
pub mod Cancelled

-- a refusal of the frame with 2 at block b is what every call answers
frame_caught : (form : Form) (image : List ℕ) (b : ℕ) → frame_verdict form image ≡ refusal (numbered form 2) b → Caught form image b
unfolding table_verdict patch_verdict map_verdict map_after bound_verdict room_left_verdict through_verdict reason_verdict patch_call_verdict reverse_verdict
frame_caught Table image b h =
    record {
      verdict = rw h;
      map_call = λ rows. (rw h, rw h);
      bound_call =
          λ rows ids answer later call.
          let (answered, kept) = call.refused (rw h) in
          (answered ∙ rw h, kept);
      room_call = λ rows reserve room answer later call. (call.answered ∙ rw h, call.refused (rw h));
      through_call =
          λ rows id ids answer later call.
          let (answered, kept) = call.refused (rw h) in
          (answered ∙ rw h, kept);
      reason_call = λ low high. rw h;
      base = λ patch rows room new_rows. (rw h, rw h, rw h, rw h);
    }
frame_caught Patch image b h =
    record {
      verdict = rw h;
      patch_call = λ base rows room new_rows table. (rw (table, h), rw (table, h), rw (table, h), rw (table, h));
      reverse_call = λ room. (rw h, rw h);
    }

-- an accepted image of bytes, a table or a patch, and one of its blocks
module _ (form : Form) (image : List ℕ) (bytes : Bytes image) (right : accepted (image_verdict form image) ≡ true) (b : ℕ) (inside : b < block_count image) where
  frame_right : accepted (frame_verdict form image) ≡ true
  frame_right = frame_accepted form image right

  -- the block is 512 bytes long and has the right check
  long : length (block_at image b) ≡ 512
  long = length-block_at form image (frame_of form image frame_right) b inside

  check_right : check_wrong (block_at image b) ≡ false
  check_right = (frame_of form image frame_right).checks b inside

  -- an image that differs from it by a wrong check in that block is refused there
  wrong_caught : (later : List ℕ) → OneBlockWrong image later b → Caught form later b
  wrong_caught later one = frame_caught form later b (frame_refused form image later b frame_right inside one)

  -- theorem 1: one byte of the block, any of its 512, becomes another byte
  pub one_byte_caught : (k v : ℕ) → k < 512 → v < 256 → (v ≡ get_or image (512 * b + k) 0 → ⊥)
      → Caught form (set image (512 * b + k) v) b
  one_byte_caught k v place byte other =
      wrong_caught (set image (512 * b + k) v) (byte_wrong image b bytes long check_right k v place byte other)

  -- theorem 2: two neighbours with different values, among its first 510 bytes, change over with each other
  pub neighbours_caught : (k : ℕ) → k + 1 < 510 → (get_or image (512 * b + k) 0 ≡ get_or image (512 * b + k + 1) 0 → ⊥)
      → Caught form (changed_over image (512 * b + k)) b
  neighbours_caught k place other =
      wrong_caught (changed_over image (512 * b + k)) (neighbours_wrong image b bytes long check_right k place other)
