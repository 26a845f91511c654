-- A change inside one block leaves every other block as it was, so an image with a right frame is refused at that block.
use Prim.Native.Nat.{ℕ, ◌+◌, ◌*◌, ◌-◌, ◌<◌}
use mathlib.Core.List.{List}
use mathlib.Core.Bool.{true, false}
use mathlib.Core.Path.{◌≡◌, ap, sym, ◌∙◌}
use native.Mathlib.Nat.{add_assoc}
use native.Mathlib.Omega.{arith}
use borrow.Author.Tests.{ltb-true, ltb-false}
use lib.ListN.{length, get_or, set, drop, take, length-set}
use lib.Seq.{take-set-le, take-set-lt, drop-set-lt, drop-set-add}
use lib.Dec.{ltb}
use Rattle.rules.specs.declared.Form.{Form}
use Rattle.rules.specs.Numbers.{Bytes}
use Rattle.rules.specs.Blocks.{block_count, block_at, check_wrong, length_wrong}
use Rattle.rules.specs.Refusals.{accepted, fine, refusal, numbered, length_refusal, header_refusal, frame_verdict}
use Rattle.rules.specs.Cable.{changed_over}
use Rattle.rules.proofs.Numbers.{either, lowest-none, lowest_here}
use Rattle.rules.proofs.Bytes.{part_bytes}
use Rattle.rules.proofs.Refusals.{numbered-some, fine_if, refuse_at_found, or_else-refusal}
use Rattle.rules.proofs.Image.Frame.{length-accepted, frame_of, byte_of_block}
use Rattle.rules.proofs.Cable.Check.{byte_changed, neighbours_changed}

-- byte k of block b exchanged for v: the block has that store, and every other block is as it was
module _ (image : List ℕ) (b k v : ℕ) (inside : k < 512) where
  pub block_set : block_at (set image (512 * b + k) v) b ≡ set (block_at image b) k v
  block_set = rw (drop-set-add (512 * b) image k v, take-set-lt 512 (drop (512 * b) image) k v inside)

  pub block_other : (c : ℕ) → (c ≡ b → ⊥) → block_at (set image (512 * b + k) v) c ≡ block_at image c
  block_other c other =
      either (ltb b c)
      (λ t. ap (take 512) (drop-set-lt (512 * c) image (512 * b + k) v (omega (arith, ltb-true b c t))))
      (λ t.
      let before : c < b = omega (arith, ltb-false b c t, other) in
      let place : 512 * b + k ≡ 512 * c + (512 * (b - c) + k) = omega arith in
      rw (place, drop-set-add (512 * c) image (512 * (b - c) + k) v)
      (take-set-le 512 (drop (512 * c) image) (512 * (b - c) + k) v (omega arith)))

-- and so for bytes k and k + 1 of block b
module _ (image : List ℕ) (b k v w : ℕ) (inside : k + 1 < 512) where
  neighbours_set : block_at (set (set image (512 * b + k) v) (512 * b + k + 1) w) b ≡ set (set (block_at image b) k v) (k + 1) w
  neighbours_set =
      rw (
        add_assoc (512 * b) k 1,
        block_set (set image (512 * b + k) v) b (k + 1) w inside,
        block_set image b k v (omega arith),
      )

  neighbours_other : (c : ℕ) → (c ≡ b → ⊥) → block_at (set (set image (512 * b + k) v) (512 * b + k + 1) w) c ≡ block_at image c
  neighbours_other c other =
      rw (
        add_assoc (512 * b) k 1,
        block_other (set image (512 * b + k) v) b (k + 1) w inside c other,
        block_other image b k v (omega arith) c other,
      )

-- an image as long as this one, with the same blocks save block b, whose check is wrong
pub record OneBlockWrong (image later : List ℕ) (b : ℕ) : Type 0 where
  pub long : length later ≡ length image
  pub others : (c : ℕ) → (c ≡ b → ⊥) → block_at later c ≡ block_at image c
  pub wrong : check_wrong (block_at later b) ≡ true

-- an image of bytes with a block of 512 that has the right check
module _ (image : List ℕ) (b : ℕ) (bytes : Bytes image) (long : length (block_at image b) ≡ 512) (right : check_wrong (block_at image b) ≡ false) where
  -- one byte of that block became another
  pub byte_wrong : (k v : ℕ) → k < 512 → v < 256 → (v ≡ get_or image (512 * b + k) 0 → ⊥)
      → OneBlockWrong image (set image (512 * b + k) v) b
  byte_wrong k v inside byte other =
      record {
        long = length-set image (512 * b + k) v;
        others = block_other image b k v inside;
        wrong =
            rw (block_set image b k v inside)
            (byte_changed (block_at image b) long (part_bytes image (512 * b) 512 bytes) right k v inside byte
            (λ e. other (e ∙ byte_of_block image b k inside)));
      }

  -- two neighbours among its first 510 bytes changed over
  pub neighbours_wrong : (k : ℕ) → k + 1 < 510 → (get_or image (512 * b + k) 0 ≡ get_or image (512 * b + k + 1) 0 → ⊥)
      → OneBlockWrong image (changed_over image (512 * b + k)) b
  neighbours_wrong k front other =
      let i = 512 * b + k in
      let x = get_or image i 0 in
      let y = get_or image (i + 1) 0 in
      let second : k + 1 < 512 = omega arith in
      let low : get_or (block_at image b) k 0 ≡ x = byte_of_block image b k (omega arith) in
      let high : get_or (block_at image b) (k + 1) 0 ≡ y = byte_of_block image b (k + 1) second ∙ rw (add_assoc (512 * b) k 1) in
      record {
        long = length-set (set image i y) (i + 1) x ∙ length-set image i y;
        others = neighbours_other image b k y x second;
        wrong =
            rw (neighbours_set image b k y x second, ← low, ← high)
            (neighbours_changed (block_at image b) long (part_bytes image (512 * b) 512 bytes) right k front
            (λ e. other (sym low ∙ (e ∙ high))));
      }

-- an image with a right frame, of which one block is wrong now, is refused at that block
pub frame_refused : (form : Form) (image later : List ℕ) (b : ℕ) → accepted (frame_verdict form image) ≡ true → b < block_count image
    → OneBlockWrong image later b → frame_verdict form later ≡ refusal (numbered form 2) b
unfolding frame_verdict
frame_refused form image later b right inside one =
    let later_inside : b < block_count later = rw one.long inside in
    let length-fine : length_refusal form later ≡ fine = fine_if (numbered form 1) 0 (length_wrong form later) (rw one.long (length-accepted form image right)) in
    let before = lowest-none (λ c. check_wrong (block_at later c)) b (λ c l. rw (one.others c (λ e. omega arith)) ((frame_of form image right).checks c (omega arith))) in
    let first = lowest_here (λ c. check_wrong (block_at later c)) b (block_count later) before one.wrong later_inside in
    rw (length-fine, refuse_at_found (numbered form 2) (λ c. check_wrong (block_at later c)) (block_count later) b first later_inside)
    (or_else-refusal (numbered form 2) b (header_refusal form later) (numbered-some form 2 (omega arith)))
