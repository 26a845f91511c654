-- An accepted image is the image of its records: no second spelling.
use Prim.Native.Nat.{ℕ, ◌+◌, ◌*◌, ◌-◌, ◌/◌, ◌%◌, ◌≤◌, ◌<◌}
use mathlib.Core.List.{List, [], ◌∷◌}
use mathlib.Core.Bool.{true, false}
use mathlib.Core.Path.{◌≡◌, ap, sym, ◌∙◌}
use native.Mathlib.Omega.{arith}
use lib.ListN.{length, get_or, take, drop, replicate, take-append-drop, drop_of_length-le}
use lib.Seq.{take_all, get_or-take, drop-drop, drop-cons}
use Rattle.rules.specs.declared.Form.{Form}
use Rattle.rules.specs.Numbers.{Bytes, le2, up_to}
use Rattle.rules.specs.Blocks.{block_count, block_at, check_of, check_wrong, record_at, record_count, records, blocks_for, joined, body_of, with_check, block_of, image_of}
use Rattle.rules.specs.Refusals.{accepted, frame_verdict}
use Rattle.rules.proofs.Numbers.{length-up_to, up_to_ext}
use Rattle.rules.proofs.Image.Parts.{joined_parts, front_bytes, zero_part, part_up_to, three_parts}
use Rattle.rules.proofs.Tests.{same_numbers}
use Rattle.rules.proofs.Image.Frame.{Header, count_most, Frame, frame_of, byte_of_block, record_of_block, length-block_at, blocks_needed, count_of_block}
use Rattle.rules.proofs.Image.Block.{check_front, header_bytes, body_parts}
use Rattle.rules.proofs.Image.Written.{records_of}

-- the last two bytes of a block
last_two : (block : List ℕ) → length block ≡ 512 → drop 510 block ≡ get_or block 510 0 ∷ get_or block 511 0 ∷ []
last_two block long =
    rw (drop-cons block 510 0 (omega arith), drop-cons block 511 0 (omega arith), drop_of_length-le block {i = 512} (omega arith))

-- a block with the right check is its first 510 bytes with their check behind them
pub check_again : (block : List ℕ) → length block ≡ 512 → get_or block 510 0 < 256 → get_or block 511 0 < 256
    → check_wrong block ≡ false → with_check (take 510 block) ≡ block
check_again block long low high right =
    let same : check_of (take 510 block) ≡ check_of block = check_front (take 510 block) block (λ i l. get_or-take 510 block i 0 l) in
    let sum = same_numbers (le2 block 510) (check_of block) right in
    let first : check_of block % 256 ≡ get_or block 510 0 = omega arith in
    let second : check_of block / 256 ≡ get_or block 511 0 = omega arith in
    rw (same, first, second, ← last_two block long) (take-append-drop 510 block)

-- the records that a block says that it has
abbrev pub block_records : List ℕ → List (List ℕ)
block_records block = up_to (λ k. take 32 (drop (8 + 32 * k) block)) (get_or block 4 0)

-- a block with the right header is the block of its records
module _ (form : Form) (total b : ℕ) (block : List ℕ) (long : length block ≡ 512) (header : Header form total b block) where
  -- it has at most 15 records
  few : get_or block 4 0 ≤ 15
  few = count_most total b (get_or block 4 0) header.count

  -- its first eight bytes are the header that is written
  header_again : take 8 block ≡ header_bytes form total b (get_or block 4 0)
  unfolding up_to
  header_again =
      front_bytes block 8 (omega arith)
      ∙ rw (
        header.first_mark,
        header.second_mark,
        header.number,
        header.blocks,
        header.gap 0 (omega arith),
        header.gap 1 (omega arith),
        header.gap 2 (omega arith),
      )

  -- its records, joined, follow the header
  records_again : joined (block_records block) ≡ take (32 * get_or block 4 0) (drop 8 block)
  records_again =
      ap joined (up_to_ext (λ k. take 32 (drop (8 + 32 * k) block)) (λ k. take 32 (drop (32 * k) (drop 8 block))) (get_or block 4 0)
      (λ k l. rw (drop-drop (32 * k) 8 block)))
      ∙ joined_parts 32 (drop 8 block) (get_or block 4 0)

  -- what follows the records is zero
  fill_again : take (502 - 32 * get_or block 4 0) (drop (8 + 32 * get_or block 4 0) block) ≡ replicate (502 - 32 * get_or block 4 0) 0
  fill_again =
      zero_part block (8 + 32 * get_or block 4 0) (502 - 32 * get_or block 4 0) (omega (arith, few)) header.fill

  -- together they are the first 510 bytes
  body_again : body_of form total b (block_records block) ≡ take 510 block
  body_again =
      let c = get_or block 4 0 in
      let all : 8 + (32 * c + (502 - 32 * c)) ≡ 510 = omega (arith, few) in
      rw (
        body_parts form total b (block_records block),
        length-up_to (λ k. take 32 (drop (8 + 32 * k) block)) c,
        records_again,
        ← all,
        three_parts 8 (32 * c) (502 - 32 * c) block,
        header_again,
        fill_again,
      )

-- an image with a frame is the image of its records
module _ (form : Form) (image : List ℕ) (bytes : Bytes image) (f : Frame form image) where
  -- as many blocks are written as there are
  blocks_again : blocks_for (length (records image)) ≡ block_count image
  blocks_again = rw length-up_to (blocks_needed form image f)

  -- block b is written with the records that it has
  records_of_again : (b : ℕ) → b < block_count image → records_of (records image) b ≡ block_records (block_at image b)
  records_of_again b l =
      part_up_to (record_at image) 15 (15 * b) (record_count image)
      ∙ rw (← count_of_block form image f b l)
      (up_to_ext (λ k. record_at image (15 * b + k)) (λ k. take 32 (drop (8 + 32 * k) (block_at image b))) (get_or (block_at image b) 4 0)
      (λ k m.
      let small = count_most (block_count image) b (get_or (block_at image b) 4 0) (f.headers b l).count in
      let block : (15 * b + k) / 15 ≡ b = omega arith in
      let place : (15 * b + k) % 15 ≡ k = omega arith in
      rw (record_of_block image (15 * b + k), block, place)))

  -- so each block is written as it is
  block_again : (b : ℕ) → b < block_count image → block_of form (records image) b ≡ block_at image b
  unfolding block_of
  block_again b l =
      let long = length-block_at form image f b l in
      rw (
        blocks_again,
        records_of_again b l,
        body_again form (block_count image) b (block_at image b) long (f.headers b l),
      )
      (check_again (block_at image b) long
      (rw (byte_of_block image b 510 (omega arith)) (bytes (512 * b + 510)))
      (rw (byte_of_block image b 511 (omega arith)) (bytes (512 * b + 511)))
      (f.checks b l))

  -- and so is the image
  pub image_again : image_of form (records image) ≡ image
  image_again =
      rw (blocks_again, up_to_ext (block_of form (records image)) (block_at image) (block_count image) block_again)
      (joined_parts 512 image (block_count image) ∙ take_all (512 * block_count image) image (omega (arith, f.whole)))

-- an accepted image is the image of its records
pub image_of-records : (form : Form) (image : List ℕ) → Bytes image → accepted (frame_verdict form image) ≡ true
    → image_of form (records image) ≡ image
image_of-records form image bytes h = image_again form image bytes (frame_of form image h)

-- so an accepted image with these records is their image: there is no second spelling
pub only_image : (form : Form) (image : List ℕ) (rs : List (List ℕ)) → Bytes image
    → accepted (frame_verdict form image) ≡ true → records image ≡ rs → image ≡ image_of form rs
only_image form image rs bytes h e = rw (← e) (sym (image_of-records form image bytes h))
