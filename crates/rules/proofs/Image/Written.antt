-- Laws of the image of a list of records: its length, its blocks, its records, and its frame.
use Prim.Native.Nat.{ℕ, ◌+◌, ◌*◌, ◌-◌, ◌/◌, ◌%◌, ◌≤◌, ◌<◌, min}
use mathlib.Core.List.{List, []}
use mathlib.Core.Bool.{true, false}
use mathlib.Core.Path.{◌≡◌, ◌∙◌}
use native.Mathlib.Omega.{arith}
use borrow.Author.Tests.{eqb-true, eqb-false, eq-eqb, leb-false, le-leb}
use lib.ListN.{length, get_or, take, drop, length-take, length-drop}
use lib.Seq.{get_or-take, get_or-drop, ext_get_or}
use lib.Dec.{eqb, leb}
use Rattle.rules.specs.declared.Form.{Form}
use Rattle.rules.specs.Numbers.{up_to}
use Rattle.rules.specs.Blocks.{most_blocks, block_count, block_at, check_wrong, count_right, record_at, record_count, records, blocks_for, body_of, block_of, image_of}
use Rattle.rules.specs.Refusals.{fine, frame_verdict}
use Rattle.rules.proofs.Numbers.{either, length-up_to, get_or-up_to}
use Rattle.rules.proofs.Image.Parts.{Records, sized_part, sized_up_to, length-joined, part_joined}
use Rattle.rules.proofs.Image.Frame.{Header, frame_fine, byte_of_block, record_of_block}
use Rattle.rules.proofs.Image.Block.{length-with_check, with_check_right, length-body_of, block_record, block_header, count_byte}

-- the count of records that falls to block b of the blocks for n records is right
pub count_right_lem : (n b : ℕ) → b < blocks_for n → count_right (blocks_for n) b (min 15 (n - 15 * b)) ≡ true
count_right_lem n b l =
    either (eqb (b + 1) (blocks_for n))
    (λ t.
    let last = eqb-true (b + 1) (blocks_for n) t in
    rw (t, le-leb (min 15 (n - 15 * b)) 15 (omega arith))
    (either (leb 1 (min 15 (n - 15 * b)))
    (λ s. rw s)
    (λ s. rw s (eq-eqb (blocks_for n) 1 (omega (arith, leb-false 1 (min 15 (n - 15 * b)) s))))))
    (λ t.
    rw t (eq-eqb (min 15 (n - 15 * b)) 15 (omega (arith, eqb-false (b + 1) (blocks_for n) t))))

-- the records of block b
abbrev pub records_of : List (List ℕ) → ℕ → List (List ℕ)
records_of rs b = take 15 (drop (15 * b) rs)

-- how many they are
pub length_records_of : (rs : List (List ℕ)) (b : ℕ) → length (records_of rs b) ≡ min 15 (length rs - 15 * b)
length_records_of rs b = rw (length-take, length-drop)

-- the image of these records
module _ (form : Form) (rs : List (List ℕ)) (sized : Records rs) where
  -- at most 15 of them are in one block
  few : (b : ℕ) → length (records_of rs b) ≤ 15
  few b = rw length_records_of (omega arith)

  -- each block is 512 bytes long
  pub length-block_of : (b : ℕ) → length (block_of form rs b) ≡ 512
  unfolding block_of
  length-block_of b =
      length-with_check (body_of form (blocks_for (length rs)) b (records_of rs b))
      (length-body_of form (blocks_for (length rs)) b (records_of rs b) (sized_part 32 15 (15 * b) rs sized) (few b))

  -- the image is as long as its blocks
  pub length-image_of : length (image_of form rs) ≡ 512 * blocks_for (length rs)
  length-image_of =
      rw (
        length-joined 512 (up_to (block_of form rs) (blocks_for (length rs)))
            (sized_up_to 512 (block_of form rs) (blocks_for (length rs)) (λ b l. length-block_of b)),
        length-up_to,
      )

  -- it has as many blocks as its records need
  pub block_count-image_of : block_count (image_of form rs) ≡ blocks_for (length rs)
  block_count-image_of = omega (arith, length-image_of)

  -- block b of the image is the block written there
  pub block_at-image_of : (b : ℕ) → b < blocks_for (length rs) → block_at (image_of form rs) b ≡ block_of form rs b
  block_at-image_of b l =
      part_joined 512 (up_to (block_of form rs) (blocks_for (length rs))) b
      (sized_up_to 512 (block_of form rs) (blocks_for (length rs)) (λ j m. length-block_of j)) (rw length-up_to l)
      ∙ get_or-up_to (block_of form rs) (blocks_for (length rs)) b [] l

  -- its check is right
  pub check_block_of : (b : ℕ) → check_wrong (block_of form rs b) ≡ false
  unfolding block_of
  check_block_of b =
      with_check_right (body_of form (blocks_for (length rs)) b (records_of rs b))
      (length-body_of form (blocks_for (length rs)) b (records_of rs b) (sized_part 32 15 (15 * b) rs sized) (few b))

  -- its header is right
  pub header_block_of : (b : ℕ) → b < blocks_for (length rs) → Header form (blocks_for (length rs)) b (block_of form rs b)
  unfolding block_of
  header_block_of b l =
      block_header form (blocks_for (length rs)) b (records_of rs b) (sized_part 32 15 (15 * b) rs sized) (few b) _
      (rw length_records_of (count_right_lem (length rs) b l))

  -- its count byte is the number of its records
  pub count-block_of : (b : ℕ) → get_or (block_of form rs b) 4 0 ≡ length (records_of rs b)
  unfolding block_of
  count-block_of b = count_byte form (blocks_for (length rs)) b (records_of rs b) _

  -- its records are the list's
  pub record_block_of : (b k : ℕ) → k < length (records_of rs b)
      → take 32 (drop (8 + 32 * k) (block_of form rs b)) ≡ get_or (records_of rs b) k []
  unfolding block_of
  record_block_of b =
      block_record form (blocks_for (length rs)) b (records_of rs b) (sized_part 32 15 (15 * b) rs sized) (few b) _

  -- record k of the image is record k of the list
  pub record_at-image_of : (k : ℕ) → k < length rs → record_at (image_of form rs) k ≡ get_or rs k []
  record_at-image_of k l =
      let there : k % 15 < length (records_of rs (k / 15)) = rw length_records_of (omega arith) in
      let place : 15 * (k / 15) + k % 15 ≡ k = omega arith in
      rw (
        record_of_block (image_of form rs) k,
        block_at-image_of (k / 15) (omega arith),
        record_block_of (k / 15) (k % 15) there,
        get_or-take 15 (drop (15 * (k / 15)) rs) (k % 15) [] (omega arith),
        get_or-drop,
        place,
      )

  -- the image has as many records as the list
  pub record_count-image_of : record_count (image_of form rs) ≡ length rs
  record_count-image_of =
      let b = blocks_for (length rs) - 1 in
      rw (
        block_count-image_of,
        ← byte_of_block (image_of form rs) b 4 (omega arith),
        block_at-image_of b (omega arith),
        count-block_of,
        length_records_of,
      ) (omega arith)

  -- the image of a list of records has those records
  pub records-image_of : records (image_of form rs) ≡ rs
  records-image_of =
      ext_get_or [] (records (image_of form rs)) rs (length-up_to (record_at (image_of form rs)) (record_count (image_of form rs)) ∙ record_count-image_of)
      (λ k l.
      let inside : k < record_count (image_of form rs) = rw length-up_to at l in
      get_or-up_to (record_at (image_of form rs)) (record_count (image_of form rs)) k [] inside
      ∙ record_at-image_of k (omega (arith, record_count-image_of)))

  -- and it is accepted, where it has not too many blocks
  pub frame_image_of : blocks_for (length rs) ≤ most_blocks form → frame_verdict form (image_of form rs) ≡ fine
  frame_image_of fits =
      frame_fine form (image_of form rs)
      (record {
        whole = rw (block_count-image_of, length-image_of);
        some_block = rw block_count-image_of (omega arith);
        not_too_many = rw block_count-image_of fits;
        checks =
            λ b l.
            let inside : b < blocks_for (length rs) = rw block_count-image_of at l in
            rw (block_at-image_of b inside) (check_block_of b);
        headers =
            λ b l.
            let inside : b < blocks_for (length rs) = rw block_count-image_of at l in
            rw (block_count-image_of, block_at-image_of b inside) (header_block_of b inside);
      })
