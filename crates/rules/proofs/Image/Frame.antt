-- What an accepted frame says of an image: its length, the check, header, count and zero fill of each block, and where its records are.
use Prim.Native.Nat.{ℕ, ◌+◌, ◌*◌, ◌-◌, ◌/◌, ◌%◌, ◌≤◌, ◌<◌, min}
use mathlib.Core.List.{List}
use mathlib.Core.Bool.{true, false, ◌||◌, not}
use mathlib.Core.Path.{◌≡◌}
use native.Mathlib.Nat.{add_assoc}
use native.Mathlib.Omega.{arith}
use borrow.Author.Tests.{eqb-true, ne_eqb, ltb-true, ltb-false, le-ltb, leb-true, not-false}
use lib.ListN.{length, get_or, take, drop, length-take, length-drop}
use lib.Seq.{drop-drop}
use lib.Dec.{eqb, ltb, leb}
use Rattle.rules.specs.declared.Form.{Form}
use Rattle.rules.specs.declared.Form.TheVariants.{Table, Patch}
use Rattle.rules.specs.Numbers.{blank}
use Rattle.rules.specs.Blocks.{mark, most_blocks, block_count, block_at, length_wrong, check_wrong, count_right, mark_wrong, header_wrong, record_start, record_at, record_count, records, blocks_for}
use Rattle.rules.specs.Refusals.{accepted, fine, frame_verdict, length_refusal, check_refusal, header_refusal, or_else, numbered, records_verdict, link_refusal, table_verdict, patch_verdict, image_verdict}
use Rattle.rules.proofs.Numbers.{either}
use Rattle.rules.proofs.Blocks.{length_right}
use Rattle.rules.proofs.Image.Parts.{Records, sized_up_to, part_front}
use Rattle.rules.proofs.Bytes.{get_d_part, blank_zero, blank_true}
use Rattle.rules.proofs.Tests.{neither_first, neither_second, neither, both_first, both_second, not_fails, same_numbers, not_different}
use Rattle.rules.proofs.Refusals.{numbered-some, accepted_first, accepted_second, fine_both, no_fault, fine_if, no_fault_at, fine_at}

-- what a right header says of block b of total
pub record Header (form : Form) (total b : ℕ) (block : List ℕ) : Type 0 where
  pub first_mark : get_or block 0 0 ≡ get_or (mark form) 0 0
  pub second_mark : get_or block 1 0 ≡ get_or (mark form) 1 0
  pub number : get_or block 2 0 ≡ b
  pub blocks : get_or block 3 0 ≡ total
  pub count : count_right total b (get_or block 4 0) ≡ true
  pub gap : (k : ℕ) → k < 3 → get_or block (5 + k) 0 ≡ 0
  pub fill : (k : ℕ) → k < 502 - 32 * get_or block 4 0 → get_or block (8 + 32 * get_or block 4 0 + k) 0 ≡ 0

-- a header that is not found wrong says so
pub header_of : (form : Form) (total b : ℕ) (block : List ℕ) → header_wrong form total b block ≡ false
    → Header form total b block
unfolding header_wrong
header_of form total b block h =
    let no₂ = neither_second (mark_wrong form block) _ h in
    let no₃ = neither_second (not (eqb (get_or block 2 0) b)) _ no₂ in
    let no₄ = neither_second (not (eqb (get_or block 3 0) total)) _ no₃ in
    let no₅ = neither_second (not (count_right total b (get_or block 4 0))) _ no₄ in
    let marks = neither_first (mark_wrong form block) _ h in
    record {
      first_mark = same_numbers (get_or block 0 0) (get_or (mark form) 0 0) (neither_first _ (not (eqb (get_or block 1 0) (get_or (mark form) 1 0))) marks);
      second_mark = same_numbers (get_or block 1 0) (get_or (mark form) 1 0) (neither_second (not (eqb (get_or block 0 0) (get_or (mark form) 0 0))) _ marks);
      number = same_numbers (get_or block 2 0) b (neither_first _ _ no₂);
      blocks = same_numbers (get_or block 3 0) total (neither_first _ _ no₃);
      count = not-false (count_right total b (get_or block 4 0)) (neither_first _ _ no₄);
      gap = blank_zero block 5 3 (not-false (blank block 5 3) (neither_first _ _ no₅));
      fill =
          blank_zero block (8 + 32 * get_or block 4 0) (502 - 32 * get_or block 4 0)
          (not-false (blank block (8 + 32 * get_or block 4 0) (502 - 32 * get_or block 4 0)) (neither_second (not (blank block 5 3)) _ no₅));
    }

-- a header that says so is not found wrong
pub header_not_wrong : (form : Form) (total b : ℕ) (block : List ℕ) → Header form total b block
    → header_wrong form total b block ≡ false
unfolding header_wrong
header_not_wrong form total b block h =
    rw (
      not_different (get_or block 0 0) (get_or (mark form) 0 0) h.first_mark,
      not_different (get_or block 1 0) (get_or (mark form) 1 0) h.second_mark,
      not_different (get_or block 2 0) b h.number,
      not_different (get_or block 3 0) total h.blocks,
      not_fails (count_right total b (get_or block 4 0)) h.count,
      blank_true block 5 3 h.gap,
      blank_true block (8 + 32 * get_or block 4 0) (502 - 32 * get_or block 4 0) h.fill,
    )

-- a block has at most 15 records
pub count_most : (total b c : ℕ) → count_right total b c ≡ true → c ≤ 15
count_most total b c h =
    either (eqb (b + 1) total)
    (λ t. leb-true c 15 (both_first (leb c 15) (leb 1 c || eqb total 1) (rw t at h)))
    (λ t. omega (arith, eqb-true c 15 (rw t at h)))

-- a block before the last has all 15
pub count_full : (total b c : ℕ) → count_right total b c ≡ true → b + 1 < total → c ≡ 15
count_full total b c h l =
    eqb-true c 15 (rw (ne_eqb (b + 1) total (λ e. omega arith)) at h)

-- one of several blocks has at least one
pub count-some : (total b c : ℕ) → count_right total b c ≡ true → 1 < total → 1 ≤ c
count-some total b c h l =
    either (eqb (b + 1) total)
    (λ t.
    let one_or : (leb 1 c || eqb total 1) ≡ true = both_second (leb c 15) (leb 1 c || eqb total 1) (rw t at h) in
    either (leb 1 c) (leb-true 1 c) (λ s. absurd (omega (arith, eqb-true total 1 (rw s at one_or)))))
    (λ t. omega (arith, eqb-true c 15 (rw t at h)))

-- the frame of an image: a row of whole blocks, not too many, each with its check and its header
pub record Frame (form : Form) (image : List ℕ) : Type 0 where
  pub whole : length image ≡ 512 * block_count image
  pub some_block : 0 < block_count image
  pub not_too_many : block_count image ≤ most_blocks form
  pub checks : (b : ℕ) → b < block_count image → check_wrong (block_at image b) ≡ false
  pub headers : (b : ℕ) → b < block_count image → Header form (block_count image) b (block_at image b)

-- the length of an accepted image is right
pub length-accepted : (form : Form) (image : List ℕ) → accepted (frame_verdict form image) ≡ true → length_wrong form image ≡ false
unfolding frame_verdict
length-accepted form image h =
    no_fault (numbered form 1) 0 (length_wrong form image) (numbered-some form 1 (omega arith))
    (accepted_first (length_refusal form image) (or_else (check_refusal form image) (header_refusal form image)) h)

-- an accepted table or patch has an accepted frame
pub frame_accepted : (form : Form) (image : List ℕ) → accepted (image_verdict form image) ≡ true → accepted (frame_verdict form image) ≡ true
unfolding table_verdict patch_verdict
frame_accepted Table image h =
    accepted_first (frame_verdict Table image) (or_else (records_verdict Table (records image)) (link_refusal (records image))) h
frame_accepted Patch image h = accepted_first (frame_verdict Patch image) (records_verdict Patch (records image)) h

-- an accepted image has this frame
pub frame_of : (form : Form) (image : List ℕ) → accepted (frame_verdict form image) ≡ true → Frame form image
unfolding frame_verdict
frame_of form image h =
    let number : (n : ℕ) → 0 < n → 0 < numbered form n = numbered-some form in
    let rest = accepted_second (length_refusal form image) (or_else (check_refusal form image) (header_refusal form image)) h in
    let right = length_right form image (length-accepted form image h) in
    record {
      whole = right.whole;
      some_block = right.some_block;
      not_too_many = right.few;
      checks =
          no_fault_at (numbered form 2) (λ b. check_wrong (block_at image b)) (block_count image) (number 2 (omega arith))
          (accepted_first (check_refusal form image) (header_refusal form image) rest);
      headers =
          λ b l.
          header_of form (block_count image) b (block_at image b)
          (no_fault_at (numbered form 3) (λ j. header_wrong form (block_count image) j (block_at image j)) (block_count image) (number 3 (omega arith))
          (accepted_second (check_refusal form image) (header_refusal form image) rest) b l);
    }

-- an image with this frame is accepted
pub frame_fine : (form : Form) (image : List ℕ) → Frame form image → frame_verdict form image ≡ fine
unfolding frame_verdict
frame_fine form image f =
    fine_both (length_refusal form image) (or_else (check_refusal form image) (header_refusal form image))
    (fine_if (numbered form 1) 0 (length_wrong form image)
    (neither (eqb (length image) 0) _ (ne_eqb (length image) 0 (λ e. omega (arith, f.whole, f.some_block)))
    (neither (not (eqb (length image % 512) 0)) (ltb (most_blocks form) (block_count image))
    (not_different (length image % 512) 0 (omega (arith, f.whole)))
    (le-ltb (most_blocks form) (block_count image) f.not_too_many))))
    (fine_both (check_refusal form image) (header_refusal form image)
    (fine_at (numbered form 2) (λ b. check_wrong (block_at image b)) (block_count image) f.checks)
    (fine_at (numbered form 3) (λ b. header_wrong form (block_count image) b (block_at image b)) (block_count image)
    (λ b l. header_not_wrong form (block_count image) b (block_at image b) (f.headers b l))))

-- byte k of block b is a byte of the image
pub byte_of_block : (image : List ℕ) (b k : ℕ) → k < 512 → get_or (block_at image b) k 0 ≡ get_or image (512 * b + k) 0
byte_of_block image b k l = get_d_part image (512 * b) 512 k l

-- a record is read from the block that it is in
pub record_of_block : (image : List ℕ) (k : ℕ)
    → record_at image k ≡ take 32 (drop (8 + 32 * (k % 15)) (block_at image (k / 15)))
record_of_block image k =
    rw (
      part_front (8 + 32 * (k % 15)) 32 512 (drop (512 * (k / 15)) image) (omega arith),
      drop-drop (8 + 32 * (k % 15)) (512 * (k / 15)) image,
      add_assoc,
    )

-- what the frame says of the blocks and of the number of records
module _ (form : Form) (image : List ℕ) (f : Frame form image) where
  -- each block is 512 bytes long
  pub length-block_at : (b : ℕ) → b < block_count image → length (block_at image b) ≡ 512
  length-block_at b l = simp (length-take, length-drop) (omega (arith, f.whole))

  -- the count that the last block has
  last : ℕ
  last = get_or image (512 * (block_count image - 1) + 4) 0

  last_right : count_right (block_count image) (block_count image - 1) last ≡ true
  unfolding last
  last_right =
      rw (← byte_of_block image (block_count image - 1) 4 (omega arith))
      (f.headers (block_count image - 1) (omega (arith, f.some_block))).count

  -- the records fit the blocks
  pub records_fit : record_count image ≤ 15 * block_count image
  unfolding last
  records_fit = omega (arith, count_most (block_count image) (block_count image - 1) last last_right, f.some_block)

  -- and need them all
  pub blocks_needed : blocks_for (record_count image) ≡ block_count image
  unfolding last
  blocks_needed =
      let most = count_most (block_count image) (block_count image - 1) last last_right in
      either (ltb 1 (block_count image))
      (λ t.
      let many = ltb-true 1 (block_count image) t in
      omega (arith, count-some (block_count image) (block_count image - 1) last last_right many))
      (λ t. omega (arith, ltb-false 1 (block_count image) t, f.some_block))

  -- block b has the count that falls to it
  pub count_of_block : (b : ℕ) → b < block_count image → get_or (block_at image b) 4 0 ≡ min 15 (record_count image - 15 * b)
  unfolding last
  count_of_block b l =
      let most = count_most (block_count image) (block_count image - 1) last last_right in
      either (ltb (b + 1) (block_count image))
      (λ t.
      let before = ltb-true (b + 1) (block_count image) t in
      omega (arith, count_full (block_count image) b (get_or (block_at image b) 4 0) (f.headers b l).count before))
      (λ t.
      let e : b ≡ block_count image - 1 = omega (arith, ltb-false (b + 1) (block_count image) t) in
      rw (e, byte_of_block image (block_count image - 1) 4 (omega arith)) (omega arith))

  -- each record lies in the image
  pub record_fits : (k : ℕ) → k < record_count image → record_start k + 32 ≤ length image
  record_fits k l = omega (arith, records_fit, f.whole)

  -- and is 32 bytes long
  pub records_sized : Records (records image)
  records_sized =
      sized_up_to 32 (record_at image) (record_count image)
      (λ k l. simp (length-take, length-drop) (omega (arith, record_fits k l)))
