-- What writes into a list of bytes leave there.
use Prim.Native.Nat.{ℕ, suc, ◌+◌, ◌*◌, ◌-◌, ◌/◌, ◌%◌, ◌≤◌, ◌<◌, min}
use mathlib.Core.List.{List, [], ◌∷◌, ◌++◌, append-nil, append_assoc}
use mathlib.Core.Path.{◌≡◌, refl, sym, ap, ◌∙◌}
use native.Mathlib.Omega.{arith}
use borrow.Rule.Slice.PartMut.{put_mid}
use lib.ListN.{length, get_or, set, take, drop, replicate, length-append, length-drop, length-replicate, drop_of_length-le}
use lib.Seq.{sets, sets-eq, paste-suc, drop-length, get_or-take, take_at, drop_at, drop-drop}
use Rattle.rules.specs.declared.Form.{Form}
use Rattle.rules.specs.declared.Form.TheVariants.{Table, Patch}
use Rattle.rules.specs.Numbers.{up_to}
use Rattle.rules.specs.Blocks.{mark, check_of, with_check, joined, block_of}
use Rattle.rules.specs.Calls.{over, cut, blocks_of}
use Rattle.rules.proofs.Numbers.{length-up_to, up_to_ext, up_to_step}
use Rattle.rules.proofs.Image.Parts.{Records, sized_up_to, length-joined, joined-append, joined_parts, part_up_to}
use Rattle.rules.proofs.Image.Block.{check_front}
use Rattle.rules.proofs.Image.Written.{records_of, length_records_of, length-block_of}
use Rattle.std.specs.Int.{to_le_bytes}
use Rattle.std.proofs.Common.{w16}
use Rattle.image.proofs.Parts.{part_length}
use Rattle.image.specs.Write.{header_of, body_behind, body_bytes}

-- one more byte copied over the start of a list
pub copied_more : (s d : List ℕ) (k : ℕ) → k < length s → length s ≤ length d
    → set (take k s ++ drop k d) k (get_or s k 0) ≡ take (k + 1) s ++ drop (k + 1) d
copied_more s d k inside fits =
    let here : 0 + k ≡ k = omega arith in
    let next : 0 + suc k ≡ suc k = omega arith in
    let more : k + 1 ≡ suc k = omega arith in
    let step = paste-suc {A = ℕ} d 0 s k 0 (omega arith) inside in
    rw more (rw (here, next) at step)

-- values written over a whole list
pub over_all : (s d : List ℕ) → length s ≡ length d → over s d ≡ s
over_all s d e = rw (e, drop-length d, append-nil)

-- a part put behind the values that are written already
put-over : (done new l : List ℕ) (a k : ℕ) → length done ≡ a → length new ≡ k → put_mid a k (over done l) new ≡ over (done ++ new) l
put-over done new l a k e f =
    rw (
      take_at done (drop (length done) l) a e,
      drop_at done (drop (length done) l) a e,
      drop-drop k (length done) l,
      length-append done new,
      f,
      append_assoc done new (drop (length done + k) l),
    )

-- values stored one after another behind the values that are written already
pub stored_over : (done new l : List ℕ) (a : ℕ) → length done ≡ a → a + length new ≤ length l → sets (over done l) a new ≡ over (done ++ new) l
stored_over done new l a e h =
    let long : length (over done l) ≡ length l = simp (length-append, length-drop) (omega arith) in
    sets-eq new (over done l) a (omega arith)
    ∙ rw (
      take_at done (drop (length done) l) a e,
      ← drop-drop (length new) a (over done l),
      drop_at done (drop (length done) l) a e,
      drop-drop (length new) (length done) l,
      length-append done new,
    )

-- a mark is two bytes long
length-mark : (form : Form) → length (mark form) ≡ 2
length-mark Table = refl
length-mark Patch = refl

-- a header is eight bytes long
length_header : (form : Form) (total b count : ℕ) → length (header_of form total b count) ≡ 8
length_header form total b count = rw (length-append, length-mark)

-- the header's six bytes behind the mark
pub header_stored : (form : Form) (total b count : ℕ) (l : List ℕ) → 8 ≤ length l
    → sets (over (mark form) l) 2 (b ∷ total ∷ count ∷ 0 ∷ 0 ∷ 0 ∷ []) ≡ over (header_of form total b count) l
header_stored form total b count l h = stored_over (mark form) (b ∷ total ∷ count ∷ 0 ∷ 0 ∷ 0 ∷ []) l 2 (length-mark form) h

-- a block with this header and the records of these bytes
module _ (header flat : List ℕ) (eight : length header ≡ 8) (few : length flat ≤ 480) where
  -- its body is 510 bytes long
  pub length_body : length (body_behind header flat) ≡ 510
  length_body = rw (length-append header (flat ++ replicate (502 - length flat) 0), length-append, length-replicate) (omega arith)

  -- where its records end
  abbrev end : ℕ
  end = 8 + length flat

  -- header, records and zeros, written one after another, are its body
  pub body_written : (block headed copied zeros : List ℕ) → length block ≡ 512 → headed ≡ over header block → copied ≡ flat
      → zeros ≡ replicate (length (take (510 - end) (drop end (put_mid 8 (end - 8) headed copied)))) 0
      → put_mid end (510 - end) (put_mid 8 (end - 8) headed copied) zeros ≡ over (body_behind header flat) block
  body_written block headed copied zeros long start copy zero =
      let all : end - 8 ≡ length flat = omega arith in
      let rest : 510 - end ≡ 502 - length flat = omega arith in
      let first : put_mid 8 (end - 8) headed copied ≡ over (header ++ flat) block = rw (start, copy) (put-over header flat block 8 (end - 8) eight (sym all)) in
      let held : length (over (header ++ flat) block) ≡ 512 = simp (length-append, length-drop) (omega arith) in
      let fill : zeros ≡ replicate (502 - length flat) 0 = zero ∙ rw (first, part_length (over (header ++ flat) block) end (510 - end) (omega arith), rest) in
      rw (first, fill)
      (put-over (header ++ flat) (replicate (502 - length flat) 0) block end (510 - end) (rw (length-append, eight)) (rw (length-replicate, rest))
      ∙ rw (append_assoc header flat (replicate (502 - length flat) 0)))

  -- written over with that, and the check behind it, it is whole
  pub block_written : (block written checked : List ℕ) → written ≡ over (body_behind header flat) block → checked ≡ with_check (take 510 written)
      → checked ≡ with_check (body_behind header flat)
  block_written block written checked body check =
      check ∙ rw (body, take_at (body_behind header flat) (drop (length (body_behind header flat)) block) 510 length_body)

-- the check of a block written into its last two bytes
pub check_written : (block bytes : List ℕ) (check : ℕ) → length block ≡ 512 → check ≡ check_of block → check < 65521 → bytes ≡ to_le_bytes w16 check
    → put_mid 510 (length block - 510) block bytes ≡ with_check (take 510 block)
check_written block bytes check long right small written =
    let same : check_of (take 510 block) ≡ check = check_front (take 510 block) block (λ i l. get_or-take 510 block i 0 l) ∙ sym right in
    let high : check / 256 % 256 ≡ check / 256 = omega arith in
    let nothing : drop (length block - 510) (drop 510 block) ≡ [] = drop_of_length-le (drop 510 block) {i = length block - 510} (omega (arith, length-drop 510 block)) in
    rw (same, written, high, nothing)

-- and each of the two by itself
pub check_stored : (block bytes : List ℕ) (check : ℕ) → length block ≡ 512 → check ≡ check_of block → check < 65521 → bytes ≡ to_le_bytes w16 check
    → set (set block 510 (get_or bytes 0 0)) 511 (get_or bytes 1 0) ≡ with_check (take 510 block)
check_stored block bytes check long right small written =
    let same : check_of (take 510 block) ≡ check = check_front (take 510 block) block (λ i l. get_or-take 510 block i 0 l) ∙ sym right in
    let high : check / 256 % 256 ≡ check / 256 = omega arith in
    rw (written, same, high)
    (sets-eq (check % 256 ∷ check / 256 ∷ []) block 510 (omega arith)
    ∙ rw (drop_of_length-le block {i = 512} (omega arith), append-nil))

-- records that lie one after another are 32 bytes each
cut_sized : (flat : List ℕ) → Records (cut flat)
cut_sized flat = sized_up_to 32 (λ k. take 32 (drop (32 * k) flat)) (length flat / 32) (λ k l. part_length flat (32 * k) 32 (omega arith))

-- the records of block b, where all records lie one after another
module _ (flat : List ℕ) (b : ℕ) where
  -- how many they are
  abbrev size : ℕ
  size = min 15 (length flat / 32 - 15 * b)

  count_cut : length (records_of (cut flat) b) ≡ size
  count_cut = length_records_of (cut flat) b ∙ rw length-up_to

  -- joined, they are the bytes from the first of them to the last
  joined-cut : joined (records_of (cut flat) b) ≡ take (32 * size) (drop (480 * b) flat)
  joined-cut =
      ap joined (part_up_to (λ k. take 32 (drop (32 * k) flat)) 15 (15 * b) (length flat / 32)
      ∙ up_to_ext (λ k. take 32 (drop (32 * (15 * b + k)) flat)) (λ k. take 32 (drop (32 * k) (drop (480 * b) flat))) size
      (λ k l.
      let e : 32 * (15 * b + k) ≡ 480 * b + 32 * k = omega arith in
      rw (e, drop-drop (32 * k) (480 * b) flat)))
      ∙ joined_parts 32 (drop (480 * b) flat) size

-- so block b of the image is the block that is written with those bytes
pub block_cut : (form : Form) (flat : List ℕ) (b : ℕ) → length flat % 32 ≡ 0 → b < blocks_of flat
    → with_check (body_bytes form (blocks_of flat) b (take (min (480 * b + 480) (length flat) - 480 * b) (drop (480 * b) flat))) ≡ block_of form (cut flat) b
unfolding block_of
block_cut form flat b whole inside =
    let w = min (480 * b + 480) (length flat) - 480 * b in
    let n = min 15 (length flat / 32 - 15 * b) in
    let long : length (take w (drop (480 * b) flat)) ≡ w = part_length flat (480 * b) w (omega arith) in
    let few : w ≡ 32 * n = omega arith in
    let count : w / 32 ≡ n = omega arith in
    rw (
      long,
      count,
      length-up_to (λ k. take 32 (drop (32 * k) flat)) (length flat / 32),
      count_cut flat b,
      joined-cut flat b,
      few,
      append_assoc (mark form) (b ∷ blocks_of flat ∷ n ∷ 0 ∷ 0 ∷ 0 ∷ []) (take (32 * n) (drop (480 * b) flat) ++ replicate (502 - 32 * n) 0),
    )

-- the first b blocks are 512 bytes each
length_blocks : (form : Form) (flat : List ℕ) (b : ℕ) → length (joined (up_to (block_of form (cut flat)) b)) ≡ 512 * b
length_blocks form flat b =
    length-joined 512 (up_to (block_of form (cut flat)) b) (sized_up_to 512 (block_of form (cut flat)) b (λ k l. length-block_of form (cut flat) (cut_sized flat) k))
    ∙ rw length-up_to

-- one more block written behind the first b
pub blocks_more : (form : Form) (flat room : List ℕ) (b : ℕ)
    → put_mid (512 * b) (512 * b + 512 - 512 * b) (over (joined (up_to (block_of form (cut flat)) b)) room) (block_of form (cut flat) b)
    ≡ over (joined (up_to (block_of form (cut flat)) (b + 1))) room
blocks_more form flat room b =
    let block = block_of form (cut flat) in
    let size : 512 * b + 512 - 512 * b ≡ 512 = omega arith in
    put-over (joined (up_to block b)) (block b) room (512 * b) (512 * b + 512 - 512 * b) (length_blocks form flat b) (length-block_of form (cut flat) (cut_sized flat) b ∙ sym size)
    ∙ rw (up_to_step block b, joined-append (up_to block b) (block b ∷ []), append-nil)
