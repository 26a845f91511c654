-- Blocks: an image is a row of blocks of 512 bytes.
use Rattle.std.specs.Prelude.{ℕ, ◌+◌, ◌*◌, ◌-◌, ◌/◌, ◌%◌, max, List, [], ◌∷◌, ◌++◌, Bool, cond, ◌&&◌, ◌||◌, not, length, get_or, take, drop, replicate, leb, ltb, eqb}
use Rattle.rules.specs.declared.Form.{Form}
use Rattle.rules.specs.declared.Form.TheVariants.{Table, Patch}
use Rattle.rules.specs.Numbers.{le2, up_to, sum_to, blank}

-- `TB` in a table, `PA` in a patch
abbrev pub mark : Form → List ℕ
mark Table = 84 ∷ 66 ∷ []
mark Patch = 80 ∷ 65 ∷ []

-- a table has at most 23 blocks, a patch at most 45
abbrev pub most_blocks : Form → ℕ
most_blocks Table = 23
most_blocks Patch = 45

abbrev pub block_count : List ℕ → ℕ
block_count image = length image / 512

abbrev pub block_at : List ℕ → ℕ → List ℕ
block_at image b = take 512 (drop (512 * b) image)

-- the sum of (i + 1) times byte i, for i from 0 to 509, modulo 65,521
unfoldable pub check_of : List ℕ → ℕ
check_of block = sum_to (λ i. (i + 1) * get_or block i 0) 510 % 65521

-- length 0, not a multiple of 512, or too many blocks by length
abbrev pub length_wrong : Form → List ℕ → Bool
length_wrong form image =
    eqb (length image) 0 || (not (eqb (length image % 512) 0) || ltb (most_blocks form) (block_count image))

abbrev pub check_wrong : List ℕ → Bool
check_wrong block = not (eqb (le2 block 510) (check_of block))

-- each block but the last has 15 records; the last has 1 to 15, save that an image with no records is one block with 0
abbrev pub count_right : ℕ → ℕ → ℕ → Bool
count_right total b count = cond (eqb (b + 1) total) (leb count 15 && (leb 1 count || eqb total 1)) (eqb count 15)

abbrev pub mark_wrong : Form → List ℕ → Bool
mark_wrong form block = not (eqb (get_or block 0 0) (get_or (mark form) 0 0)) || not (eqb (get_or block 1 0) (get_or (mark form) 1 0))

-- of block b of total: the mark, its number, the number of blocks, the count of records, or the zero fill is wrong
unfoldable pub header_wrong : Form → ℕ → ℕ → List ℕ → Bool
header_wrong form total b block =
    mark_wrong form block
    || (not (eqb (get_or block 2 0) b)
    || (not (eqb (get_or block 3 0) total)
    || (not (count_right total b (get_or block 4 0))
    || (not (blank block 5 3)
    || not (blank block (8 + 32 * get_or block 4 0) (502 - 32 * get_or block 4 0))))))

-- records are read one after another from the image, across blocks: where record k starts, and its 32 bytes
abbrev pub record_start : ℕ → ℕ
record_start k = 512 * (k / 15) + 8 + 32 * (k % 15)

abbrev pub record_at : List ℕ → ℕ → List ℕ
record_at image k = take 32 (drop (record_start k) image)

-- each block but the last holds 15, the last as many as it says
abbrev pub record_count : List ℕ → ℕ
record_count image = 15 * (block_count image - 1) + get_or image (512 * (block_count image - 1) + 4) 0

abbrev pub records : List ℕ → List (List ℕ)
records image = up_to (record_at image) (record_count image)

-- the other way round: the image of a list of records
abbrev pub blocks_for : ℕ → ℕ
blocks_for n = max 1 ((n + 14) / 15)

abbrev pub joined : List (List ℕ) → List ℕ
joined [] = []
joined (r ∷ rs) = r ++ joined rs

-- the first 510 bytes of a block that holds these records
abbrev pub body_of : Form → ℕ → ℕ → List (List ℕ) → List ℕ
body_of form total b rs =
    mark form ++ ((b ∷ total ∷ length rs ∷ 0 ∷ 0 ∷ 0 ∷ []) ++ (joined rs ++ replicate (502 - 32 * length rs) 0))

-- with the check behind them
abbrev pub with_check : List ℕ → List ℕ
with_check body = body ++ (check_of body % 256 ∷ check_of body / 256 ∷ [])

unfoldable pub block_of : Form → List (List ℕ) → ℕ → List ℕ
block_of form rs b = with_check (body_of form (blocks_for (length rs)) b (take 15 (drop (15 * b) rs)))

abbrev pub image_of : Form → List (List ℕ) → List ℕ
image_of form rs = joined (up_to (block_of form rs) (blocks_for (length rs)))
