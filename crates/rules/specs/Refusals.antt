-- Refusal numbers: checks run in order, each over the whole image before the next, and the lowest place wins.
use Rattle.std.specs.Prelude.{ℕ, ◌+◌, ◌-◌, List, [], Bool, cond, ◌&&◌, not, length, get_or, leb, ltb, eqb}
use Rattle.rules.specs.declared.Form.{Form}
use Rattle.rules.specs.declared.Form.TheVariants.{Table, Patch}
use Rattle.rules.specs.declared.Verdict.{Verdict}
use Rattle.rules.specs.Numbers.{lowest, some}
use Rattle.rules.specs.Blocks.{block_count, block_at, length_wrong, check_wrong, header_wrong, records}
use Rattle.rules.specs.Records.{form_wrong, image_key, range_wrong, too_many, reference_wrong, way_of, task_count, task_at}
use Rattle.rules.specs.Preempt.{comes_before}
use Rattle.rules.specs.Patches.{has, outcome}

abbrev pub fine : Verdict
fine = record { number = 0; place = 0 }

abbrev pub accepted : Verdict → Bool
accepted v = eqb v.number 0

abbrev pub refusal : ℕ → ℕ → Verdict
refusal n p = record { number = n; place = p }

-- refusal n at place p where the test finds its fault
abbrev pub refuse_if : ℕ → ℕ → Bool → Verdict
refuse_if n p fault = cond fault (refusal n p) fine

-- refusal n at the lowest place below count with that fault
abbrev pub refuse_at : ℕ → (ℕ → Bool) → ℕ → Verdict
refuse_at n fault count = refuse_if n (lowest fault count) (some fault count)

-- one check after another
abbrev pub or_else : Verdict → Verdict → Verdict
or_else v w = cond (accepted v) w v

-- 1 to 7 for a table are 21 to 27 for a patch
abbrev pub numbered : Form → ℕ → ℕ
numbered Table n = n
numbered Patch n = 20 + n

-- 1: the length, place 0
abbrev pub length_refusal : Form → List ℕ → Verdict
length_refusal form image = refuse_if (numbered form 1) 0 (length_wrong form image)

-- 2: a check is wrong, place the block
abbrev pub check_refusal : Form → List ℕ → Verdict
check_refusal form image = refuse_at (numbered form 2) (λ b. check_wrong (block_at image b)) (block_count image)

-- 3: header, record count or zero fill of a block is wrong, place the block
abbrev pub header_refusal : Form → List ℕ → Verdict
header_refusal form image =
    refuse_at (numbered form 3) (λ b. header_wrong form (block_count image) b (block_at image b)) (block_count image)

-- 4: unknown kind or a byte said to be 0 isn't, place the record
abbrev pub form_refusal : Form → List (List ℕ) → Verdict
form_refusal form rs = refuse_at (numbered form 4) (λ k. form_wrong form (get_or rs k [])) (length rs)

-- 5: not after the record before it, in the image's order, place the record
abbrev pub order_wrong : List (List ℕ) → ℕ → Bool
order_wrong rs k = ltb 0 k && leb (image_key (get_or rs k [])) (image_key (get_or rs (k - 1) []))

abbrev pub order_refusal : Form → List (List ℕ) → Verdict
order_refusal form rs = refuse_at (numbered form 5) (order_wrong rs) (length rs)

-- 6: a field out of range, place the record
abbrev pub range_refusal : Form → List (List ℕ) → Verdict
range_refusal form rs = refuse_at (numbered form 6) (λ k. range_wrong (get_or rs k [])) (length rs)

-- 7: too many of a kind, place the kind
abbrev pub count_refusal : Form → List (List ℕ) → Verdict
count_refusal form rs =
    or_else (refuse_if (numbered form 7) 1 (too_many rs 1))
    (or_else (refuse_if (numbered form 7) 2 (too_many rs 2)) (refuse_if (numbered form 7) 3 (too_many rs 3)))

-- 8: transaction or task not listed, or O not below T, place the record; tables only
abbrev pub reference_refusal : List (List ℕ) → Verdict
reference_refusal rs = refuse_at 8 (λ k. reference_wrong rs (get_or rs k [])) (length rs)

-- the task at place i comes before itself
abbrev pub circles : List (List ℕ) → ℕ → Bool
circles rs i = comes_before rs (task_at rs i).id (task_at rs i).id

-- the lowest id of such a task
abbrev pub first_circle : List (List ℕ) → ℕ
first_circle rs = (task_at rs (lowest (circles rs) (task_count rs))).id

-- 14: a task comes before itself, place the lowest id of such a task; tables only
abbrev pub circle_refusal : List (List ℕ) → Verdict
circle_refusal rs = refuse_if 14 (first_circle rs) (some (circles rs) (task_count rs))

-- what a table's records say of each other: 8, then 14
abbrev pub link_refusal : List (List ℕ) → Verdict
link_refusal rs = or_else (reference_refusal rs) (circle_refusal rs)

-- 1 to 3, of the image's blocks
unfoldable pub frame_verdict : Form → List ℕ → Verdict
frame_verdict form image = or_else (length_refusal form image) (or_else (check_refusal form image) (header_refusal form image))

-- 4 to 7, of the image's records
unfoldable pub records_verdict : Form → List (List ℕ) → Verdict
records_verdict form rs =
    or_else (form_refusal form rs) (or_else (order_refusal form rs) (or_else (range_refusal form rs) (count_refusal form rs)))

-- 1 to 8 and 14, of a table
unfoldable pub table_verdict : List ℕ → Verdict
table_verdict image =
    or_else (frame_verdict Table image)
    (or_else (records_verdict Table (records image)) (link_refusal (records image)))

-- 21 to 27, of a patch
unfoldable pub patch_verdict : List ℕ → Verdict
patch_verdict image = or_else (frame_verdict Patch image) (records_verdict Patch (records image))

-- either of them, by the form
abbrev pub image_verdict : Form → List ℕ → Verdict
image_verdict Table image = table_verdict image
image_verdict Patch image = patch_verdict image

-- 9: a record to take out is not in the base, byte for byte, place the patch record
abbrev pub absent_refusal : List (List ℕ) → List (List ℕ) → Verdict
absent_refusal base patch =
    refuse_at 9 (λ k. eqb (way_of (get_or patch k [])) 0 && not (has base (get_or patch k []))) (length patch)

-- the outcome breaks order, 7, 8 or 14
abbrev pub broken : List (List ℕ) → Bool
broken rs =
    not (accepted (or_else (order_refusal Table rs) (or_else (count_refusal Table rs) (link_refusal rs))))

-- 10: the outcome is no table, place 0
abbrev pub outcome_refusal : List (List ℕ) → List (List ℕ) → Verdict
outcome_refusal base patch = refuse_if 10 0 (broken (outcome base patch))

-- 11: a lent map or room is too short, place 0
abbrev pub short_refusal : Bool → Verdict
short_refusal short = refuse_if 11 0 short

-- 15: a named task is not listed, place 0
abbrev pub unlisted_refusal : Bool → Verdict
unlisted_refusal unlisted = refuse_if 15 0 unlisted
