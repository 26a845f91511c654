-- Only a bound call with a limit that gives up answers 13: every check before it has a number of its own.
use Prim.Native.Nat.{ℕ, ◌<◌}
use mathlib.Core.List.{List, []}
use mathlib.Core.Bool.{Bool, true, false, ◌||◌}
use mathlib.Core.Path.{◌≡◌, sym, ◌∙◌, ap}
use native.Mathlib.Omega.{arith}
use borrow.Author.Tests.{ltb-true, ltb-false}
use lib.ListN.{length, get_or}
use lib.Dec.{ltb}
use Rattle.rules.specs.declared.Form.TheVariants.{Table}
use Rattle.rules.specs.declared.Verdict.{Verdict}
use Rattle.rules.specs.declared.BoundsWithin.{BoundsWithin}
use Rattle.rules.specs.Numbers.{lowest, some}
use Rattle.rules.specs.Blocks.{block_count, block_at, length_wrong, check_wrong, header_wrong, records}
use Rattle.rules.specs.Records.{form_wrong, range_wrong, too_many, reference_wrong, task_count}
use Rattle.rules.specs.Opening.{OpensInAll}
use Rattle.rules.specs.Refusals.{accepted, refuse_if, refuse_at, or_else, length_refusal, check_refusal, header_refusal, form_refusal, order_wrong, order_refusal, range_refusal, count_refusal, reference_refusal, circles, first_circle, circle_refusal, link_refusal, frame_verdict, records_verdict, table_verdict, short_refusal}
use Rattle.rules.specs.Calls.{bound_verdict, WithinCall}
use Rattle.rules.proofs.Numbers.{either}
use Rattle.rules.proofs.Opening.Calls.{goes_on}

-- the verdict has another number
abbrev Other : Verdict → Type 0
Other v = v.number ≡ 13 → ⊥

-- a test with another number has, one at each place has, and so have two checks, one after the other, where both have
if_other : (number place : ℕ) (fault : Bool) → (number ≡ 13 → ⊥) → Other (refuse_if number place fault)
if_other number place true differ = differ
if_other number place false differ = λ e. omega arith

at_other : (number : ℕ) (fault : ℕ → Bool) (count : ℕ) → (number ≡ 13 → ⊥) → Other (refuse_at number fault count)
at_other number fault count = if_other number (lowest fault count) (some fault count)

or_other : (v w : Verdict) → Other v → Other w → Other (or_else v w)
or_other v w first second = either (accepted v) (λ t. rw t second) (λ t. rw t first)

-- 1 to 3
frame_other : (image : List ℕ) → Other (frame_verdict Table image)
unfolding frame_verdict
frame_other image =
    or_other (length_refusal Table image) (or_else (check_refusal Table image) (header_refusal Table image))
    (if_other 1 0 (length_wrong Table image) (λ e. omega arith))
    (or_other (check_refusal Table image) (header_refusal Table image)
    (at_other 2 (λ b. check_wrong (block_at image b)) (block_count image) (λ e. omega arith))
    (at_other 3 (λ b. header_wrong Table (block_count image) b (block_at image b)) (block_count image) (λ e. omega arith)))

-- 7
count_other : (rs : List (List ℕ)) → Other (count_refusal Table rs)
count_other rs =
    or_other (refuse_if 7 1 (too_many rs 1)) (or_else (refuse_if 7 2 (too_many rs 2)) (refuse_if 7 3 (too_many rs 3)))
    (if_other 7 1 (too_many rs 1) (λ e. omega arith))
    (or_other (refuse_if 7 2 (too_many rs 2)) (refuse_if 7 3 (too_many rs 3))
    (if_other 7 2 (too_many rs 2) (λ e. omega arith)) (if_other 7 3 (too_many rs 3) (λ e. omega arith)))

-- 4 to 7
records_other : (rs : List (List ℕ)) → Other (records_verdict Table rs)
unfolding records_verdict
records_other rs =
    or_other (form_refusal Table rs) (or_else (order_refusal Table rs) (or_else (range_refusal Table rs) (count_refusal Table rs)))
    (at_other 4 (λ k. form_wrong Table (get_or rs k [])) (length rs) (λ e. omega arith))
    (or_other (order_refusal Table rs) (or_else (range_refusal Table rs) (count_refusal Table rs))
    (at_other 5 (order_wrong rs) (length rs) (λ e. omega arith))
    (or_other (range_refusal Table rs) (count_refusal Table rs)
    (at_other 6 (λ k. range_wrong (get_or rs k [])) (length rs) (λ e. omega arith)) (count_other rs)))

-- 8 and 14
link_other : (rs : List (List ℕ)) → Other (link_refusal rs)
link_other rs =
    or_other (reference_refusal rs) (circle_refusal rs)
    (at_other 8 (λ k. reference_wrong rs (get_or rs k [])) (length rs) (λ e. omega arith))
    (if_other 14 (first_circle rs) (some (circles rs) (task_count rs)) (λ e. omega arith))

-- a table's verdict
table_other : (image : List ℕ) → Other (table_verdict image)
unfolding table_verdict
table_other image =
    let rs : List (List ℕ) = records image in
    or_other (frame_verdict Table image) (or_else (records_verdict Table rs) (link_refusal rs)) (frame_other image)
    (or_other (records_verdict Table rs) (link_refusal rs) (records_other rs) (link_other rs))

-- and a bound call's, of which the last is 11
pub bound_other : (image rows ids : List ℕ) → (bound_verdict image rows ids).number ≡ 13 → ⊥
unfolding bound_verdict
bound_other image rows ids =
    let short : Bool = ltb (length rows) 64 || ltb (length ids) 64 in
    or_other (table_verdict image) (short_refusal short) (table_other image) (if_other 11 0 short (λ e. omega arith))

-- so where a call with a limit answers 13, the table and the rooms are fine, and more chains are opened than the limit allows
pub thirteen_by_the_limit : (image rows ids : List ℕ) (limit : ℕ) (answer : BoundsWithin) (later : List ℕ)
    → WithinCall image rows ids limit answer later → answer.number ≡ 13
    → (accepted (bound_verdict image rows ids) ≡ true) × (count : ℕ) × OpensInAll (records image) rows count × (limit < count)
thirteen_by_the_limit image rows ids limit answer later call thirteen = either (accepted v) worked refused
  where
    v : Verdict
    v = bound_verdict image rows ids

    Found : Type 0
    Found = (accepted v ≡ true) × (count : ℕ) × OpensInAll (records image) rows count × (limit < count)

    refused : accepted v ≡ false → Found
    refused t =
        absurd (bound_other image rows ids (sym (ap (λ (b : BoundsWithin). b.number) (call.refused t).0) ∙ thirteen))

    worked : accepted v ≡ true → Found
    worked t =
        let w = call.worked t in
        either (ltb limit w.count)
        (λ u. (t, w.count, w.counted, ltb-true limit w.count u))
        (λ u.
        let on = (goes_on image rows ids limit answer later call t w.count w.counted (ltb-false limit w.count u)).0 in
        absurd (omega arith))
