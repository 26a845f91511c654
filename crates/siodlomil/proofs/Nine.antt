-- Where refusal 9 points: no other check has its number, so its place is a record of an accepted patch, which lies in the image.
use Prim.Native.Nat.{ℕ, ◌+◌, ◌≤◌, ◌<◌}
use mathlib.Core.List.{List, []}
use mathlib.Core.Bool.{Bool, true, false, ◌&&◌, not}
use mathlib.Core.Path.{◌≡◌, refl, ap, sym, ◌∙◌}
use native.Mathlib.Omega.{arith}
use borrow.Author.Tests.{eq-eqb, ne_eqb, ltb-true}
use lib.ListN.{length, get_or}
use lib.Dec.{eqb, ltb}
use Rattle.rules.specs.declared.Form.{Form}
use Rattle.rules.specs.declared.Form.TheVariants.{Table, Patch}
use Rattle.rules.specs.declared.Verdict.{Verdict}
use Rattle.rules.specs.Numbers.{lowest, some}
use Rattle.rules.specs.Blocks.{block_count, block_at, length_wrong, check_wrong, header_wrong, records, record_start}
use Rattle.rules.specs.Records.{form_wrong, range_wrong, too_many, reference_wrong, way_of, task_count}
use Rattle.rules.specs.Patches.{has}
use Rattle.rules.specs.Refusals.{accepted, refuse_if, refuse_at, or_else, numbered, order_wrong, length_refusal, check_refusal, header_refusal, form_refusal, order_refusal, range_refusal, count_refusal, reference_refusal, circles, first_circle, circle_refusal, link_refusal, frame_verdict, records_verdict, table_verdict, patch_verdict, absent_refusal}
use Rattle.rules.proofs.Numbers.{either, never}
use Rattle.rules.proofs.Image.Frame.{frame_accepted, frame_of, record_fits}
use Rattle.patch.proofs.Accepted.{as_many}
use Rattle.patch.proofs.Calling.{both_verdict}

-- a verdict that is no refusal 9
abbrev NotNine : Verdict → Type 0
NotNine v = eqb v.number 9 ≡ false

-- a test with another number, the same at each place, and one check after another
other_number : (n p : ℕ) (fault : Bool) → eqb n 9 ≡ false → NotNine (refuse_if n p fault)
other_number n p true h = h
other_number n p false h = refl

other_at : (n : ℕ) (fault : ℕ → Bool) (count : ℕ) → eqb n 9 ≡ false → NotNine (refuse_at n fault count)
other_at n fault count h = other_number n (lowest fault count) (some fault count) h

other_both : (v w : Verdict) → NotNine v → NotNine w → NotNine (or_else v w)
other_both v w p q = either (accepted v) (λ t. rw t q) (λ t. rw t p)

-- the numbers of both forms
other_form : (form : Form) (n : ℕ) → n < 9 → eqb (numbered form n) 9 ≡ false
other_form Table n h = ne_eqb n 9 (λ e. omega arith)
other_form Patch n h = ne_eqb (20 + n) 9 (λ e. omega arith)

-- the frame's checks, and those of the records
other_frame : (form : Form) (image : List ℕ) → NotNine (frame_verdict form image)
unfolding frame_verdict
other_frame form image =
    other_both (length_refusal form image) (or_else (check_refusal form image) (header_refusal form image))
    (other_number (numbered form 1) 0 (length_wrong form image) (other_form form 1 (omega arith)))
    (other_both (check_refusal form image) (header_refusal form image)
    (other_at (numbered form 2) (λ b. check_wrong (block_at image b)) (block_count image) (other_form form 2 (omega arith)))
    (other_at (numbered form 3) (λ b. header_wrong form (block_count image) b (block_at image b)) (block_count image) (other_form form 3 (omega arith))))

other_count : (form : Form) (rs : List (List ℕ)) → NotNine (count_refusal form rs)
other_count form rs =
    let seven = other_form form 7 (omega arith) in
    let many : (kind : ℕ) → NotNine (refuse_if (numbered form 7) kind (too_many rs kind)) = λ kind. other_number (numbered form 7) kind (too_many rs kind) seven in
    other_both (refuse_if (numbered form 7) 1 (too_many rs 1)) _ (many 1)
    (other_both (refuse_if (numbered form 7) 2 (too_many rs 2)) _ (many 2) (many 3))

other_records : (form : Form) (rs : List (List ℕ)) → NotNine (records_verdict form rs)
unfolding records_verdict
other_records form rs =
    other_both (form_refusal form rs) _ (other_at (numbered form 4) (λ k. form_wrong form (get_or rs k [])) (length rs) (other_form form 4 (omega arith)))
    (other_both (order_refusal form rs) _ (other_at (numbered form 5) (order_wrong rs) (length rs) (other_form form 5 (omega arith)))
    (other_both (range_refusal form rs) (count_refusal form rs) (other_at (numbered form 6) (λ k. range_wrong (get_or rs k [])) (length rs) (other_form form 6 (omega arith)))
    (other_count form rs)))

-- so no table and no patch by itself is refused with 9
other_table : (image : List ℕ) → NotNine (table_verdict image)
unfolding table_verdict
other_table image =
    other_both (frame_verdict Table image) _ (other_frame Table image)
    (other_both (records_verdict Table (records image)) (link_refusal (records image)) (other_records Table (records image))
    (other_both (reference_refusal (records image)) (circle_refusal (records image))
    (other_at 8 (λ k. reference_wrong (records image) (get_or (records image) k [])) (length (records image)) refl)
    (other_number 14 (first_circle (records image)) (some (circles (records image)) (task_count (records image))) refl)))

other_patch : (image : List ℕ) → NotNine (patch_verdict image)
unfolding patch_verdict
other_patch image =
    other_both (frame_verdict Patch image) (records_verdict Patch (records image)) (other_frame Patch image) (other_records Patch (records image))

-- of two checks the second gives 9, after the first is accepted
nine_second : (v w : Verdict) → NotNine v → (or_else v w).number ≡ 9 → (accepted v ≡ true) × (or_else v w ≡ w)
nine_second v w other h =
    either (accepted v)
    (λ t. (t, rw t))
    (λ t. never (eqb v.number 9) (eq-eqb v.number 9 (rw t at h)) other)

-- a refusal 9 at the lowest place with a fault has a place below the count
nine_place : (fault : ℕ → Bool) (count : ℕ) → (refuse_at 9 fault count).number ≡ 9 → (refuse_at 9 fault count).place < count
nine_place fault count h =
    either (ltb (lowest fault count) count)
    (λ t. rw t (ltb-true (lowest fault count) count t))
    (λ t. absurd (omega (arith, rw t at h)))

-- where the checks that need no outcome give 9, the record at its place lies in the patch image
pub nine_inside : (base patch : List ℕ) → (both_verdict base patch).number ≡ 9 → record_start (both_verdict base patch).place + 32 ≤ length patch
nine_inside base patch h =
    let absent = absent_refusal (records base) (records patch) in
    let table = nine_second (table_verdict base) (or_else (patch_verdict patch) absent) (other_table base) h in
    let later : (or_else (patch_verdict patch) absent).number ≡ 9 = ap (λ (v : Verdict). v.number) (sym table.1) ∙ h in
    let right = nine_second (patch_verdict patch) absent (other_patch patch) later in
    let same : both_verdict base patch ≡ absent = table.1 ∙ right.1 in
    let nine : absent.number ≡ 9 = ap (λ (v : Verdict). v.number) (sym same) ∙ h in
    let frame = frame_of Patch patch (frame_accepted Patch patch right.0) in
    let below : absent.place < length (records patch) = nine_place (λ k. eqb (way_of (get_or (records patch) k [])) 0 && not (has (records base) (get_or (records patch) k []))) (length (records patch)) nine in
    rw same (record_fits Patch patch frame absent.place (omega (arith, as_many patch)))
