-- What is judged by one check after another, and what a judged table gives.
use Prim.Native.Nat.{ℕ}
use mathlib.Core.List.{List}
use mathlib.Core.Bool.{true, false}
use mathlib.Core.Path.{◌≡◌, ◌∙◌}
use Rattle.rules.specs.declared.Form.TheVariants.{Table}
use Rattle.std.specs.Prelude.{Result, IsErrAnd}
use Rattle.std.proofs.lemmas.Result.{err_from_is_err_and}
use Rattle.rules.specs.declared.Verdict.{Verdict}
use Rattle.rules.specs.declared.Refusal.{Refusal}
use Rattle.rules.specs.Told.{judged, verdict_of}
use Rattle.rules.specs.Blocks.{records}
use Rattle.rules.specs.Refusals.{accepted, or_else, frame_verdict, records_verdict, reference_refusal, link_refusal, table_verdict}
use Rattle.rules.proofs.Refusals.{zero_accepted, accepted_first, accepted_parts, accepted-or_else, linked_references}
use Rattle.table.specs.Judged.{earlier_verdict, Judges}
use Rattle.table.specs.Precedence.{before_map}

-- a refusal that is handed on by `?` is told as it was
pub handed_on : {T : Type 0} {v : Verdict} (r : Result T Refusal) (e : Refusal) → IsErrAnd r (λ y. y ≡ e) → verdict_of e ≡ v → judged r ≡ v
handed_on r e is told =
    let p = err_from_is_err_and r is in
    rw (p.1, p.2) told

-- the first of two checks that refuses is the verdict of both, and where it does not the second is
pub judges_first : (v w e : Verdict) (rs : List (List ℕ)) (told : Verdict) (rows : List ℕ) → accepted v ≡ false → told ≡ v → Judges (or_else v w) (or_else v e) rs told rows rows
judges_first v w e rs told rows refuses same = record { verdict = same ∙ rw refuses; before = rw (refuses, refuses) }

pub judges_second : (v w e : Verdict) (rs : List (List ℕ)) (told : Verdict) (rows later : List ℕ) → accepted v ≡ true → Judges w e rs told rows later → Judges (or_else v w) (or_else v e) rs told rows later
judges_second v w e rs told rows later passes by = rw passes by

-- the earlier checks of an accepted table find nothing
earlier_accepted : (image : List ℕ) → accepted (table_verdict image) ≡ true → accepted (earlier_verdict image) ≡ true
unfolding table_verdict
earlier_accepted image h =
    let rs = records image in
    let (sound, linked) = accepted_parts image h in
    accepted-or_else (frame_verdict Table image) (or_else (records_verdict Table rs) (reference_refusal rs))
    ∙ rw (accepted_first (frame_verdict Table image) (or_else (records_verdict Table rs) (link_refusal rs)) h, sound) (linked_references rs linked)

-- so where a table is accepted, the rows are those of what comes before what; and where the number is 0 it is accepted
module _ (image : List ℕ) (told : Verdict) (rows later : List ℕ) (by : Judges (table_verdict image) (earlier_verdict image) (records image) told rows later) where
  pub judged_accepted : told.number ≡ 0 → accepted (table_verdict image) ≡ true
  judged_accepted none = zero_accepted told (table_verdict image) by.verdict none

  pub judged_before : accepted (table_verdict image) ≡ true → later ≡ before_map (records image)
  judged_before right = by.before ∙ rw (earlier_accepted image right)
