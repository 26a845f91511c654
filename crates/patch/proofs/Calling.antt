-- A patch call by its ways out: refused up to 9, a broken outcome, too short a map or room, and accepted; and that this leaves no choice.
use Prim.Native.Nat.{ℕ}
use mathlib.Core.List.{List, []}
use mathlib.Core.Bool.{Bool, true, false, cond, ◌||◌, not}
use mathlib.Core.Path.{◌≡◌, refl, ap, sym, ◌∙◌}
use native.Mathlib.Omega.{arith}
use borrow.Author.Tests.{ne_eqb, eqb-true}
use lib.ListN.{length}
use lib.Dec.{ltb, eqb}
use Rattle.rules.specs.declared.Form.TheVariants.{Table}
use Rattle.rules.specs.declared.Verdict.{Verdict}
use Rattle.rules.specs.declared.Patched.{Patched}
use Rattle.rules.specs.declared.Refusal.{Refusal}
use Rattle.rules.specs.Told.{verdict_of}
use Rattle.rules.proofs.Judged.{is_refused}
use Rattle.table.specs.Judged.{earlier_verdict, Judges}
use Rattle.table.specs.Precedence.{before_map}
use Rattle.table.proofs.Judging.{judged_accepted, judged_before}
use Rattle.rules.specs.Blocks.{records, record_at, image_of}
use Rattle.rules.specs.Patches.{outcome, touched_count, patched_map}
use Rattle.rules.specs.Refusals.{accepted, fine, refusal, or_else, table_verdict, patch_verdict, absent_refusal, broken, outcome_refusal, short_refusal}
use Rattle.rules.specs.Calls.{over, outcome_length, patch_call_verdict, patch_refusal, patch_accepted, PatchCall, offending, Offends}
use Rattle.rules.proofs.Numbers.{either}
use Rattle.rules.proofs.Refusals.{accepted_first, accepted_second}
use Rattle.rules.proofs.Image.Written.{length-image_of, records-image_of}
use Rattle.rules.proofs.Patch.Outcome.{outcome_sized, outcome-broken}
use Rattle.patch.specs.declared.change.Change.{Change}

-- the checks that need no outcome
abbrev pub both_verdict : List ℕ → List ℕ → Verdict
both_verdict base patch = or_else (table_verdict base) (or_else (patch_verdict patch) (absent_refusal (records base) (records patch)))

-- a lent map or room is too short
abbrev pub is_short : List ℕ → List ℕ → List ℕ → List ℕ → List ℕ → Bool
is_short base patch rows room new_rows =
    ltb (length rows) 64 || (ltb (length new_rows) 64 || ltb (length room) (outcome_length base patch))

-- two answers and two pairs of rooms afterwards that meet the promise are equal
pub patch_determined : (base patch rows room new_rows : List ℕ) (answer other : Patched) (image map image' map' : List ℕ)
    → PatchCall base patch rows room new_rows answer image map → PatchCall base patch rows room new_rows other image' map'
    → (answer ≡ other) × (image ≡ image') × (map ≡ map')
patch_determined base patch rows room new_rows answer other image map image' map' p q =
    (p.answered ∙ sym q.answered, p.written ∙ sym q.written, p.carried ∙ sym q.carried)

-- and so are two offending parts
pub offending_determined : (base patch part other : List ℕ) → Offends base patch part → Offends base patch other → part ≡ other
offending_determined base patch part other p q = p [] [] [] ∙ sym (q [] [] [])

-- one check after two others, put together the other way
three_checks : (u v w x : Verdict) → or_else (or_else u (or_else v w)) x ≡ or_else u (or_else v (or_else w x))
three_checks u v w x =
    either (accepted u)
    (λ t. rw t (either (accepted v) (λ s. rw s) (λ s. rw (s, s))))
    (λ t. rw (t, t))

-- each check that needs no outcome is passed where all are
module _ (base patch : List ℕ) (h : accepted (both_verdict base patch) ≡ true) where
  pub both_table : accepted (table_verdict base) ≡ true
  both_table = accepted_first (table_verdict base) (or_else (patch_verdict patch) (absent_refusal (records base) (records patch))) h

  later_two : accepted (or_else (patch_verdict patch) (absent_refusal (records base) (records patch))) ≡ true
  later_two = accepted_second (table_verdict base) (or_else (patch_verdict patch) (absent_refusal (records base) (records patch))) h

  pub both_patch : accepted (patch_verdict patch) ≡ true
  both_patch = accepted_first (patch_verdict patch) (absent_refusal (records base) (records patch)) later_two

  pub both_present : accepted (absent_refusal (records base) (records patch)) ≡ true
  both_present = accepted_second (patch_verdict patch) (absent_refusal (records base) (records patch)) later_two

module _ (base patch rows room new_rows : List ℕ) where
  -- the checks that need an outcome
  rest : Verdict
  rest = or_else (outcome_refusal (records base) (records patch)) (short_refusal (is_short base patch rows room new_rows))

  -- come after those that need none
  pub call_verdict : patch_call_verdict base patch rows room new_rows ≡ or_else (both_verdict base patch) (or_else (outcome_refusal (records base) (records patch)) (short_refusal (is_short base patch rows room new_rows)))
  unfolding patch_call_verdict rest
  call_verdict = sym (three_checks (table_verdict base) (patch_verdict patch) (absent_refusal (records base) (records patch)) rest)

  -- refused before an outcome is made
  pub call_refused : accepted (both_verdict base patch) ≡ false → patch_call_verdict base patch rows room new_rows ≡ both_verdict base patch
  call_refused h = call_verdict ∙ rw h

  -- the outcome is no table
  pub call_broken : accepted (both_verdict base patch) ≡ true → broken (outcome (records base) (records patch)) ≡ true
      → patch_call_verdict base patch rows room new_rows ≡ refusal 10 0
  call_broken h b = call_verdict ∙ rw (h, b)

  -- nor is its image
  pub call_image_refused : accepted (both_verdict base patch) ≡ true → accepted (table_verdict (image_of Table (outcome (records base) (records patch)))) ≡ false
      → patch_call_verdict base patch rows room new_rows ≡ refusal 10 0
  call_image_refused h r =
      call_broken h (outcome-broken base patch (both_table base patch h) (both_patch base patch h) ∙ ap not r)

  -- a map or room is too short
  pub call_short : accepted (both_verdict base patch) ≡ true → broken (outcome (records base) (records patch)) ≡ false
      → is_short base patch rows room new_rows ≡ true → patch_call_verdict base patch rows room new_rows ≡ refusal 11 0
  call_short h b s = call_verdict ∙ rw (h, b, s)

  -- nothing is wrong
  pub call_fine : accepted (both_verdict base patch) ≡ true → broken (outcome (records base) (records patch)) ≡ false
      → is_short base patch rows room new_rows ≡ false → patch_call_verdict base patch rows room new_rows ≡ fine
  call_fine h b s = call_verdict ∙ rw (h, b, s)

  -- a refusal: its number and place, and nothing written
  pub patch_refused : (v : Verdict) → patch_call_verdict base patch rows room new_rows ≡ v → accepted v ≡ false
      → PatchCall base patch rows room new_rows (patch_refusal v) room new_rows
  patch_refused v e h = record { answered = rw (e, h); written = rw (e, h); carried = rw (e, h) }

  -- an accepted call: the outcome's image and its map, each over the start of its room
  pub patch_accepted_lem : patch_call_verdict base patch rows room new_rows ≡ fine
      → PatchCall base patch rows room new_rows (patch_accepted (touched_count (records base) (records patch)) (outcome_length base patch))
      (over (image_of Table (outcome (records base) (records patch))) room) (over (patched_map (records base) (records patch) rows) new_rows)
  patch_accepted_lem e = record { answered = rw e; written = rw e; carried = rw e }

  -- only the checks that need no outcome give the number 9
  pub only_nine {ℓ} : {A : Type ℓ} (at_nine : Verdict → A) (other : A)
      → cond (eqb (patch_call_verdict base patch rows room new_rows).number 9) (at_nine (patch_call_verdict base patch rows room new_rows)) other
      ≡ cond (eqb (both_verdict base patch).number 9) (at_nine (both_verdict base patch)) other
  only_nine at_nine other =
      either (accepted (both_verdict base patch))
      (λ t.
      let zero = eqb-true (both_verdict base patch).number 0 t in
      rw (call_verdict, t, ne_eqb (both_verdict base patch).number 9 (λ e. omega arith))
      (either (broken (outcome (records base) (records patch)))
      (λ b. rw b)
      (λ b. rw b (either (is_short base patch rows room new_rows) (λ s. rw s) (λ s. rw s)))))
      (λ t. rw (call_refused t))

  -- so they decide the offending part
  pub offending_number : offending (patch_call_verdict base patch rows room new_rows) patch ≡ cond (eqb (both_verdict base patch).number 9) (record_at patch (both_verdict base patch).place) []
  offending_number = only_nine (λ v. record_at patch v.place) []

-- a patch that may be applied
module _ (change : Change) where
  abbrev base : List ℕ
  base = change.base.image.now

  abbrev patch : List ℕ
  patch = change.patch.image.now

  -- the outcome's records
  abbrev rs : List (List ℕ)
  rs = outcome (records base) (records patch)

  -- passes the checks that need no outcome
  pub both_fine : accepted (both_verdict base patch) ≡ true
  both_fine = rw (change.base.accepted, change.patch.accepted) change.present

  -- is refused where the image of its outcome is, as a table
  broken_as : broken rs ≡ not (accepted (table_verdict (image_of Table rs)))
  broken_as = outcome-broken base patch change.base.accepted change.patch.accepted

  module _ (rows room new_rows : List ℕ) where
    -- the image of the outcome is no table: 10, and nothing written
    pub change_broken : accepted (table_verdict (image_of Table rs)) ≡ false
        → PatchCall base patch rows room new_rows (patch_refusal (refusal 10 0)) room new_rows
    change_broken r =
        patch_refused base patch rows room new_rows (refusal 10 0) (call_image_refused base patch rows room new_rows both_fine r) refl

    -- the image is one
    module _ (right : accepted (table_verdict (image_of Table rs)) ≡ true) where
      -- a map or room is too short: 11, and nothing written
      pub change_short : is_short base patch rows room new_rows ≡ true
          → PatchCall base patch rows room new_rows (patch_refusal (refusal 11 0)) room new_rows
      change_short short =
          patch_refused base patch rows room new_rows (refusal 11 0) (call_short base patch rows room new_rows both_fine (broken_as ∙ ap not right) short) refl

  -- the image of the outcome
  module _ (image : List ℕ) (made : image ≡ image_of Table rs) where
    -- has its records
    pub image-records : records image ≡ rs
    image-records = ap records made ∙ records-image_of Table rs (outcome_sized base patch change.base.accepted change.patch.accepted)

    -- and its length
    pub image-length : length image ≡ outcome_length base patch
    image-length = ap length made ∙ length-image_of Table rs (outcome_sized base patch change.base.accepted change.patch.accepted)

    -- where it is a table, and no map or room is too short, it is written with its map
    pub change_applied : (rows room new_rows : List ℕ) → accepted (table_verdict image) ≡ true → is_short base patch rows room new_rows ≡ false
        → PatchCall base patch rows room new_rows (patch_accepted (touched_count (records base) (records patch)) (length image))
        (over image room) (over (patched_map (records base) (records patch) rows) new_rows)
    change_applied rows room new_rows right enough =
        let call = patch_accepted_lem base patch rows room new_rows (call_fine base patch rows room new_rows both_fine (broken_as ∙ ap not (rw made at right)) enough) in
        record {
          answered = ap (patch_accepted (touched_count (records base) (records patch))) image-length ∙ call.answered;
          written = ap (λ (values : List ℕ). over values room) made ∙ call.written;
          carried = call.carried;
        }

-- what an image is judged to be
module _ (image : List ℕ) (rows later : List ℕ) where
  -- a table, with what comes before what
  pub judged_table : Judges (table_verdict image) (earlier_verdict image) (records image) fine rows later → later ≡ before_map (records image)
  judged_table by = judged_before image fine rows later by (judged_accepted image fine rows later by refl)

  -- or none
  pub judged_none : (e : Refusal) → Judges (table_verdict image) (earlier_verdict image) (records image) (verdict_of e) rows later → accepted (table_verdict image) ≡ false
  judged_none e by = rw (← by.verdict) (is_refused e)

-- what decides how an outcome is judged, for the function that judges it
pub ruleset judgments = (judged_table, judged_none)

-- what decides the verdict of a patch call, for the functions that answer it
pub ruleset call_verdicts = (call_refused, change_broken, offending_number)
