-- Request k): the outcome has what the reverse takes out, and the outcome of the reverse is the base, which is a table; so it is
-- accepted wherever map and rooms suffice, and true maps lead from one to the other.
use Prim.Native.Nat.{ℕ}
use mathlib.Core.List.{List, []}
use mathlib.Core.Bool.{true, ◌&&◌}
use mathlib.Core.Path.{◌≡◌, ap, sym, ◌∙◌}
use borrow.Author.Tests.{eq-eqb, eqb-true}
use lib.ListN.{length, get_or, take, drop}
use lib.Seq.{take_at}
use lib.Dec.{leb, eqb}
use Rattle.rules.specs.declared.Form.TheVariants.{Table}
use Rattle.rules.specs.Numbers.{Bytes}
use Rattle.rules.specs.Blocks.{records, image_of}
use Rattle.rules.specs.Records.{way_of, task_count}
use Rattle.rules.specs.Preempt.{decided, map_of}
use Rattle.rules.specs.Patches.{has, taken_out, put_in, outcome, reversed, patched_map}
use Rattle.rules.specs.Refusals.{accepted, fine, table_verdict, patch_verdict, absent_refusal}
use Rattle.rules.specs.Calls.{over, patch_call_verdict, reverse_of}
use Rattle.rules.specs.Runs.{Step, State, called, back, back_verdict, brought_back, TakesOff}
use Rattle.rules.proofs.Tests.{both_first, both_second}
use Rattle.rules.proofs.Refusals.{accepted_first}
use Rattle.rules.proofs.Maps.{map-length}
use Rattle.rules.proofs.Image.Parts.{Records}
use Rattle.rules.proofs.Image.Frame.{frame_accepted}
use Rattle.rules.proofs.Image.Written.{records-image_of}
use Rattle.rules.proofs.Image.Read.{image_of-records}
use Rattle.rules.proofs.Patch.Members.{has_place, has_at, has-taken_out, has-outcome}
use Rattle.rules.proofs.Patch.Valid.{Valid, valid_of, valid_keys_rise, table_of_valid, valid_image_of}
use Rattle.rules.proofs.Patch.WellFormed.{well_formed_of, well_formed_rises}
use Rattle.rules.proofs.Patch.Rising.{taken_out_rises}
use Rattle.rules.proofs.Patch.Reversed.{reversed_takes, reversed_puts, reverse-records, reverse-accepted}
use Rattle.rules.proofs.Patch.Restored.{outcome-back}
use Rattle.rules.proofs.Patch.Outcome.{outcome_sized}
use Rattle.rules.proofs.Patch.Exactly.{Suits, accepted-acceptable, accepted_suits, stands_absent}
use Rattle.rules.proofs.Patch.TrueMap.{patched_true}
use Rattle.rules.proofs.Patch.Run.{patched_state, over_again, called-accepted}

-- the records of a table, of a step's patch, and of their outcome
abbrev table_of : State → List (List ℕ)
table_of s = records s.image

abbrev patch_of : Step → List (List ℕ)
patch_of p = records p.patch

abbrev outcome_of : State → Step → List (List ℕ)
outcome_of s p = outcome (table_of s) (patch_of p)

-- a table with its map, and a patch that is accepted there
module _ (s : State) (p : Step) (taken : accepted (patch_call_verdict s.image p.patch s.rows p.room p.rows) ≡ true) where
  -- the table is valid, and the patch is well-formed
  table : accepted (table_verdict s.image) ≡ true
  unfolding patch_call_verdict
  table = accepted_first (table_verdict s.image) _ taken

  right : accepted (patch_verdict p.patch) ≡ true
  right =
      both_first (accepted (patch_verdict p.patch)) _ (sym (accepted-acceptable s.image s.rows p table) ∙ taken)

  suits : Suits s.image p.patch s.rows p.room p.rows
  suits = accepted_suits s.image p.patch s.rows p.room p.rows table right taken

  -- so is the outcome
  sized : Records (outcome_of s p)
  sized = outcome_sized s.image p.patch table right

  after : Valid (outcome_of s p)
  after = valid_image_of (outcome_of s p) sized suits.table

  -- which the call leaves
  left : called s p ≡ patched_state (table_of s) (patch_of p) s.rows p.rows
  left = called-accepted s p sized taken

  -- what the patch takes out stands in the base
  stood : (r : List ℕ) → has (taken_out (patch_of p)) r ≡ true → has (table_of s) r ≡ true
  stood r h =
      let member : (has (patch_of p) r && eqb (way_of r) 0) ≡ true = sym (has-taken_out (patch_of p) r) ∙ h in
      let (k, below, e) = has_place (patch_of p) r (both_first (has (patch_of p) r) (eqb (way_of r) 0) member) in
      let way = eqb-true (way_of r) 0 (both_second (has (patch_of p) r) (eqb (way_of r) 0) member) in
      let (n, there, e') = suits.stands k below (ap way_of e ∙ way) in
      rw (e' ∙ e) at (has_at (table_of s) n there)

  -- so the reverse leads back to the base
  pub restored : outcome (outcome_of s p) (reversed (patch_of p)) ≡ (table_of s)
  restored =
      let patched = well_formed_of p.patch right in
      outcome-back (table_of s) (patch_of p) (reversed (patch_of p)) (reversed_takes (patch_of p) patched.sized) (reversed_puts (patch_of p) patched.sized)
      (valid_keys_rise (table_of s) (valid_of s.image table)) (taken_out_rises (patch_of p) (well_formed_rises (patch_of p) patched)) stood
      (valid_keys_rise (outcome_of s p) after)

  -- also as it stands in the images
  returned : outcome (records (called s p).image) (records (reverse_of p.patch)) ≡ (table_of s)
  returned =
      ap (λ (t : State). outcome (records t.image) (records (reverse_of p.patch))) left
      ∙ rw (records-image_of Table (outcome_of s p) sized, reverse-records p.patch right) restored

  -- what the reverse takes out was put in, so it stands in the outcome
  stands : absent_refusal (outcome_of s p) (reversed (patch_of p)) ≡ fine
  stands =
      stands_absent (outcome_of s p) (reversed (patch_of p))
      (λ k l way.
      let r = get_or (reversed (patch_of p)) k [] in
      let put : has (put_in (patch_of p)) r ≡ true = ap (λ (rs : List (List ℕ)). has rs r) (sym (reversed_takes (patch_of p) (well_formed_of p.patch right).sized)) ∙ has-taken_out (reversed (patch_of p)) r ∙ rw (has_at (reversed (patch_of p)) k l, eq-eqb (way_of r) 0 way) in
      has_place (outcome_of s p) r (has-outcome (table_of s) (patch_of p) r ∙ rw put))

  -- both are of bytes
  module _ (bytes : Bytes s.image) (patch_bytes : Bytes p.patch) where
    -- the table's records make the table
    same : image_of Table (table_of s) ≡ s.image
    same = image_of-records Table s.image bytes (frame_accepted Table s.image table)

    -- the reverse is accepted exactly when the lent map and rooms suffice
    pub back-accepted : (lent room rows : List ℕ) → accepted (back_verdict s p lent room rows)
        ≡ (leb 64 (length lent) && (leb 64 (length rows) && leb (length s.image) (length room)))
    back-accepted lent room rows =
        ap (λ (t : State). accepted (patch_call_verdict t.image (reverse_of p.patch) lent room rows)) left
        ∙ accepted-acceptable (image_of Table (outcome_of s p)) lent (back p room rows) (ap accepted (table_of_valid (outcome_of s p) after))
        ∙ rw (
          reverse-accepted p.patch right patch_bytes,
          records-image_of Table (outcome_of s p) sized,
          reverse-records p.patch right,
          stands,
          restored,
          same,
          table,
        )

    -- what it leaves then, whatever map was lent
    back_left : (lent room rows : List ℕ) → accepted (back_verdict s p lent room rows) ≡ true
        → brought_back s p lent room rows
        ≡ patched_state (records (called s p).image) (records (reverse_of p.patch)) lent rows
    back_left lent room rows h =
        called-accepted (record { image = (called s p).image; rows = lent }) (back p room rows)
        (rw returned (valid_of s.image table).sized) h

    -- of the true map, the patch makes the outcome's, and the reverse makes the true map of that
    back-map : s.rows ≡ over (map_of (table_of s)) s.rows
        → patched_map (records (called s p).image) (records (reverse_of p.patch)) (called s p).rows ≡ map_of (table_of s)
    back-map true_map =
        ap (λ (t : State). patched_map (records t.image) (records (reverse_of p.patch)) t.rows) left
        ∙ rw (
          records-image_of Table (outcome_of s p) sized,
          reverse-records p.patch right,
          patched_true (table_of s) (patch_of p) s.rows (valid_of s.image table) after true_map,
        )
        (patched_true (outcome_of s p) (reversed (patch_of p)) (over (map_of (outcome_of s p)) p.rows) after (rw restored (valid_of s.image table)) (over_again (outcome_of s p) p.rows)
        ∙ ap map_of restored)

-- request k): whatever is accepted can be taken off again
pub takes_off : (s : State) (p : Step) → TakesOff s p
takes_off s p bytes patch_bytes taken =
    record {
      accepted-back = back-accepted s p taken bytes patch_bytes;
      image_back =
          λ lent room rows h.
          ap (λ (t : State). t.image) (back_left s p taken bytes patch_bytes lent room rows h)
          ∙ ap (image_of Table) (returned s p taken)
          ∙ same s p taken bytes patch_bytes;
      rows_back =
          λ room rows true_map h.
          let first : take 64 s.rows ≡ map_of (table_of s) = ap (take 64) true_map ∙ take_at (map_of (table_of s)) (drop (length (map_of (table_of s))) s.rows) 64 (map-length (task_count (table_of s)) (decided (table_of s))) in
          ap (λ (t : State). t.rows) (back_left s p taken bytes patch_bytes (called s p).rows room rows h)
          ∙ ap (λ (map : List ℕ). over map rows) (back-map s p taken bytes patch_bytes true_map ∙ sym first);
    }
