-- A well-formed patch is accepted exactly when what it takes out stands in the base, the outcome is a table, and map and rooms suffice.
use Prim.Native.Nat.{ℕ, ◌≤◌, ◌<◌}
use mathlib.Core.List.{List, []}
use mathlib.Core.Bool.{Bool, true, ◌&&◌, ◌||◌, not, not-not}
use mathlib.Core.Path.{◌≡◌, ap, sym, ◌∙◌}
use native.Mathlib.Omega.{arith}
use borrow.Author.Tests.{eqb-true, eq-eqb, le-leb, leb-true, not-false}
use lib.ListN.{length, get_or}
use lib.Dec.{eqb, ltb, leb}
use Rattle.rules.specs.declared.Form.TheVariants.{Table}
use Rattle.rules.specs.declared.Verdict.{Verdict}
use Rattle.rules.specs.Blocks.{records, image_of}
use Rattle.rules.specs.Records.{way_of}
use Rattle.rules.specs.Patches.{has, outcome}
use Rattle.rules.specs.Refusals.{accepted, fine, or_else, table_verdict, patch_verdict, absent_refusal, broken, outcome_refusal, short_refusal}
use Rattle.rules.specs.Calls.{patch_call_verdict, outcome_length}
use Rattle.rules.specs.Runs.{Step, acceptable}
use Rattle.rules.proofs.Numbers.{either}
use Rattle.rules.proofs.Tests.{both_first, both_second, not_either, not_below}
use Rattle.rules.proofs.Refusals.{accepted-or_else, accepted_unless, no_fault_at, fine_at}
use Rattle.rules.proofs.Image.Written.{length-image_of}
use Rattle.rules.proofs.Patch.Members.{has_at, has_place}
use Rattle.rules.proofs.Patch.Outcome.{outcome_sized, outcome-broken}

-- what is asked of a patch besides that it is well-formed
pub record Suits (base patch rows image_room new_rows : List ℕ) : Type 0 where
  -- each record that it takes out stands in the base byte for byte
  pub stands : (k : ℕ) → k < length (records patch) → way_of (get_or (records patch) k []) ≡ 0
      → (n : ℕ) × (n < length (records base)) × (get_or (records base) n [] ≡ get_or (records patch) k [])
  -- the outcome is a valid table
  pub table : accepted (table_verdict (image_of Table (outcome (records base) (records patch)))) ≡ true
  -- the lent map and rooms suffice
  pub map : 64 ≤ length rows
  pub new_map : 64 ≤ length new_rows
  pub room : length (image_of Table (outcome (records base) (records patch))) ≤ length image_room

-- refusal 9 finds no fault exactly where each record that is taken out stands in the base
module _ (base patch : List (List ℕ)) where
  pub absent_stands : accepted (absent_refusal base patch) ≡ true → (k : ℕ) → k < length patch → way_of (get_or patch k []) ≡ 0
      → (n : ℕ) × (n < length base) × (get_or base n [] ≡ get_or patch k [])
  absent_stands h k l way =
      has_place base (get_or patch k [])
      (not-false (has base (get_or patch k []))
      (rw (eq-eqb (way_of (get_or patch k [])) 0 way) at
      (no_fault_at 9 (λ k. eqb (way_of (get_or patch k [])) 0 && not (has base (get_or patch k []))) (length patch) (omega arith) h k l)))

  pub stands_absent : ((k : ℕ) → k < length patch → way_of (get_or patch k []) ≡ 0 → (n : ℕ) × (n < length base) × (get_or base n [] ≡ get_or patch k []))
      → absent_refusal base patch ≡ fine
  stands_absent stands =
      fine_at 9 (λ k. eqb (way_of (get_or patch k [])) 0 && not (has base (get_or patch k []))) (length patch)
      (λ k l.
      either (eqb (way_of (get_or patch k [])) 0)
      (λ t.
      let (n, below, e) = stands k l (eqb-true (way_of (get_or patch k [])) 0 t) in
      let there : has base (get_or patch k []) ≡ true = rw e at (has_at base n below) in
      rw (t, there))
      (λ t. rw t))

-- a base that is accepted
module _ (base rows : List ℕ) (p : Step) (table : accepted (table_verdict base) ≡ true) where
  -- the lent map or a room is too short
  short : Bool
  short =
      ltb (length rows) 64 || (ltb (length p.rows) 64 || ltb (length p.room) (outcome_length base p.patch))

  -- a patch call is accepted where each of its checks is
  each_accepted : accepted (patch_call_verdict base p.patch rows p.room p.rows)
      ≡ (accepted (patch_verdict p.patch)
      && (accepted (absent_refusal (records base) (records p.patch))
      && (accepted (outcome_refusal (records base) (records p.patch)) && accepted (short_refusal short))))
  unfolding patch_call_verdict short
  each_accepted =
      let rs = records base in
      let ps = records p.patch in
      let last : Verdict = short_refusal short in
      accepted-or_else (table_verdict base) (or_else (patch_verdict p.patch) (or_else (absent_refusal rs ps) (or_else (outcome_refusal rs ps) last)))
      ∙ rw table
      (accepted-or_else (patch_verdict p.patch) (or_else (absent_refusal rs ps) (or_else (outcome_refusal rs ps) last))
      ∙ ap (λ (b : Bool). accepted (patch_verdict p.patch) && b)
      (accepted-or_else (absent_refusal rs ps) (or_else (outcome_refusal rs ps) last)
      ∙ ap (λ (b : Bool). accepted (absent_refusal rs ps) && b) (accepted-or_else (outcome_refusal rs ps) last)))

  -- where the patch is well-formed, refusal 10 asks for the outcome's image
  outcome_asked : accepted (patch_verdict p.patch) ≡ true
      → accepted (outcome_refusal (records base) (records p.patch))
      ≡ accepted (table_verdict (image_of Table (outcome (records base) (records p.patch))))
  outcome_asked right =
      let rs = outcome (records base) (records p.patch) in
      accepted_unless 10 0 (broken rs) (omega arith)
      ∙ ap not (outcome-broken base p.patch table right)
      ∙ not-not (accepted (table_verdict (image_of Table rs)))

  -- and refusal 11 for the length of the map and of the rooms
  length_asked : accepted (patch_verdict p.patch) ≡ true
      → accepted (short_refusal short)
      ≡ (leb 64 (length rows)
      && (leb 64 (length p.rows)
      && leb (length (image_of Table (outcome (records base) (records p.patch)))) (length p.room)))
  unfolding short
  length_asked right =
      rw (length-image_of Table (outcome (records base) (records p.patch)) (outcome_sized base p.patch table right))
      (accepted_unless 11 0 short (omega arith)
      ∙ not_either (ltb (length rows) 64) (ltb (length p.rows) 64 || ltb (length p.room) (outcome_length base p.patch))
      ∙ rw (
        not_either (ltb (length p.rows) 64) (ltb (length p.room) (outcome_length base p.patch)),
        not_below (length rows) 64,
        not_below (length p.rows) 64,
        not_below (length p.room) (outcome_length base p.patch),
      ))

  -- so a patch call is accepted exactly where the run takes the patch for acceptable
  pub accepted-acceptable : accepted (patch_call_verdict base p.patch rows p.room p.rows) ≡ acceptable (records base) rows p
  accepted-acceptable =
      each_accepted
      ∙ either (accepted (patch_verdict p.patch))
      (λ t. rw (t, outcome_asked t, length_asked t))
      (λ t. rw t)

-- a well-formed patch, on a base that is a table
module _ (base patch rows room new_rows : List ℕ) (table : accepted (table_verdict base) ≡ true) (right : accepted (patch_verdict patch) ≡ true) where
  -- the patch as one of a run
  step : Step
  step = record { patch = patch; room = room; rows = new_rows }

  -- it is accepted only if it suits
  pub accepted_suits : accepted (patch_call_verdict base patch rows room new_rows) ≡ true → Suits base patch rows room new_rows
  unfolding step
  accepted_suits h =
      let rs = records base in
      let ps = records patch in
      let long = length (image_of Table (outcome rs ps)) in
      let all : acceptable rs rows step ≡ true = sym (accepted-acceptable base rows step table) ∙ h in
      let rest = both_second (accepted (patch_verdict patch)) _ all in
      let rest' = both_second (accepted (absent_refusal rs ps)) _ rest in
      let rest'' = both_second (accepted (table_verdict (image_of Table (outcome rs ps)))) _ rest' in
      let rooms = both_second (leb 64 (length rows)) _ rest'' in
      record {
        stands = absent_stands rs ps (both_first (accepted (absent_refusal rs ps)) _ rest);
        table = both_first (accepted (table_verdict (image_of Table (outcome rs ps)))) _ rest';
        map = leb-true 64 (length rows) (both_first (leb 64 (length rows)) _ rest'');
        new_map = leb-true 64 (length new_rows) (both_first (leb 64 (length new_rows)) (leb long (length room)) rooms);
        room = leb-true long (length room) (both_second (leb 64 (length new_rows)) (leb long (length room)) rooms);
      }

  -- and if it suits it is accepted
  pub suits_accepted : Suits base patch rows room new_rows → accepted (patch_call_verdict base patch rows room new_rows) ≡ true
  unfolding step
  suits_accepted suits =
      accepted-acceptable base rows step table
      ∙ rw (
        right,
        stands_absent (records base) (records patch) suits.stands,
        suits.table,
        le-leb 64 (length rows) suits.map,
        le-leb 64 (length new_rows) suits.new_map,
        le-leb (length (image_of Table (outcome (records base) (records patch)))) (length room) suits.room,
      )
