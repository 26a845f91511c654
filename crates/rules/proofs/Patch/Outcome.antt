-- An outcome's records are the base's or were put in, so their form and ranges are right: it is a table unless it is broken.
use Prim.Native.Nat.{ℕ, ◌<◌}
use mathlib.Core.List.{List, []}
use mathlib.Core.Bool.{true, false, not}
use mathlib.Core.Path.{◌≡◌, ap, sym, ◌∙◌}
use native.Mathlib.Omega.{arith}
use borrow.Author.Tests.{not-false}
use lib.ListN.{length, get_or, length-set}
use Rattle.rules.specs.declared.Form.TheVariants.{Table, Patch}
use Rattle.rules.specs.Blocks.{records, image_of}
use Rattle.rules.specs.Records.{form_wrong, range_wrong}
use Rattle.rules.specs.Patches.{outcome}
use Rattle.rules.specs.Refusals.{accepted, or_else, order_wrong, order_refusal, count_refusal, link_refusal, table_verdict, patch_verdict, broken}
use Rattle.rules.proofs.Numbers.{either, never}
use Rattle.rules.proofs.Refusals.{accepted_first, accepted_second, no_fault_at}
use Rattle.rules.proofs.Image.Parts.{Records}
use Rattle.rules.proofs.Patch.Members.{has_each, outcome_each}
use Rattle.rules.proofs.Patch.Turned.{turned_form, turned_range}
use Rattle.rules.proofs.Patch.WellFormed.{well_formed_of}
use Rattle.rules.proofs.Patch.Valid.{Valid, valid_of, table_of_valid, valid_not_broken, valid_image_of}

-- an accepted table, and an accepted patch
module _ (base patch : List ℕ) (table : accepted (table_verdict base) ≡ true) (right : accepted (patch_verdict patch) ≡ true) where
  -- each record of the outcome is 32 bytes long
  pub outcome_sized : Records (outcome (records base) (records patch))
  outcome_sized =
      outcome_each (λ r. length r ≡ 32) (records base) (records patch) (valid_of base table).sized
      (λ p there way. length-set p 31 0 ∙ has_each (λ r. length r ≡ 32) (records patch) (well_formed_of patch right).sized p there)

  -- its form is right, and its ranges are
  pub outcome_forms : (k : ℕ) → k < length (outcome (records base) (records patch))
      → form_wrong Table (get_or (outcome (records base) (records patch)) k []) ≡ false
  outcome_forms =
      outcome_each (λ r. form_wrong Table r ≡ false) (records base) (records patch) (valid_of base table).faultless.forms
      (λ p there way. turned_form p 0 Table (omega arith) (has_each (λ r. form_wrong Patch r ≡ false) (records patch) (well_formed_of patch right).faultless.forms p there))

  pub outcome_ranges : (k : ℕ) → k < length (outcome (records base) (records patch))
      → range_wrong (get_or (outcome (records base) (records patch)) k []) ≡ false
  outcome_ranges =
      outcome_each (λ r. range_wrong r ≡ false) (records base) (records patch) (valid_of base table).faultless.ranges
      (λ p there way. turned_range p 0 ∙ has_each (λ r. range_wrong r ≡ false) (records patch) (well_formed_of patch right).faultless.ranges p there)

  -- so where order, counts and references are right too, the outcome is a table
  pub outcome_valid : broken (outcome (records base) (records patch)) ≡ false → Valid (outcome (records base) (records patch))
  outcome_valid h =
      let rs = outcome (records base) (records patch) in
      let all = not-false (accepted (or_else (order_refusal Table rs) (or_else (count_refusal Table rs) (link_refusal rs)))) h in
      let rest = accepted_second (order_refusal Table rs) (or_else (count_refusal Table rs) (link_refusal rs)) all in
      record {
        sized = outcome_sized;
        faultless =
            record {
              forms = outcome_forms;
              orders = no_fault_at 5 (order_wrong rs) (length rs) (omega arith) (accepted_first (order_refusal Table rs) _ all);
              ranges = outcome_ranges;
              counts = accepted_first (count_refusal Table rs) (link_refusal rs) rest;
            };
        links = accepted_second (count_refusal Table rs) (link_refusal rs) rest;
      }

  -- it is broken exactly where its image is refused
  pub outcome-broken : broken (outcome (records base) (records patch)) ≡ not (accepted (table_verdict (image_of Table (outcome (records base) (records patch)))))
  outcome-broken =
      let rs = outcome (records base) (records patch) in
      either (accepted (table_verdict (image_of Table rs)))
      (λ t. valid_not_broken rs (valid_image_of rs outcome_sized t) ∙ sym (ap not t))
      (λ t.
      either (broken rs)
      (λ u. u ∙ sym (ap not t))
      (λ u. never (accepted (table_verdict (image_of Table rs))) (ap accepted (table_of_valid rs (outcome_valid u))) t))
