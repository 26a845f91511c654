-- Refusal 9 by the records that are met: the first that is not met is refused where it is taken out.
use Prim.Native.Nat.{ℕ, ◌<◌}
use mathlib.Core.List.{[]}
use mathlib.Core.Path.{◌≡◌, refl, ap, sym, ◌∙◌}
use native.Mathlib.Omega.{arith}
use lib.ListN.{length, get_or}
use Rattle.rules.specs.Blocks.{records, record_at, record_count}
use Rattle.rules.specs.Records.{way_of}
use Rattle.rules.specs.Refusals.{fine, refusal, absent_refusal}
use Rattle.rules.proofs.Refusals.{refuse_at_found, refuse_at-none}
use Rattle.table.specs.declared.accepted.Table.{Table}
use Rattle.table.specs.declared.accepted.Patch.{Patch}
use Rattle.table.proofs.Tables.{shape}
use Rattle.image.specs.InTurn.{met_among}
use Rattle.patch.proofs.Accepted.{as_many, read_is, base_rises, patch_rises, ways_rise}
use Rattle.patch.proofs.Meeting.{is_absent, met_absent, met_all}

module _ (base : Table) (patch : Patch) (met : ℕ) (count : met ≡ met_among (records base.image.now) (records patch.image.now) (record_count base.image.now)) where
  -- the count goes over all records of the base
  over_all : met ≡ met_among (records base.image.now) (records patch.image.now) (length (records base.image.now))
  over_all = count ∙ ap (met_among (records base.image.now) (records patch.image.now)) (sym (as_many base.image.now))

  -- the record that is not met is taken out
  pub absent_refused : met < record_count patch.image.now → way_of (record_at patch.image.now met) ≡ 0 → absent_refusal (records base.image.now) (records patch.image.now) ≡ refusal 9 met
  absent_refused inside way =
      let bs = records base.image.now in
      let ps = records patch.image.now in
      let ways = ways_rise patch in
      let zeros = (shape base).ways in
      let read : record_at patch.image.now met ≡ get_or ps met [] = read_is patch.image.now met (record_at patch.image.now met) inside refl in
      let lies : met_among bs ps (length bs) < length ps = omega (arith, over_all, as_many patch.image.now) in
      let out : way_of (get_or ps (met_among bs ps (length bs)) []) ≡ 0 = ap (λ (k : ℕ). way_of (get_or ps k [])) (sym over_all) ∙ ap way_of (sym read) ∙ way in
      refuse_at_found 9 (is_absent bs ps (base_rises base) (patch_rises patch) ways zeros) (length ps) met
      (met_absent bs ps (base_rises base) (patch_rises patch) ways zeros lies out ∙ sym over_all) (omega (arith, as_many patch.image.now))

  -- there is none, or it is put in
  pub absent_none : (met < record_count patch.image.now → way_of (record_at patch.image.now met) ≡ 0 → ⊥) → absent_refusal (records base.image.now) (records patch.image.now) ≡ fine
  absent_none end =
      let bs = records base.image.now in
      let ps = records patch.image.now in
      let ways = ways_rise patch in
      let zeros = (shape base).ways in
      refuse_at-none 9 (is_absent bs ps (base_rises base) (patch_rises patch) ways zeros) (length ps)
      (met_all bs ps (base_rises base) (patch_rises patch) ways zeros
      (λ lies out.
      let inside : met < record_count patch.image.now = omega (arith, over_all, as_many patch.image.now) in
      let read : record_at patch.image.now met ≡ get_or ps met [] = read_is patch.image.now met (record_at patch.image.now met) inside refl in
      end inside (ap way_of read ∙ ap (λ (k : ℕ). way_of (get_or ps k [])) over_all ∙ out)))

-- the verdict, once the records that are met are counted
module _ (base : Table) (patch : Patch) where
  -- how many are met
  abbrev met : ℕ
  met = met_among (records base.image.now) (records patch.image.now) (record_count base.image.now)

  -- refusal 9 where the next record is taken out
  pub absent_told : met < record_count patch.image.now → way_of (record_at patch.image.now met) ≡ 0
      → refusal 9 met ≡ absent_refusal (records base.image.now) (records patch.image.now)
  absent_told inside way = sym (absent_refused base patch met refl inside way)

  -- none where there is no next record or it is put in
  pub present_told : (met < record_count patch.image.now → way_of (record_at patch.image.now met) ≡ 0 → ⊥)
      → fine ≡ absent_refusal (records base.image.now) (records patch.image.now)
  present_told other = sym (absent_none base patch met refl other)

-- what decides that verdict, for the function that answers it
pub ruleset absent_verdicts = (absent_told, present_told)
