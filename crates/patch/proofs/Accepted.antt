-- What an accepted patch gives: its records in order, all that are taken out before all that are put in, and not too many of these.
use Prim.Native.Nat.{ℕ, zero, suc, ◌+◌, ◌≤◌, ◌<◌}
use mathlib.Core.List.{List, []}
use mathlib.Core.Bool.{true, false, cond, ◌&&◌, not}
use mathlib.Core.Path.{◌≡◌, ap, sym, ◌∙◌}
use native.Mathlib.Omega.{arith}
use borrow.Author.Tests.{eqb-true, eqb-false, eq-eqb, ltb-true, ltb-false, not-true, not-false}
use lib.ListN.{length, get_or}
use lib.Dec.{eqb, ltb}
use Rattle.rules.specs.declared.Form.TheVariants.{Table as Form·Table, Patch as Form·Patch}
use Rattle.table.specs.declared.accepted.Table.{Table}
use Rattle.table.specs.declared.accepted.Patch.{Patch}
use Rattle.rules.specs.Numbers.{lowest, sum_to, count_to, between}
use Rattle.rules.specs.Blocks.{records, record_at, record_count}
use Rattle.rules.specs.Records.{kind_of, way_of, image_key, form_wrong}
use Rattle.rules.proofs.Numbers.{either, length-up_to, get_or-up_to, lowest_passes, lowest_below}
use Rattle.rules.proofs.Tests.{neither_first}
use Rattle.rules.proofs.Image.Frame.{frame_accepted, frame_of}
use Rattle.rules.proofs.Table.Ranges.{between_least, between_most}
use Rattle.rules.proofs.Table.Order.{Rises}
use Rattle.rules.proofs.Table.Shape.{transactions_counted, tasks_counted, pairs_counted, not_too_many, faultless_order, records_bytes}
use Rattle.rules.proofs.Patch.Valid.{valid_of}
use Rattle.rules.proofs.Patch.WellFormed.{WellFormed, well_formed_of, well_formed_rises, well_formed_ways, well_formed_parts}
use Rattle.patch.specs.Parts.{is_put_in}
use Rattle.patch.specs.Merge.{PutsFrom}

-- the list has as many records as the image
pub as_many : (image : List ℕ) → length (records image) ≡ record_count image
as_many image = length-up_to (record_at image) (record_count image)

-- the first record that is put in is the same among the list's
pub first_in : (patch : List ℕ) (m : ℕ) → m ≡ lowest (is_put_in (records patch)) (record_count patch) → m ≡ lowest (is_put_in (records patch)) (length (records patch))
first_in patch m e = e ∙ ap (lowest (is_put_in (records patch))) (sym (as_many patch))

-- a record that is read from the image is the list's
pub read_is : (image : List ℕ) (k : ℕ) (fields : List ℕ) → k < record_count image → fields ≡ record_at image k → fields ≡ get_or (records image) k []
read_is image k fields h e = e ∙ sym (get_or-up_to (record_at image) (record_count image) k [] h)

-- the kind of a patch record is 1, 2 or 3
known_patch_kind : (r : List ℕ) → form_wrong Form·Patch r ≡ false → (1 ≤ kind_of r) × (kind_of r ≤ 3)
unfolding form_wrong
known_patch_kind r right =
    let known = not-false (between 1 (kind_of r) 3) (neither_first (not (between 1 (kind_of r) 3)) _ right) in
    (between_least 1 (kind_of r) 3 known, between_most 1 (kind_of r) 3 known)

-- an accepted table
module _ (table : Table) where
  -- has at most 23 blocks
  pub table_long : length table.image.now ≤ 11776
  table_long =
      let f = frame_of Form·Table table.image.now (frame_accepted Form·Table table.image.now table.accepted) in
      omega (arith, f.whole, f.not_too_many)

  -- and its records are in the image's order
  pub base_rises : Rises image_key (records table.image.now)
  base_rises = faultless_order Form·Table (records table.image.now) (valid_of table.image.now table.accepted).faultless

-- an accepted patch
module _ (patch : Patch) where
  abbrev ps : List (List ℕ)
  ps = records patch.image.now

  -- its records are well formed
  pub formed : WellFormed ps
  formed = well_formed_of patch.image.now patch.accepted

  -- they are in the image's order
  pub patch_rises : Rises image_key ps
  patch_rises = well_formed_rises ps formed

  -- each is taken out or put in
  pub patch_ways : (k : ℕ) → k < length ps → way_of (get_or ps k []) ≤ 1
  patch_ways = well_formed_ways ps formed

  -- and all that are taken out come first
  pub ways_rise : (j k : ℕ) → j < k → k < length ps → way_of (get_or ps j []) ≤ way_of (get_or ps k [])
  ways_rise = well_formed_parts ps formed (records_bytes patch.image.now patch.bytes)

  -- so from the first record that is put in, all are
  pub puts_from : (m : ℕ) → m ≡ lowest (is_put_in ps) (length ps) → PutsFrom ps m
  puts_from m e k h l =
      let here = lowest_passes (is_put_in ps) (length ps) (omega arith) in
      let other : is_put_in ps m ≡ true = rw e here in
      let some = eqb-false (way_of (get_or ps m [])) 0 (not-true (eqb (way_of (get_or ps m [])) 0) other) in
      either (ltb m k)
      (λ t. omega (arith, ways_rise m k (ltb-true m k t) l, patch_ways k l))
      (λ t.
      let same : k ≡ m = omega (arith, ltb-false m k t) in
      rw same (omega (arith, patch_ways m (omega arith))))

  -- and before it, none is
  pub takes_below : (m : ℕ) → m ≡ lowest (is_put_in ps) (length ps) → (k : ℕ) → k < m → way_of (get_or ps k []) ≡ 0
  takes_below m e k h =
      eqb-true (way_of (get_or ps k [])) 0 (not-false (eqb (way_of (get_or ps k [])) 0) (lowest_below (is_put_in ps) (length ps) k (omega arith)))

-- records of kind k that are put in, of the first n
abbrev put_of : List (List ℕ) → ℕ → ℕ → ℕ
put_of ps k n = count_to (λ j. eqb (kind_of (get_or ps j [])) k && eqb (way_of (get_or ps j [])) 1) n

-- one more record that is put in is counted at its kind
one_of_three : (kind way : ℕ) → 1 ≤ kind → kind ≤ 3 → way ≡ 1
    → 1 ≤ cond (eqb kind 1 && eqb way 1) 1 0 + cond (eqb kind 2 && eqb way 1) 1 0 + cond (eqb kind 3 && eqb way 1) 1 0
one_of_three kind way least most put =
    rw (eq-eqb way 1 put)
    (either (eqb kind 1)
    (λ t. rw t (omega arith))
    (λ t.
    either (eqb kind 2)
    (λ u. rw (t, u) (omega arith))
    (λ u. rw (t, u, eq-eqb kind 3 (omega (arith, eqb-false kind 1 t, eqb-false kind 2 u))) (omega arith))))

-- from number m on, each record is put in and counted at one of the three kinds
puts_counted : (ps : List (List ℕ)) (m n : ℕ) → n ≤ length ps → PutsFrom ps m
    → ((k : ℕ) → k < length ps → (1 ≤ kind_of (get_or ps k [])) × (kind_of (get_or ps k []) ≤ 3))
    → n ≤ m + put_of ps 1 n + put_of ps 2 n + put_of ps 3 n
unfolding sum_to
puts_counted ps m zero few puts kinds = omega arith
puts_counted ps m (suc n) few puts kinds =
    let before = puts_counted ps m n (omega arith) puts kinds in
    either (ltb n m)
    (λ t. omega (arith, ltb-true n m t))
    (λ t.
    let kind = kinds n (omega arith) in
    let one = one_of_three (kind_of (get_or ps n [])) (way_of (get_or ps n [])) kind.0 kind.1 (puts n (ltb-false n m t) (omega arith)) in
    omega arith)

-- so an accepted patch puts in at most 16 + 64 + 256 records
pub puts_few : (patch : Patch) (m : ℕ) → PutsFrom (records patch.image.now) m → length (records patch.image.now) ≤ m + 336
puts_few patch m puts =
    let ps = records patch.image.now in
    let f = (formed patch).faultless in
    omega (
      arith,
      puts_counted ps m (length ps) (omega arith) puts (λ k l. known_patch_kind (get_or ps k []) (f.forms k l)),
      (not_too_many ps 1 (transactions_counted Form·Patch ps f.counts)).1,
      (not_too_many ps 2 (tasks_counted Form·Patch ps f.counts)).1,
      (not_too_many ps 3 (pairs_counted Form·Patch ps f.counts)).1,
    )
