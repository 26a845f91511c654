-- The reverse of a patch: its two parts are the patch's, changed over, so it is a patch again, as long as the patch, and its
-- own reverse is the patch.
use Prim.Native.Nat.{ℕ, zero, suc, ◌+◌, ◌≤◌, ◌<◌}
use mathlib.Core.List.{List, [], ◌∷◌, ◌++◌, append-nil}
use mathlib.Core.Bool.{true, false, or_comm}
use mathlib.Core.Path.{◌≡◌, refl, ap, sym, ◌∙◌}
use native.Mathlib.Omega.{arith}
use borrow.Author.Tests.{eqb-true, eqb-false}
use lib.ListN.{length, get_or, set, take, drop, length-append, length-set, length-take, length-drop, take-append-drop}
use lib.Seq.{get_or-take, get_or-drop}
use lib.Dec.{ltb, eqb}
use Rattle.rules.specs.declared.Form.TheVariants.{Patch}
use Rattle.rules.specs.Numbers.{Bytes}
use Rattle.rules.specs.Blocks.{records, record_at, record_count}
use Rattle.rules.specs.Records.{way_of, key, image_key, form_wrong, range_wrong, of_kind, most_of, count_of, too_many}
use Rattle.rules.specs.Patches.{has, taken_out, put_in, with_way, reversed}
use Rattle.rules.specs.Refusals.{accepted, fine, patch_verdict}
use Rattle.rules.specs.Calls.{reverse_of}
use Rattle.rules.proofs.Numbers.{either, length-up_to}
use Rattle.rules.proofs.Image.Parts.{Records}
use Rattle.rules.proofs.Image.Frame.{frame_accepted, frame_of, records_fit, blocks_needed}
use Rattle.rules.proofs.Image.Written.{length-image_of, records-image_of}
use Rattle.rules.proofs.Image.Read.{image_of-records}
use Rattle.rules.proofs.Table.Order.{Rises}
use Rattle.rules.proofs.Table.Shape.{records_bytes}
use Rattle.rules.proofs.Patch.Members.{has_at, has_each, put_in_from}
use Rattle.rules.proofs.Patch.Turned.{turned_key, turned_range, turned_form}
use Rattle.rules.proofs.Patch.WellFormed.{WellFormed, well_formed_of, patch_of_well_formed, key_small, well_formed_rises, well_formed_ways, well_formed_parts}
use Rattle.rules.proofs.Patch.Ways.{taken_out_first, taken_out-append, put_in_other, put_in-append, length-with_way, with_way_at, with_way_again, with_way-same, all_taken_out, none-put_in, none-taken_out, all_put_in, with_way_ways, taken_out_ways, put_in_ways, length_parts, count_taken, count-put}
use Rattle.rules.proofs.Patch.Rising.{append_each, rises_append, rises_order, taken_stands, taken_out_rises, put_in_rises}

-- what holds of each record of a patch, with byte 31 at 0 and at 1, holds of each record of its reverse
reversed_each {ℓ} : (P : List ℕ → Type ℓ) (ps : List (List ℕ))
    → ((p : List ℕ) → has ps p ≡ true → (way : ℕ) → way ≤ 1 → P (set p 31 way))
    → (k : ℕ) → k < length (reversed ps) → P (get_or (reversed ps) k [])
reversed_each P ps each =
    append_each P (put_in ps) (with_way 1 (taken_out ps))
    (λ k l. let (p, there, way, e) = put_in_from ps (get_or (put_in ps) k []) (has_at (put_in ps) k l) in rw e (each p there 0 (omega arith)))
    (λ k l.
    let inside : k < length (taken_out ps) = rw length-with_way at l in
    rw (with_way_at 1 (taken_out ps) k inside) (each (get_or (taken_out ps) k []) (taken_stands ps k inside) 1 (omega arith)))

-- where a patch takes out up to number m and puts in from there on, its reverse is the two stretches changed over
pub reversed_at : (ps : List (List ℕ)) (m : ℕ) → m ≤ length ps → ((k : ℕ) → k < m → way_of (get_or ps k []) ≡ 0)
    → ((k : ℕ) → m ≤ k → k < length ps → way_of (get_or ps k []) ≡ 1) → reversed ps ≡ with_way 0 (drop m ps) ++ with_way 1 (take m ps)
reversed_at ps m inside below above =
    let front : (k : ℕ) → k < length (take m ps) → way_of (get_or (take m ps) k []) ≡ 0 = λ k l. let small : k < m = omega (arith, simp length-take at l) in rw (get_or-take m ps k [] small) (below k small) in
    let rest : (k : ℕ) → k < length (drop m ps) → way_of (get_or (drop m ps) k []) ≡ 1 = λ k l. rw get_or-drop (above (m + k) (omega arith) (omega (arith, simp length-drop at l))) in
    let taken : taken_out ps ≡ take m ps = ap taken_out (sym (take-append-drop m ps)) ∙ taken_out-append (take m ps) (drop m ps) ∙ rw (all_taken_out (take m ps) front, none-taken_out (drop m ps) rest) (append-nil (take m ps)) in
    let put : put_in ps ≡ with_way 0 (drop m ps) = ap put_in (sym (take-append-drop m ps)) ∙ put_in-append (take m ps) (drop m ps) ∙ rw (none-put_in (take m ps) front, all_put_in (drop m ps) rest) in
    rw (taken, put)

-- the reverse has as many records
pub reversed-length : (ps : List (List ℕ)) → ((k : ℕ) → k < length ps → way_of (get_or ps k []) ≤ 1) → length (reversed ps) ≡ length ps
reversed-length ps ways = length-append (put_in ps) (with_way 1 (taken_out ps)) ∙ rw length-with_way (length_parts ps ways)

-- records of 32 bytes
module _ (ps : List (List ℕ)) (sized : Records ps) where
  -- are turned into records of 32 bytes
  pub reversed_sized : Records (reversed ps)
  reversed_sized =
      reversed_each (λ r. length r ≡ 32) ps
      (λ p there way most. length-set p 31 way ∙ has_each (λ r. length r ≡ 32) ps sized p there)

  -- those taken out are so too
  taken_sized : Records (taken_out ps)
  taken_sized k l = has_each (λ r. length r ≡ 32) ps sized (get_or (taken_out ps) k []) (taken_stands ps k l)

  -- and have byte 31 at 1 in the reverse
  turned_ways : (k : ℕ) → k < length (with_way 1 (taken_out ps)) → way_of (get_or (with_way 1 (taken_out ps)) k []) ≡ 1
  turned_ways = with_way_ways 1 (taken_out ps) taken_sized

  -- the reverse takes out what the patch puts in
  pub reversed_takes : taken_out (reversed ps) ≡ put_in ps
  reversed_takes =
      taken_out-append (put_in ps) (with_way 1 (taken_out ps))
      ∙ rw (all_taken_out (put_in ps) (put_in_ways ps), none-taken_out (with_way 1 (taken_out ps)) turned_ways) (append-nil (put_in ps))

  -- and puts in what the patch takes out
  pub reversed_puts : put_in (reversed ps) ≡ taken_out ps
  reversed_puts =
      put_in-append (put_in ps) (with_way 1 (taken_out ps))
      ∙ rw (
        none-put_in (put_in ps) (put_in_ways ps),
        all_put_in (with_way 1 (taken_out ps)) turned_ways,
        with_way_again 0 1 (taken_out ps),
        with_way-same 0 (taken_out ps) (taken_out_ways ps),
      )

  -- so refusal 7 counts the same, with the two ways changed over
  counts_back : (k : ℕ) → too_many (reversed ps) k ≡ too_many ps k
  unfolding too_many
  counts_back k =
      let taken : count_of k 0 (reversed ps) ≡ count_of k 1 ps = count_taken k (reversed ps) ∙ ap (λ (l : List (List ℕ)). length (of_kind k l)) reversed_takes ∙ sym (count-put k ps) in
      let put : count_of k 1 (reversed ps) ≡ count_of k 0 ps = count-put k (reversed ps) ∙ ap (λ (l : List (List ℕ)). length (of_kind k l)) reversed_puts ∙ sym (count_taken k ps) in
      rw (taken, put) (or_comm (ltb (most_of k) (count_of k 1 ps)) (ltb (most_of k) (count_of k 0 ps)))

-- a list with all records that are taken out before all that are put in is its two parts
parts_whole : (ps : List (List ℕ)) → ((k : ℕ) → k < length ps → way_of (get_or ps k []) ≤ 1)
    → ((j k : ℕ) → j < k → k < length ps → way_of (get_or ps j []) ≤ way_of (get_or ps k []))
    → taken_out ps ++ with_way 1 (put_in ps) ≡ ps
unfolding taken_out put_in with_way
parts_whole [] ways parted = refl
parts_whole (p ∷ ps) ways parted =
    either (eqb (way_of p) 0)
    (λ t.
    let e = eqb-true (way_of p) 0 t in
    rw (taken_out_first p ps e, put_in_other p ps e)
    (ap (λ (l : List (List ℕ)). p ∷ l)
    (parts_whole ps (λ k l. ways (suc k) (omega arith)) (λ j k b l. parted (suc j) (suc k) (omega arith) (omega arith)))))
    (λ t.
    let e : way_of p ≡ 1 = omega (arith, eqb-false (way_of p) 0 t, ways zero (omega arith)) in
    let all = all_put e in
    rw (none-taken_out (p ∷ ps) all, all_put_in (p ∷ ps) all, with_way_again 1 0 (p ∷ ps)) (with_way-same 1 (p ∷ ps) all))
  where
    all_put : way_of p ≡ 1 → (k : ℕ) → k < length (p ∷ ps) → way_of (get_or (p ∷ ps) k []) ≡ 1
    all_put e zero l = e
    all_put e (suc k) l = omega (arith, e, parted zero (suc k) (omega arith) l, ways (suc k) l)

-- the records of a patch, of bytes
module _ (ps : List (List ℕ)) (w : WellFormed ps) (bytes : (k : ℕ) → Bytes (get_or ps k [])) where
  -- the reverse is in order
  reversed_rises : Rises image_key (reversed ps)
  reversed_rises =
      let turned = with_way 1 (taken_out ps) in
      let front : Rises image_key (put_in ps) = λ i j b l. omega (arith, put_in_rises ps (well_formed_rises ps w) i j b l, put_in_ways ps i (omega arith), put_in_ways ps j l) in
      let inside : (k : ℕ) → k < length turned → k < length (taken_out ps) = λ k l. rw length-with_way at l in
      let same : (k : ℕ) → k < length turned → key (get_or turned k []) ≡ key (get_or (taken_out ps) k []) = λ k l. ap key (with_way_at 1 (taken_out ps) k (inside k l)) ∙ turned_key (get_or (taken_out ps) k []) 1 in
      let rest : Rises image_key turned = λ i j b l. omega (arith, taken_out_rises ps (well_formed_rises ps w) i j b (inside j l), same i (omega arith), same j l, turned_ways ps w.sized i (omega arith), turned_ways ps w.sized j l) in
      let small : (k : ℕ) → k < length (put_in ps) → key (get_or (put_in ps) k []) < 1099511627776 = λ k l. let (p, there, way, e) = put_in_from ps (get_or (put_in ps) k []) (has_at (put_in ps) k l) in rw (e, turned_key p 0) (has_each (λ r. key r < 1099511627776) ps (λ j m. key_small (get_or ps j []) (bytes j)) p there) in
      rises_append image_key (put_in ps) turned front rest
      (λ i j h l. omega (arith, small i h, put_in_ways ps i h, turned_ways ps w.sized j l))

  -- so it is a patch
  pub reversed_well_formed : WellFormed (reversed ps)
  reversed_well_formed =
      record {
        sized = reversed_sized ps w.sized;
        faultless =
            record {
              forms =
                  reversed_each (λ r. form_wrong Patch r ≡ false) ps
                  (λ p there way most. turned_form p way Patch most (has_each (λ r. form_wrong Patch r ≡ false) ps w.faultless.forms p there));
              orders = rises_order (reversed ps) reversed_rises;
              ranges =
                  reversed_each (λ r. range_wrong r ≡ false) ps
                  (λ p there way most. turned_range p way ∙ has_each (λ r. range_wrong r ≡ false) ps w.faultless.ranges p there);
              counts = rw (counts_back ps w.sized 1, counts_back ps w.sized 2, counts_back ps w.sized 3) w.faultless.counts;
            };
      }

  -- and its reverse is the patch
  pub reversed_twice : reversed (reversed ps) ≡ ps
  reversed_twice =
      rw (reversed_puts ps w.sized, reversed_takes ps w.sized)
      (parts_whole ps (well_formed_ways ps w) (well_formed_parts ps w bytes))

-- an accepted patch
module _ (patch : List ℕ) (right : accepted (patch_verdict patch) ≡ true) where
  -- its reverse has those records
  pub reverse-records : records (reverse_of patch) ≡ reversed (records patch)
  reverse-records = records-image_of Patch (reversed (records patch)) (reversed_sized (records patch) (well_formed_of patch right).sized)

  -- as many as the patch
  pub reverse-count : length (reversed (records patch)) ≡ record_count patch
  reverse-count =
      reversed-length (records patch) (well_formed_ways (records patch) (well_formed_of patch right))
      ∙ length-up_to (record_at patch) (record_count patch)

  -- and is as long
  pub reverse-length : length (reverse_of patch) ≡ length patch
  reverse-length =
      let f = frame_of Patch patch (frame_accepted Patch patch right) in
      length-image_of Patch (reversed (records patch)) (reversed_sized (records patch) (well_formed_of patch right).sized)
      ∙ rw (reverse-count, blocks_needed Patch patch f) (sym f.whole)

  -- of bytes
  module _ (bytes : Bytes patch) where
    -- the reverse is accepted as a patch
    pub reverse-accepted : patch_verdict (reverse_of patch) ≡ fine
    reverse-accepted =
        let f = frame_of Patch patch (frame_accepted Patch patch right) in
        patch_of_well_formed (reversed (records patch))
        (reversed_well_formed (records patch) (well_formed_of patch right) (records_bytes patch bytes))
        (omega (arith, reverse-count, records_fit Patch patch f, f.not_too_many))

    -- and its reverse is the patch, byte for byte
    pub reverse_twice : reverse_of (reverse_of patch) ≡ patch
    reverse_twice =
        rw (reverse-records, reversed_twice (records patch) (well_formed_of patch right) (records_bytes patch bytes))
        (image_of-records Patch patch bytes (frame_accepted Patch patch right))
