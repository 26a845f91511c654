-- Records that stand behind the bytes written: none, one, and one list behind another; so the loop that writes a part of a patch
-- has written the records that it passed.
use Prim.Native.Nat.{ℕ, suc, ◌+◌, ◌*◌, ◌-◌, ◌≤◌, ◌<◌}
use mathlib.Core.List.{List, [], ◌∷◌, ◌++◌, append_assoc, append-nil}
use mathlib.Core.Path.{◌≡◌, refl, ◌∙◌}
use native.Mathlib.Omega.{arith}
use lib.ListN.{length, get_or, set, take, drop, length-append, length-set, length-take, length-drop}
use lib.Seq.{take-suc, get_or-drop}
use Rattle.rules.specs.Blocks.{records, record_count}
use Rattle.rules.specs.Patches.{with_way}
use Rattle.table.specs.declared.accepted.Patch.{Patch}
use Rattle.rules.proofs.Image.Parts.{joined-append}
use Rattle.rules.proofs.Patch.Ways.{with_way-append, length-with_way}
use Rattle.patch.proofs.Accepted.{as_many, formed}
use Rattle.patch.proofs.Flat.{with_record, length_written, front_written}
use Rattle.reverse.specs.Turned.{Behind}

-- no record behind the first bytes
behind_none : (before : ℕ) (flat : List ℕ) → Behind [] before before flat flat
behind_none before flat = record { size = omega arith; same_length = refl; bytes = rw append-nil }

-- one record
behind_one : (r flat : List ℕ) (before : ℕ) → length r ≡ 32 → before + 32 ≤ length flat
    → Behind (r ∷ []) before (before + 32) flat (with_record before r flat)
behind_one r flat before long fits =
    record {
      size = omega arith;
      same_length = length_written r flat before long fits;
      bytes = rw append-nil (front_written r flat before long fits);
    }

-- one list of records, and another behind it, that are all of these
pub behind_both : (rs ss all : List (List ℕ)) (before between written : ℕ) (flat middle later : List ℕ)
    → Behind rs before between flat middle → Behind ss between written middle later → rs ++ ss ≡ all → Behind all before written flat later
behind_both rs ss all before between written flat middle later first second together =
    rw (← together)
    (record {
      size = rw length-append (omega (arith, first.size, second.size));
      same_length = second.same_length ∙ first.same_length;
      bytes = second.bytes ∙ rw (first.bytes, joined-append, append_assoc);
    })

-- the records from one number up to another, each with this byte 31
abbrev pub part : List (List ℕ) → ℕ → ℕ → ℕ → List (List ℕ)
part ps way from to = with_way way (take (to - from) (drop from ps))

-- with one record more
part_more : (ps : List (List ℕ)) (way from k : ℕ) → from ≤ k → k < length ps → part ps way from k ++ (set (get_or ps k []) 31 way ∷ []) ≡ part ps way from (k + 1)
unfolding with_way
part_more ps way from k forward inside =
    let count : k + 1 - from ≡ suc (k - from) = omega arith in
    let there : k - from < length (drop from ps) = rw length-drop (omega arith) in
    let place : from + (k - from) ≡ k = omega arith in
    rw (count, take-suc (drop from ps) (k - from) [] there, get_or-drop, place, with_way-append)

-- of the part of a patch that is to be written, the records up to number k are
pub record Growing (ps : List (List ℕ)) (way from to before k written : ℕ) (flat later : List ℕ) : Type 0 where
  pub forward : from ≤ k
  pub inside : k ≤ to
  pub behind : Behind (part ps way from k) before written flat later

-- a part of an accepted patch, and room for it
module _ (patch : Patch) (way from to before : ℕ) (flat : List ℕ) (asked : (from ≤ to) × ((to ≤ record_count patch.image.now) × (before + 32 * (to - from) ≤ length flat))) where
  -- none of its records is written
  pub growing_none : Growing (records patch.image.now) way from to before from before flat flat
  unfolding with_way
  growing_none =
      let none : from - from ≡ 0 = omega arith in
      record { forward = omega arith; inside = asked.0; behind = rw none (behind_none before flat) }

  -- those up to number k are
  module _ (k written : ℕ) (later : List ℕ) (g : Growing (records patch.image.now) way from to before k written flat later) where
    -- and that is all where k is the end
    pub growing_all : to ≤ k → Behind (part (records patch.image.now) way from to) before written flat later
    growing_all end =
        let same : k ≡ to = omega (arith, g.inside) in
        rw same at g.behind

    module _ (more : k < to) where
      -- the next has 32 bytes
      pub growing_next : length (get_or (records patch.image.now) k []) ≡ 32
      growing_next = (formed patch).sized k (omega (arith, as_many patch.image.now))

      -- there is room for it
      pub growing_fits : written + 32 ≤ length later
      growing_fits =
          let size = simp (length-with_way, length-take, length-drop) at g.behind.size in
          omega (arith, size, g.behind.same_length, g.forward, as_many patch.image.now)

      -- and where it is written, those up to number k + 1 are
      pub growing_more : Growing (records patch.image.now) way from to before (k + 1) (written + 32) flat (with_record written (set (get_or (records patch.image.now) k []) 31 way) later)
      growing_more =
          let ps = records patch.image.now in
          let r = set (get_or ps k []) 31 way in
          record {
            forward = omega (arith, g.forward);
            inside = omega arith;
            behind =
                behind_both (part ps way from k) (r ∷ []) (part ps way from (k + 1)) before written (written + 32) flat later (with_record written r later) g.behind
                (behind_one r later written (length-set (get_or ps k []) 31 way ∙ growing_next) growing_fits)
                (part_more ps way from k g.forward (omega (arith, as_many patch.image.now)));
          }
