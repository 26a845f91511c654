-- What makes a list of records a patch: each is 32 bytes long, and refusals 24 to 27 find no fault; then its image is accepted,
-- its records are in order, and all that are taken out come before all that are put in.
use Prim.Native.Nat.{ℕ, ◌≤◌, ◌<◌}
use mathlib.Core.List.{List, []}
use mathlib.Core.Bool.{true, false, not}
use mathlib.Core.Path.{◌≡◌}
use native.Mathlib.Omega.{arith}
use borrow.Author.Tests.{ltb-false}
use lib.ListN.{length, get_or}
use lib.Dec.{eqb}
use Rattle.rules.specs.declared.Form.TheVariants.{Patch}
use Rattle.rules.specs.Numbers.{Bytes, between}
use Rattle.rules.specs.Blocks.{records, image_of}
use Rattle.rules.specs.Records.{kind_of, way_of, key, image_key, zero_bytes, form_wrong}
use Rattle.rules.specs.Refusals.{accepted, fine, frame_verdict, records_verdict, patch_verdict}
use Rattle.rules.proofs.Numbers.{either}
use Rattle.rules.proofs.Tests.{neither_second}
use Rattle.rules.proofs.Refusals.{accepted_second, fine_both}
use Rattle.rules.proofs.Image.Parts.{Records}
use Rattle.rules.proofs.Image.Frame.{frame_accepted, frame_of, records_sized}
use Rattle.rules.proofs.Image.Written.{frame_image_of, records-image_of}
use Rattle.rules.proofs.Table.Ranges.{le2_small}
use Rattle.rules.proofs.Table.Order.{Rises}
use Rattle.rules.proofs.Table.Shape.{Faultless, faultless_of, faultless_fine, faultless_order}

-- a list of records that is a patch
pub record WellFormed (ps : List (List ℕ)) : Type 0 where
  pub sized : Records ps
  pub faultless : Faultless Patch ps

-- the records of an accepted patch are one
pub well_formed_of : (patch : List ℕ) → accepted (patch_verdict patch) ≡ true → WellFormed (records patch)
unfolding patch_verdict
well_formed_of patch h =
    record {
      sized = records_sized Patch patch (frame_of Patch patch (frame_accepted Patch patch h));
      faultless = faultless_of Patch (records patch) (accepted_second (frame_verdict Patch patch) (records_verdict Patch (records patch)) h);
    }

-- and where they fit in 45 blocks, the image of such records is accepted
pub patch_of_well_formed : (ps : List (List ℕ)) → WellFormed ps → length ps ≤ 675 → patch_verdict (image_of Patch ps) ≡ fine
unfolding patch_verdict
patch_of_well_formed ps w few =
    rw (records-image_of Patch ps w.sized)
    (fine_both (frame_verdict Patch (image_of Patch ps)) (records_verdict Patch ps)
    (frame_image_of Patch ps w.sized (omega arith))
    (faultless_fine Patch ps w.faultless))

-- a key of bytes is a number of five bytes
pub key_small : (r : List ℕ) → Bytes r → key r < 1099511627776
key_small r bytes =
    either (eqb (kind_of r) 3)
    (λ t. rw t (omega (arith, bytes 0, le2_small r bytes 2, le2_small r bytes 4)))
    (λ t. rw t (omega (arith, bytes 0, le2_small r bytes 2)))

-- byte 31 of a patch record is 0 or 1
pub way_most : (r : List ℕ) → form_wrong Patch r ≡ false → way_of r ≤ 1
unfolding form_wrong
way_most r right =
    ltb-false 1 (way_of r) (neither_second (not (zero_bytes r)) _ (neither_second (not (between 1 (kind_of r) 3)) _ right))

-- the records of a patch
module _ (ps : List (List ℕ)) (w : WellFormed ps) where
  -- are in the image's order
  pub well_formed_rises : Rises image_key ps
  well_formed_rises = faultless_order Patch ps w.faultless

  -- each is taken out or put in
  pub well_formed_ways : (k : ℕ) → k < length ps → way_of (get_or ps k []) ≤ 1
  well_formed_ways k l = way_most (get_or ps k []) (w.faultless.forms k l)

  -- and all that are taken out come first
  pub well_formed_parts : ((k : ℕ) → Bytes (get_or ps k [])) → (j k : ℕ) → j < k → k < length ps → way_of (get_or ps j []) ≤ way_of (get_or ps k [])
  well_formed_parts bytes j k h l = omega (arith, well_formed_rises j k h l, key_small (get_or ps k []) (bytes k))
