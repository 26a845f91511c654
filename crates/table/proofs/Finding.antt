-- A search over the records of an image, by the places at which they stand in it, is one over their list.
use Prim.Native.Nat.{ℕ, ◌<◌}
use mathlib.Core.List.{List, []}
use mathlib.Core.Bool.{Bool}
use mathlib.Core.Path.{◌≡◌, ap, sym, ◌∙◌}
use native.Mathlib.Omega.{arith}
use borrow.Author.Tests.{lt-ltb, le-ltb}
use lib.ListN.{length, get_or}
use Rattle.std.specs.Prelude.{Option, Some, None}
use Rattle.rules.specs.Numbers.{lowest}
use Rattle.rules.specs.Blocks.{records, record_at, record_count}
use Rattle.rules.proofs.Numbers.{lowest_ext, get_or-up_to, length-up_to}
use Rattle.rules.specs.Refusals.{fine, refusal, refuse_at}
use Rattle.image.specs.First.{first}
use Rattle.image.proofs.First.{refuse_at_first, refuse_at_no_first}

pub first_ext : (test other : ℕ → Bool) (n : ℕ) → ((k : ℕ) → k < n → test k ≡ other k) → first test n ≡ first other n
first_ext test other n same = rw (lowest_ext test other n same)

pub first_record : (image : List ℕ) (test : List ℕ → Bool) (count : ℕ) (found : Option ℕ) → count ≡ record_count image → found ≡ first (λ k. test (record_at image k)) count
    → found ≡ first (λ k. test (get_or (records image) k [])) (record_count image)
first_record image test count found counted searched =
    searched
    ∙ rw counted
    (first_ext (λ k. test (record_at image k)) (λ k. test (get_or (records image) k [])) (record_count image)
    (λ k h. ap test (sym (get_or-up_to (record_at image) (record_count image) k [] h))))

-- the lowest that passes is the first, and where the lowest is the end there is none
pub first_at : (test : ℕ → Bool) (n i : ℕ) → lowest test n ≡ i → i < n → Some i ≡ first test n
first_at test n i here inside = rw (here, lt-ltb i n inside)

pub first_past : (test : ℕ → Bool) (n : ℕ) → lowest test n ≡ n → None ≡ first test n
first_past test n here = rw (here, le-ltb n n (omega arith))

-- so a refusal at the first record with a fault is at that record, and without one it is fine
module _ (image : List ℕ) (number : ℕ) (fault : ℕ → Bool) where
  pub refuse_at_record : {place : ℕ} → Some place ≡ first fault (record_count image) → refuse_at number fault (length (records image)) ≡ refusal number place
  refuse_at_record {place} found = rw (length-up_to (record_at image) (record_count image)) (refuse_at_first number fault (record_count image) place found)

  pub refuse_at_no_record : None ≡ first fault (record_count image) → refuse_at number fault (length (records image)) ≡ fine
  refuse_at_no_record found = rw (length-up_to (record_at image) (record_count image)) (refuse_at_no_first number fault (record_count image) found)
