-- The count of records met in turn, one record further: the record of an image is that of the list of its records.
use Prim.Native.Nat.{ℕ, zero, suc, ◌+◌, ◌-◌, ◌*◌, ◌≤◌, ◌<◌, ◌^◌}
use mathlib.Core.List.{List, [], ◌∷◌}
use mathlib.Core.Bool.{cond, ◌&&◌}
use mathlib.Core.Path.{◌≡◌, refl, ap, sym, ◌∙◌}
use native.Mathlib.Numerals.{add-one}
use native.Mathlib.Omega.{arith}
use borrow.Author.Tests.{lt-ltb, le-ltb}
use lib.Dec.{ltb}
use lib.ListN.{length, get_or, take, drop, drop_of_length-le}
use lib.Seq.{take-length}
use Rattle.std.proofs.lemmas.List.{drop_more}
use Rattle.std.proofs.Common.{nat_eq}
use Rattle.std.specs.Cmp.Lexicographic.{pointwise}
use Rattle.rules.specs.Numbers.{up_to}
use Rattle.rules.specs.Blocks.{record_at, record_count, records, block_count}
use Rattle.rules.specs.Patches.{same}
use Rattle.rules.proofs.Numbers.{either, length-up_to, get_or-up_to}
use Rattle.image.specs.InTurn.{records_left, past, met_among}

-- a usize holds the number of records of an image whose length it holds
pub count_fits : (image : List ℕ) → length image < 2 ^ 64 → ((i : ℕ) → get_or image i 0 < 256) → record_count image < 2 ^ 64
count_fits image short bytes = omega (arith, bytes (512 * (block_count image - 1) + 4))

module _ (image fields : List ℕ) (k : ℕ) where
  -- past the last record the number stays
  pub past_last : record_count image ≤ k → past (records image) fields k ≡ k
  unfolding past
  past_last h = rw (length-up_to (record_at image) (record_count image), le-ltb k (record_count image) h)

  -- before that it counts up where the image's record is these bytes
  pub past_inside : k < record_count image → past (records image) fields k ≡ cond (same (record_at image k) fields) (k + 1) k
  unfolding past
  past_inside h = rw (length-up_to (record_at image) (record_count image), lt-ltb k (record_count image) h, get_or-up_to (record_at image) (record_count image) k [] h)

-- the number counts up by at most one
pub past_le : (rs : List (List ℕ)) (r : List ℕ) (k : ℕ) → past rs r k ≤ k + 1
unfolding past
past_le rs r k = either (ltb k (length rs) && same (get_or rs k []) r) (λ t. rw t (omega arith)) (λ t. rw t (omega arith))

-- so at most as many are met as were passed
pub met_le : (rs ps : List (List ℕ)) (n : ℕ) → met_among rs ps n ≤ n
unfolding met_among
met_le rs ps zero = omega arith
met_le rs ps (suc n) = omega (arith, past_le ps (get_or rs n []) (met_among rs ps n), met_le rs ps n)

-- how many records are met where so many were, and these are left
abbrev pub met_from : List (List ℕ) → List (List ℕ) → ℕ → ℕ
met_from ps [] met = met
met_from ps (r ∷ rs) met = met_from ps rs (past ps r met)

-- past the first k records those from k on are left
met_behind : (rs ps : List (List ℕ)) (rest k : ℕ) → rest + k ≡ length rs → met_from ps (drop k rs) (met_among rs ps k) ≡ met_among rs ps (length rs)
unfolding met_among
met_behind rs ps zero k e =
    let all : k ≡ length rs = omega arith in
    rw (drop_of_length-le rs {i = k} (omega arith)) (ap (met_among rs ps) all)
met_behind rs ps (suc rest) k e =
    let more : met_among rs ps (k + 1) ≡ past ps (get_or rs k []) (met_among rs ps k) = rw add-one in
    rw (drop_more rs k [] (omega arith)) (ap (met_from ps (drop (k + 1) rs)) (sym more) ∙ met_behind rs ps rest (k + 1) (omega arith))

module _ (image other : List ℕ) where
  -- before the first record all are left
  pub met_before : met_from (records other) (records image) 0 ≡ met_among (records image) (records other) (record_count image)
  unfolding met_among
  met_before =
      met_behind (records image) (records other) (length (records image)) 0 (omega arith)
      ∙ ap (met_among (records image) (records other)) (length-up_to (record_at image) (record_count image))

-- what is left of an image's records, one record further and at the end
module _ (image : List ℕ) (next count : ℕ) where
  -- the next record comes first
  pub left_more : next < count → records_left image next count ≡ record_at image next ∷ records_left image (next + 1) count
  left_more inside =
      drop_more (up_to (record_at image) count) next [] (omega (arith, length-up_to (record_at image) count))
      ∙ rw (get_or-up_to (record_at image) count next [] inside)

  -- at the end none is left
  pub left_none : count ≤ next → records_left image next count ≡ []
  left_none past = drop_of_length-le (up_to (record_at image) count) {i = next} (omega (arith, length-up_to (record_at image) count))

-- two lists of the same bytes, as `==` finds them
pub equal_same : (r s : List ℕ) → pointwise nat_eq r s ≡ same r s
unfolding same
equal_same [] [] = refl
equal_same [] (b ∷ s) = refl
equal_same (a ∷ r) [] = refl
equal_same (a ∷ r) (b ∷ s) = rw (equal_same r s)

-- and so where all that each has is taken
pub whole_same : (r s : List ℕ) (m n : ℕ) → m ≡ length r → n ≡ length s → pointwise nat_eq (take m r) (take n s) ≡ same r s
whole_same r s m n all whole = rw (all, whole, take-length r, take-length s) (equal_same r s)
