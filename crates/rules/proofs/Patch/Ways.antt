-- The two parts of a patch: which records are taken out, which are put in, how many there are of each kind, and that a patch is
-- the one part before the other.
use Prim.Native.Nat.{ℕ, zero, suc, ◌+◌, ◌≤◌, ◌<◌}
use mathlib.Core.List.{List, [], ◌∷◌, ◌++◌}
use mathlib.Core.Bool.{◌&&◌}
use mathlib.Core.Path.{◌≡◌, refl, ap, sym, ◌∙◌}
use native.Mathlib.Omega.{arith}
use borrow.Author.Tests.{eqb-true, eqb-false, eq-eqb, ne_eqb}
use lib.ListN.{length, get_or, set, length-append}
use lib.Seq.{set-set, set-get_or}
use lib.Dec.{eqb}
use Rattle.rules.specs.Numbers.{up_to, sum_to, count_to}
use Rattle.rules.specs.Records.{kind_of, way_of, of_kind, count_of}
use Rattle.rules.specs.Patches.{taken_out, put_in, with_way}
use Rattle.rules.proofs.Numbers.{either}
use Rattle.rules.proofs.Image.Parts.{Records}
use Rattle.rules.proofs.Table.Kinds.{of_kind-append, up_to_elements}
use Rattle.rules.proofs.Patch.Turned.{turned_kind, turned_way, way_within}

-- a record that is taken out, or put in, comes first in its part, and is left out of the other
module _ (r : List ℕ) (rs : List (List ℕ)) where
  pub taken_out_first : way_of r ≡ 0 → taken_out (r ∷ rs) ≡ r ∷ taken_out rs
  unfolding taken_out
  taken_out_first e = rw (eq-eqb (way_of r) 0 e)

  pub taken_out_other : way_of r ≡ 1 → taken_out (r ∷ rs) ≡ taken_out rs
  unfolding taken_out
  taken_out_other e = rw (ne_eqb (way_of r) 0 (λ o. omega arith))

  pub put_in_first : way_of r ≡ 1 → put_in (r ∷ rs) ≡ set r 31 0 ∷ put_in rs
  unfolding put_in
  put_in_first e = rw (eq-eqb (way_of r) 1 e)

  pub put_in_other : way_of r ≡ 0 → put_in (r ∷ rs) ≡ put_in rs
  unfolding put_in
  put_in_other e = rw (ne_eqb (way_of r) 1 (λ o. omega arith))

-- the parts of two lists, one behind the other
pub taken_out-append : (rs ss : List (List ℕ)) → taken_out (rs ++ ss) ≡ taken_out rs ++ taken_out ss
unfolding taken_out
taken_out-append [] ss = refl
taken_out-append (r ∷ rs) ss = either (eqb (way_of r) 0) (λ t. rw (t, taken_out-append rs ss)) (λ t. rw (t, taken_out-append rs ss))

pub put_in-append : (rs ss : List (List ℕ)) → put_in (rs ++ ss) ≡ put_in rs ++ put_in ss
unfolding put_in
put_in-append [] ss = refl
put_in-append (r ∷ rs) ss = either (eqb (way_of r) 1) (λ t. rw (t, put_in-append rs ss)) (λ t. rw (t, put_in-append rs ss))

pub with_way-append : (way : ℕ) (rs ss : List (List ℕ)) → with_way way (rs ++ ss) ≡ with_way way rs ++ with_way way ss
unfolding with_way
with_way-append way [] ss = refl
with_way-append way (r ∷ rs) ss = rw (with_way-append way rs ss)

-- with another byte 31 there are as many records
pub length-with_way : (way : ℕ) (rs : List (List ℕ)) → length (with_way way rs) ≡ length rs
unfolding with_way
length-with_way way [] = refl
length-with_way way (r ∷ rs) = ap suc (length-with_way way rs)

-- record k is the one at the same place
pub with_way_at : (way : ℕ) (rs : List (List ℕ)) (k : ℕ) → k < length rs → get_or (with_way way rs) k [] ≡ set (get_or rs k []) 31 way
unfolding with_way
with_way_at way [] k l = absurd (omega arith)
with_way_at way (r ∷ rs) zero l = refl
with_way_at way (r ∷ rs) (suc k) l = with_way_at way rs k (omega arith)

-- and of byte 31 the last that is written counts
pub with_way_again : (way other : ℕ) (rs : List (List ℕ)) → with_way way (with_way other rs) ≡ with_way way rs
unfolding with_way
with_way_again way other [] = refl
with_way_again way other (r ∷ rs) = rw (set-set r 31 other way, with_way_again way other rs)

-- where byte 31 is this one throughout, nothing is changed
pub with_way-same : (way : ℕ) (rs : List (List ℕ)) → ((k : ℕ) → k < length rs → way_of (get_or rs k []) ≡ way) → with_way way rs ≡ rs
unfolding with_way
with_way-same way [] ways = refl
with_way-same way (r ∷ rs) ways =
    let first : set r 31 way ≡ r = ap (set r 31) (sym (ways zero (omega arith))) ∙ set-get_or r 31 0 in
    rw (first, with_way-same way rs (λ k l. ways (suc k) (omega arith)))

-- where each record is taken out, the first part is all
pub all_taken_out : (rs : List (List ℕ)) → ((k : ℕ) → k < length rs → way_of (get_or rs k []) ≡ 0) → taken_out rs ≡ rs
unfolding taken_out
all_taken_out [] ways = refl
all_taken_out (r ∷ rs) ways =
    taken_out_first r rs (ways zero (omega arith)) ∙ rw (all_taken_out rs (λ k l. ways (suc k) (omega arith)))

-- and the second has none
pub none-put_in : (rs : List (List ℕ)) → ((k : ℕ) → k < length rs → way_of (get_or rs k []) ≡ 0) → put_in rs ≡ []
unfolding put_in
none-put_in [] ways = refl
none-put_in (r ∷ rs) ways =
    put_in_other r rs (ways zero (omega arith)) ∙ none-put_in rs (λ k l. ways (suc k) (omega arith))

-- where each record is put in, the first part has none
pub none-taken_out : (rs : List (List ℕ)) → ((k : ℕ) → k < length rs → way_of (get_or rs k []) ≡ 1) → taken_out rs ≡ []
unfolding taken_out
none-taken_out [] ways = refl
none-taken_out (r ∷ rs) ways =
    taken_out_other r rs (ways zero (omega arith)) ∙ none-taken_out rs (λ k l. ways (suc k) (omega arith))

-- and the second is all, with byte 31 at 0
pub all_put_in : (rs : List (List ℕ)) → ((k : ℕ) → k < length rs → way_of (get_or rs k []) ≡ 1) → put_in rs ≡ with_way 0 rs
unfolding put_in with_way
all_put_in [] ways = refl
all_put_in (r ∷ rs) ways =
    put_in_first r rs (ways zero (omega arith)) ∙ rw (all_put_in rs (λ k l. ways (suc k) (omega arith)))

-- of records of 32 bytes with another byte 31, each has that one
pub with_way_ways : (way : ℕ) (rs : List (List ℕ)) → Records rs → (k : ℕ) → k < length (with_way way rs) → way_of (get_or (with_way way rs) k []) ≡ way
with_way_ways way rs sized k l =
    let inside : k < length rs = rw length-with_way at l in
    ap way_of (with_way_at way rs k inside) ∙ turned_way (get_or rs k []) way (omega (arith, sized k inside))

-- byte 31 is 0 in each record of the first part
pub taken_out_ways : (rs : List (List ℕ)) (k : ℕ) → k < length (taken_out rs) → way_of (get_or (taken_out rs) k []) ≡ 0
unfolding taken_out
taken_out_ways [] k l = absurd (omega arith)
taken_out_ways (r ∷ rs) zero l =
    either (eqb (way_of r) 0)
    (λ t. rw t (eqb-true (way_of r) 0 t))
    (λ t. rw t (taken_out_ways rs zero (rw t at l)))
taken_out_ways (r ∷ rs) (suc k) l =
    either (eqb (way_of r) 0)
    (λ t. rw t (taken_out_ways rs k (omega (arith, rw t at l))))
    (λ t. rw t (taken_out_ways rs (suc k) (rw t at l)))

-- and in each of the second, as it is put into a table
pub put_in_ways : (rs : List (List ℕ)) (k : ℕ) → k < length (put_in rs) → way_of (get_or (put_in rs) k []) ≡ 0
unfolding put_in
put_in_ways [] k l = absurd (omega arith)
put_in_ways (r ∷ rs) zero l =
    either (eqb (way_of r) 1)
    (λ t. rw t (omega (arith, way_within r 0)))
    (λ t. rw t (put_in_ways rs zero (rw t at l)))
put_in_ways (r ∷ rs) (suc k) l =
    either (eqb (way_of r) 1)
    (λ t. rw t (put_in_ways rs k (omega (arith, rw t at l))))
    (λ t. rw t (put_in_ways rs (suc k) (rw t at l)))

-- where each record is taken out or put in, both parts together have as many records as the list
pub length_parts : (rs : List (List ℕ)) → ((k : ℕ) → k < length rs → way_of (get_or rs k []) ≤ 1) → length (put_in rs) + length (taken_out rs) ≡ length rs
unfolding taken_out put_in
length_parts [] ways = refl
length_parts (r ∷ rs) ways =
    let rest = length_parts rs (λ k l. ways (suc k) (omega arith)) in
    either (eqb (way_of r) 0)
    (λ t.
    let e = eqb-true (way_of r) 0 t in
    rw (taken_out_first r rs e, put_in_other r rs e) (omega arith))
    (λ t.
    let e : way_of r ≡ 1 = omega (arith, eqb-false (way_of r) 0 t, ways zero (omega arith)) in
    rw (taken_out_other r rs e, put_in_first r rs e) (omega arith))

-- how many of f 0, .., f (n - 1) are of one kind and taken out
taken_up_to : (k : ℕ) (f : ℕ → List ℕ) (n : ℕ)
    → length (of_kind k (taken_out (up_to f n))) ≡ count_to (λ i. eqb (kind_of (f i)) k && eqb (way_of (f i)) 0) n
unfolding of_kind taken_out up_to sum_to
taken_up_to k f zero = refl
taken_up_to k f (suc n) =
    rw (taken_out-append, of_kind-append, length-append, taken_up_to k f n)
    (either (eqb (way_of (f n)) 0)
    (λ t. rw t (either (eqb (kind_of (f n)) k) (λ u. rw u) (λ u. rw u)))
    (λ t. rw t (either (eqb (kind_of (f n)) k) (λ u. rw u) (λ u. rw u))))

-- or put in
put-up_to : (k : ℕ) (f : ℕ → List ℕ) (n : ℕ)
    → length (of_kind k (put_in (up_to f n))) ≡ count_to (λ i. eqb (kind_of (f i)) k && eqb (way_of (f i)) 1) n
unfolding of_kind put_in up_to sum_to
put-up_to k f zero = refl
put-up_to k f (suc n) =
    rw (put_in-append, of_kind-append, length-append, put-up_to k f n)
    (either (eqb (way_of (f n)) 1)
    (λ t. rw (t, turned_kind (f n) 0) (either (eqb (kind_of (f n)) k) (λ u. rw u) (λ u. rw u)))
    (λ t. rw t (either (eqb (kind_of (f n)) k) (λ u. rw u) (λ u. rw u))))

-- so what refusal 7 counts of a kind is how many of that kind are in each part
pub count_taken : (k : ℕ) (rs : List (List ℕ)) → count_of k 0 rs ≡ length (of_kind k (taken_out rs))
count_taken k rs =
    sym (taken_up_to k (λ i. get_or rs i []) (length rs)) ∙ ap (λ (l : List (List ℕ)). length (of_kind k (taken_out l))) (up_to_elements [] rs)

pub count-put : (k : ℕ) (rs : List (List ℕ)) → count_of k 1 rs ≡ length (of_kind k (put_in rs))
count-put k rs =
    sym (put-up_to k (λ i. get_or rs i []) (length rs)) ∙ ap (λ (l : List (List ℕ)). length (of_kind k (put_in l))) (up_to_elements [] rs)
