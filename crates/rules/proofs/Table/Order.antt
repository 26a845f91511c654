-- Table order: what a rising key says of kinds and numbers.
use Prim.Native.Nat.{ℕ, zero, suc, ◌-◌, ◌≤◌, ◌<◌}
use mathlib.Core.List.{List, [], ◌∷◌}
use mathlib.Core.Bool.{true, false, cond}
use mathlib.Core.Path.{◌≡◌, sym, ◌∙◌}
use native.Mathlib.Omega.{arith}
use borrow.Author.Tests.{eqb-true, ne_eqb, lt-ltb, ltb-true, ltb-false, leb-false}
use lib.ListN.{length, get_or}
use lib.Dec.{eqb, ltb}
use Rattle.rules.specs.Numbers.{Bytes}
use Rattle.rules.specs.Records.{kind_of, number_of, second_of, key, image_key, of_kind}
use Rattle.rules.specs.Refusals.{order_wrong}
use Rattle.rules.proofs.Numbers.{either}
use Rattle.rules.proofs.Table.Ranges.{le2_small}
use Rattle.rules.proofs.Table.Kinds.{kind_of_kind, of_kind_each}

-- a number of the records rises strictly from each to every later one
abbrev pub Rises : (List ℕ → ℕ) → List (List ℕ) → Type 0
Rises f rs = (i j : ℕ) → i < j → j < length rs → f (get_or rs i []) < f (get_or rs j [])

-- a number that rises from each record to the next rises
pub rises_of_next : (f : List ℕ → ℕ) (rs : List (List ℕ))
    → ((k : ℕ) → 0 < k → k < length rs → f (get_or rs (k - 1) []) < f (get_or rs k [])) → Rises f rs
rises_of_next f rs next i zero below l = absurd (omega arith)
rises_of_next f rs next i (suc j) below l =
    let before : suc j - 1 ≡ j = omega arith in
    let step : f (get_or rs j []) < f (get_or rs (suc j) []) = rw before at (next (suc j) (omega arith) l) in
    either (ltb i j)
    (λ t. omega (arith, rises_of_next f rs next i j (ltb-true i j t) (omega arith)))
    (λ t.
    let e : i ≡ j = omega (arith, ltb-false i j t) in
    rw e step)

-- what rises is different in any two records
pub rises_apart : (f : List ℕ → ℕ) (rs : List (List ℕ)) → Rises f rs → (i j : ℕ) → i < length rs → j < length rs
    → f (get_or rs i []) ≡ f (get_or rs j []) → i ≡ j
rises_apart f rs rises i j li lj same =
    either (ltb i j)
    (λ t. absurd (omega (arith, rises i j (ltb-true i j t) lj)))
    (λ t.
    either (ltb j i)
    (λ u. absurd (omega (arith, rises j i (ltb-true j i u) li)))
    (λ u. omega (arith, ltb-false i j t, ltb-false j i u)))

-- so where the numbers rise, at most one record has a number
pub one_with : (rs : List (List ℕ)) → Rises number_of rs → (x i j : ℕ) → i < length rs → j < length rs
    → eqb x (number_of (get_or rs i [])) ≡ true → eqb x (number_of (get_or rs j [])) ≡ true → i ≡ j
one_with rs rises x i j li lj here there =
    rises_apart number_of rs rises i j li lj
    (sym (eqb-true x (number_of (get_or rs i [])) here) ∙ eqb-true x (number_of (get_or rs j [])) there)

-- a record that is not found out of order comes after the one before it
pub order_right : (rs : List (List ℕ)) (k : ℕ) → order_wrong rs k ≡ false → 0 < k
    → image_key (get_or rs (k - 1) []) < image_key (get_or rs k [])
order_right rs k h some =
    leb-false (image_key (get_or rs k [])) (image_key (get_or rs (k - 1) [])) (rw (lt-ltb 0 k some) at h)

-- the last part of a key is a number of two bytes, or 0
last_part : (r : List ℕ) → Bytes r → cond (eqb (kind_of r) 3) (second_of r) 0 < 65536
last_part r bytes = either (eqb (kind_of r) 3) (λ t. rw t (le2_small r bytes 4)) (λ t. rw t (omega arith))

-- a higher key is not of a lower kind
pub kind_rises : (r s : List ℕ) → Bytes s → key r < key s → kind_of r ≤ kind_of s
kind_rises r s bytes h = omega (arith, last_part s bytes, le2_small s bytes 2)

-- of two records of one kind other than pairs, a higher key is a higher number
pub number_rises : (r s : List ℕ) (k : ℕ) → kind_of r ≡ k → kind_of s ≡ k → k < 3 → key r < key s → number_of r < number_of s
number_rises r s k e e' other h = omega (arith, simp (ne_eqb (kind_of r) 3 (λ o. omega arith), ne_eqb (kind_of s) 3 (λ o. omega arith)) at h)

-- what rises in a list rises in the list behind its first record
pub rises_rest : (f : List ℕ → ℕ) (r : List ℕ) (rs : List (List ℕ)) → Rises f (r ∷ rs) → Rises f rs
rises_rest f r rs rises i j b l = rises (suc i) (suc j) (omega arith) (omega arith)

-- a list that rises still rises behind a record that is below each of its records
pub rises_front : (f : List ℕ → ℕ) (r : List ℕ) (rs : List (List ℕ)) → Rises f rs
    → ((i : ℕ) → i < length rs → f r < f (get_or rs i [])) → Rises f (r ∷ rs)
rises_front f r rs rises above i zero b l = absurd (omega arith)
rises_front f r rs rises above zero (suc j) b l = above j (omega arith)
rises_front f r rs rises above (suc i) (suc j) b l = rises i j (omega arith) (omega arith)

-- what rises in a list rises in its records of one kind
pub of_kind_rises : (f : List ℕ → ℕ) (k : ℕ) (rs : List (List ℕ)) → Rises f rs → Rises f (of_kind k rs)
unfolding of_kind
of_kind_rises f k [] rises = rises
of_kind_rises f k (r ∷ rs) rises =
    let rest = of_kind_rises f k rs (rises_rest f r rs rises) in
    either (eqb (kind_of r) k)
    (λ t.
    rw t
    (rises_front f r (of_kind k rs) rest
    (of_kind_each (λ s. f r < f s) k rs (λ i l. rises zero (suc i) (omega arith) (omega arith)))))
    (λ t. rw t rest)

-- so where the keys rise, the numbers of the records of one kind other than pairs rise
pub numbers_rise : (k : ℕ) (rs : List (List ℕ)) → k < 3 → Rises key rs → Rises number_of (of_kind k rs)
numbers_rise k rs other rises i j b l =
    number_rises (get_or (of_kind k rs) i []) (get_or (of_kind k rs) j []) k (kind_of_kind k rs i (omega arith)) (kind_of_kind k rs j l) other
    (of_kind_rises key k rs rises i j b l)
