-- Lists of records whose numbers rise: one list behind another, and the two parts of a patch.
use Prim.Native.Nat.{ℕ, zero, suc, ◌-◌, ◌<◌}
use mathlib.Core.List.{List, [], ◌∷◌, ◌++◌}
use mathlib.Core.Bool.{true, false}
use mathlib.Core.Path.{◌≡◌, sym, ◌∙◌}
use native.Mathlib.Omega.{arith}
use borrow.Author.Tests.{lt-leb, ltb-true, eqb-true}
use lib.ListN.{length, get_or, set}
use lib.Dec.{ltb, eqb}
use Rattle.rules.specs.Records.{way_of, key, image_key}
use Rattle.rules.specs.Patches.{has, taken_out, put_in}
use Rattle.rules.specs.Refusals.{order_wrong}
use Rattle.rules.proofs.Numbers.{either}
use Rattle.rules.proofs.Tests.{both_first}
use Rattle.rules.proofs.Table.Order.{Rises, rises_rest, rises_front}
use Rattle.rules.proofs.Patch.Members.{has_at, has_place, has-taken_out, put_in_from}
use Rattle.rules.proofs.Patch.Turned.{turned_key}
use Rattle.rules.proofs.Patch.Ways.{taken_out_ways}

-- the first record of a list that rises is below each of the others
pub first_below : (f : List ℕ → ℕ) (r : List ℕ) (rs : List (List ℕ)) → Rises f (r ∷ rs) → (s : List ℕ) → has rs s ≡ true → f r < f s
first_below f r rs rises s member =
    let (k, below, e) = has_place rs s member in
    rw (← e) (rises zero (suc k) (omega arith) (omega arith))

-- what holds of each record of two lists holds of each record of the one behind the other
pub append_each {ℓ} : (P : List ℕ → Type ℓ) (rs ss : List (List ℕ)) → ((k : ℕ) → k < length rs → P (get_or rs k []))
    → ((k : ℕ) → k < length ss → P (get_or ss k [])) → (k : ℕ) → k < length (rs ++ ss) → P (get_or (rs ++ ss) k [])
append_each P [] ss first second k l = second k l
append_each P (r ∷ rs) ss first second zero l = first zero (omega arith)
append_each P (r ∷ rs) ss first second (suc k) l = append_each P rs ss (λ j m. first (suc j) (omega arith)) second k (omega arith)

-- two lists that rise, the first below the second, rise one behind the other
pub rises_append : (f : List ℕ → ℕ) (rs ss : List (List ℕ)) → Rises f rs → Rises f ss
    → ((i j : ℕ) → i < length rs → j < length ss → f (get_or rs i []) < f (get_or ss j [])) → Rises f (rs ++ ss)
rises_append f [] ss first second across = second
rises_append f (r ∷ rs) ss first second across =
    rises_front f r (rs ++ ss)
    (rises_append f rs ss (rises_rest f r rs first) second (λ i j h l. across (suc i) j (omega arith) l))
    (append_each (λ s. f r < f s) rs ss (λ i l. first zero (suc i) (omega arith) (omega arith)) (λ j l. across zero j (omega arith) l))

-- in a list in the image's order no record is found out of order
pub rises_order : (rs : List (List ℕ)) → Rises image_key rs → (k : ℕ) → k < length rs → order_wrong rs k ≡ false
rises_order rs rises k l =
    either (ltb 0 k)
    (λ t.
    let some = ltb-true 0 k t in
    rw (t, lt-leb (image_key (get_or rs k [])) (image_key (get_or rs (k - 1) [])) (rises (k - 1) k (omega arith) l)))
    (λ t. rw t)

-- the records that a patch takes out stand in the patch
pub taken_stands : (ps : List (List ℕ)) (k : ℕ) → k < length (taken_out ps) → has ps (get_or (taken_out ps) k []) ≡ true
taken_stands ps k l =
    let r = get_or (taken_out ps) k [] in
    both_first (has ps r) (eqb (way_of r) 0) (sym (has-taken_out ps r) ∙ has_at (taken_out ps) k l)

-- where a patch is in order, what it takes out is in table order
pub taken_out_rises : (ps : List (List ℕ)) → Rises image_key ps → Rises key (taken_out ps)
unfolding taken_out
taken_out_rises [] rises = λ i j b l. absurd (omega arith)
taken_out_rises (p ∷ ps) rises =
    let rest = taken_out_rises ps (rises_rest image_key p ps rises) in
    either (eqb (way_of p) 0)
    (λ t.
    rw t
    (rises_front key p (taken_out ps) rest
    (λ i l.
    omega (arith, first_below image_key p ps rises (get_or (taken_out ps) i []) (taken_stands ps i l), eqb-true (way_of p) 0 t, taken_out_ways ps i l))))
    (λ t. rw t rest)

-- and so is what it puts in
pub put_in_rises : (ps : List (List ℕ)) → Rises image_key ps → Rises key (put_in ps)
unfolding put_in
put_in_rises [] rises = λ i j b l. absurd (omega arith)
put_in_rises (p ∷ ps) rises =
    let rest = put_in_rises ps (rises_rest image_key p ps rises) in
    either (eqb (way_of p) 1)
    (λ t.
    rw t
    (rises_front key (set p 31 0) (put_in ps) rest
    (λ i l.
    let (q, there, way, e) = put_in_from ps (get_or (put_in ps) i []) (has_at (put_in ps) i l) in
    rw (e, turned_key p 0, turned_key q 0) (omega (arith, first_below image_key p ps rises q there, eqb-true (way_of p) 1 t)))))
    (λ t. rw t rest)
