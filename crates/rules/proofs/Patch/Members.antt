-- Which records stand in a list: those of a part taken out, of a record put in, of one kind, and of the outcome of a patch.
use Prim.Native.Nat.{ℕ, zero, suc, ◌≤◌, ◌<◌}
use mathlib.Core.List.{List, [], ◌∷◌, foldr}
use mathlib.Core.Bool.{true, false, ◌&&◌, ◌||◌, not, or-true}
use mathlib.Core.Path.{◌≡◌, refl, sym, ◌∙◌}
use native.Mathlib.Omega.{arith}
use borrow.Author.Tests.{eqb-true, eq-eqb, le-leb}
use lib.ListN.{length, get_or, set}
use lib.Dec.{eqb, leb}
use Rattle.rules.specs.Records.{kind_of, way_of, key, of_kind}
use Rattle.rules.specs.Patches.{same, has, taken_out, put_in, without, put, outcome}
use Rattle.rules.proofs.Numbers.{either, never}
use Rattle.rules.proofs.Tests.{both_first, both_second}

-- a list has the same bytes as itself
pub same_refl : (r : List ℕ) → same r r ≡ true
unfolding same
same_refl [] = refl
same_refl (a ∷ r) = rw (eq-eqb a a refl, same_refl r)

-- lists of the same bytes are equal
pub same_equal : (r s : List ℕ) → same r s ≡ true → r ≡ s
unfolding same
same_equal [] [] h = refl
same_equal [] (b ∷ s) h = never false h refl
same_equal (a ∷ r) [] h = never false h refl
same_equal (a ∷ r) (b ∷ s) h =
    rw (eqb-true a b (both_first (eqb a b) (same r s) h), same_equal r s (both_second (eqb a b) (same r s) h))

-- and lists that are not equal have not the same bytes
pub same_other : (r s : List ℕ) → (r ≡ s → ⊥) → same r s ≡ false
same_other r s other = either (same r s) (λ t. absurd (other (same_equal r s t))) (λ t. t)

-- the order of two lists does not matter
pub same_sym : (r s : List ℕ) → same r s ≡ same s r
same_sym r s =
    either (same r s)
    (λ t. t ∙ sym (rw (same_equal r s t) (same_refl s)))
    (λ t. t ∙ sym (same_other s r (λ e. never (same r s) (rw e (same_refl r)) t)))

-- the first record of a list stands in it
pub has_first : (r : List ℕ) (rs : List (List ℕ)) → has (r ∷ rs) r ≡ true
unfolding has
has_first r rs = rw (same_refl r)

-- and so do those behind it
pub has_more : (s : List ℕ) (rs : List (List ℕ)) (r : List ℕ) → has rs r ≡ true → has (s ∷ rs) r ≡ true
unfolding has
has_more s rs r h = rw h (or-true (same s r))

-- a record is put in front of records that are not below it
pub put_front : (r : List ℕ) (rs : List (List ℕ)) → ((s : List ℕ) → has rs s ≡ true → key r ≤ key s) → put r rs ≡ r ∷ rs
unfolding put
put_front r [] least = refl
put_front r (s ∷ rs) least = rw (le-leb (key r) (key s) (least s (has_first s rs)))

-- a record of a list stands in it
pub has_at : (rs : List (List ℕ)) (k : ℕ) → k < length rs → has rs (get_or rs k []) ≡ true
unfolding has
has_at [] k h = absurd (omega arith)
has_at (r ∷ rs) zero h = rw (same_refl r)
has_at (r ∷ rs) (suc k) h =
    either (same r (get_or rs k [])) (λ t. rw t) (λ t. rw (t, has_at rs k (omega arith)))

-- and a record that stands in a list has a place there
pub has_place : (rs : List (List ℕ)) (r : List ℕ) → has rs r ≡ true → (k : ℕ) × (k < length rs) × (get_or rs k [] ≡ r)
unfolding has
has_place [] r h = never false h refl
has_place (s ∷ rs) r h =
    either (same s r)
    (λ t. (zero, omega arith, same_equal s r t))
    (λ t.
    let there = has_place rs r (rw t at h) in
    (suc there.0, omega (arith, there.1), there.2))

-- without the records of another list, those stay that are not in it
pub has-without : (out rs : List (List ℕ)) (r : List ℕ) → has (without out rs) r ≡ (has rs r && not (has out r))
unfolding has without
has-without out [] r = refl
has-without out (s ∷ rs) r =
    either (has out s)
    (λ t.
    rw (t, has-without out rs r)
    (either (same s r)
    (λ u. rw (u, ← same_equal s r u, t) (either (has rs s) (λ v. rw v) (λ v. rw v)))
    (λ u. rw u)))
    (λ t.
    rw (t, has-without out rs r)
    (either (same s r) (λ u. rw (u, ← same_equal s r u, t)) (λ u. rw u)))

-- a record put into a list stands there besides those that did
pub has-put : (s : List ℕ) (rs : List (List ℕ)) (r : List ℕ) → has (put s rs) r ≡ (same s r || has rs r)
unfolding has put
has-put s [] r = refl
has-put s (t ∷ rs) r =
    either (leb (key s) (key t))
    (λ u. rw u)
    (λ u.
    rw (u, has-put s rs r) (either (same t r) (λ v. rw v (either (same s r) (λ w. rw w) (λ w. rw w))) (λ v. rw v)))

-- and so do several
pub has_puts : (rs ps : List (List ℕ)) (r : List ℕ) → has (foldr put rs ps) r ≡ (has ps r || has rs r)
unfolding has
has_puts rs [] r = refl
has_puts rs (p ∷ ps) r =
    has-put p (foldr put rs ps) r ∙ rw (has_puts rs ps r) (either (same p r) (λ t. rw t) (λ t. rw t))

-- a record of the outcome was put in, or stands in the base and was not taken out
pub has-outcome : (base patch : List (List ℕ)) (r : List ℕ)
    → has (outcome base patch) r ≡ (has (put_in patch) r || (has base r && not (has (taken_out patch) r)))
has-outcome base patch r =
    has_puts (without (taken_out patch) base) (put_in patch) r ∙ rw (has-without (taken_out patch) base r)

-- the records of one kind
pub has-of_kind : (k : ℕ) (rs : List (List ℕ)) (r : List ℕ) → has (of_kind k rs) r ≡ (has rs r && eqb (kind_of r) k)
unfolding has of_kind
has-of_kind k [] r = refl
has-of_kind k (s ∷ rs) r =
    either (eqb (kind_of s) k)
    (λ t. rw (t, has-of_kind k rs r) (either (same s r) (λ u. rw (u, ← same_equal s r u, t)) (λ u. rw u)))
    (λ t.
    rw (t, has-of_kind k rs r)
    (either (same s r)
    (λ u. rw (u, ← same_equal s r u, t) (either (has rs s) (λ v. rw v) (λ v. rw v)))
    (λ u. rw u)))

-- a record of one kind that stands in a list stands among its records of that kind
pub has_among_kind : (k : ℕ) (rs : List (List ℕ)) (r : List ℕ) → kind_of r ≡ k → has rs r ≡ true → has (of_kind k rs) r ≡ true
has_among_kind k rs r kind h = has-of_kind k rs r ∙ rw (h, eq-eqb (kind_of r) k kind)

-- and each of those stands in the list
pub has_kind_at : (k : ℕ) (rs : List (List ℕ)) (i : ℕ) → i < length (of_kind k rs) → has rs (get_or (of_kind k rs) i []) ≡ true
has_kind_at k rs i h =
    let r = get_or (of_kind k rs) i [] in
    both_first (has rs r) (eqb (kind_of r) k) (sym (has-of_kind k rs r) ∙ has_at (of_kind k rs) i h)

-- the records that a patch takes out
pub has-taken_out : (ps : List (List ℕ)) (r : List ℕ) → has (taken_out ps) r ≡ (has ps r && eqb (way_of r) 0)
unfolding has taken_out
has-taken_out [] r = refl
has-taken_out (s ∷ ps) r =
    either (eqb (way_of s) 0)
    (λ t. rw (t, has-taken_out ps r) (either (same s r) (λ u. rw (u, ← same_equal s r u, t)) (λ u. rw u)))
    (λ t.
    rw (t, has-taken_out ps r)
    (either (same s r)
    (λ u. rw (u, ← same_equal s r u, t) (either (has ps s) (λ v. rw v) (λ v. rw v)))
    (λ u. rw u)))

-- a record that a patch puts in stands in the outcome with byte 31 at 0
pub put_in-has : (ps : List (List ℕ)) (p : List ℕ) → has ps p ≡ true → way_of p ≡ 1 → has (put_in ps) (set p 31 0) ≡ true
unfolding has put_in
put_in-has [] p h way = h
put_in-has (s ∷ ps) p h way =
    either (same s p)
    (λ t. rw (same_equal s p t, eq-eqb (way_of p) 1 way, same_refl (set p 31 0)))
    (λ t.
    either (eqb (way_of s) 1)
    (λ u.
    rw (u, put_in-has ps p (rw t at h) way) (either (same (set s 31 0) (set p 31 0)) (λ v. rw v) (λ v. rw v)))
    (λ u. rw (u, put_in-has ps p (rw t at h) way)))

-- and each record put in comes from such a record of the patch
pub put_in_from : (ps : List (List ℕ)) (r : List ℕ) → has (put_in ps) r ≡ true
    → (p : List ℕ) × (has ps p ≡ true) × (way_of p ≡ 1) × (r ≡ set p 31 0)
unfolding has put_in
put_in_from [] r h = never false h refl
put_in_from (s ∷ ps) r h =
    let later : has (put_in ps) r ≡ true → (p : List ℕ) × (has (s ∷ ps) p ≡ true) × (way_of p ≡ 1) × (r ≡ set p 31 0) = λ h'. let there = put_in_from ps r h' in (there.0, rw there.1 (either (same s there.0) (λ v. rw v) (λ v. rw v)), there.2, there.3) in
    either (eqb (way_of s) 1)
    (λ t.
    either (same (set s 31 0) r)
    (λ u. (s, rw (same_refl s), eqb-true (way_of s) 1 t, sym (same_equal (set s 31 0) r u)))
    (λ u. later (rw (t, u) at h)))
    (λ t. later (rw t at h))

-- what holds of each record of a list holds of a record that stands in it
pub has_each {ℓ} : (P : List ℕ → Type ℓ) (rs : List (List ℕ)) → ((k : ℕ) → k < length rs → P (get_or rs k []))
    → (r : List ℕ) → has rs r ≡ true → P r
has_each P rs each r h = let (k, below, e) = has_place rs r h in rw (← e) (each k below)

-- a record of the outcome was put in, or stands in the base
pub outcome_from {ℓ} : (P : List ℕ → Type ℓ) (base patch : List (List ℕ)) (r : List ℕ)
    → (has base r ≡ true → P r)
    → ((p : List ℕ) → has patch p ≡ true → way_of p ≡ 1 → P (set p 31 0))
    → has (outcome base patch) r ≡ true → P r
outcome_from P base patch r stands puts h =
    either (has (put_in patch) r)
    (λ t. let (p, there, way, e) = put_in_from patch r t in rw e (puts p there way))
    (λ t. stands (both_first (has base r) (not (has (taken_out patch) r)) (rw t at (sym (has-outcome base patch r) ∙ h))))

-- what holds of each record of the base, and of each that is put in, holds of each record of the outcome
pub outcome_each {ℓ} : (P : List ℕ → Type ℓ) (base patch : List (List ℕ))
    → ((k : ℕ) → k < length base → P (get_or base k []))
    → ((p : List ℕ) → has patch p ≡ true → way_of p ≡ 1 → P (set p 31 0))
    → (k : ℕ) → k < length (outcome base patch) → P (get_or (outcome base patch) k [])
outcome_each P base patch stand puts k h =
    outcome_from P base patch (get_or (outcome base patch) k []) (has_each P base stand (get_or (outcome base patch) k [])) puts
    (has_at (outcome base patch) k h)
