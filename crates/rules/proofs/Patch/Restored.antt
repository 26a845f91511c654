-- What is put in and taken out again leaves a list as it was, and so does what is taken out and put in again: so the outcome
-- of the reverse on the outcome is the base.
use Prim.Native.Nat.{ℕ}
use mathlib.Core.List.{List, [], ◌∷◌, foldr}
use mathlib.Core.Bool.{true, false, not, or-true}
use mathlib.Core.Path.{◌≡◌, refl, ap, sym, ◌∙◌}
use native.Mathlib.Omega.{arith}
use borrow.Author.Tests.{le-leb, lt-leb}
use lib.ListN.{get_or}
use lib.Dec.{leb}
use Rattle.rules.specs.Records.{key}
use Rattle.rules.specs.Patches.{same, has, taken_out, put_in, without, put, outcome}
use Rattle.rules.proofs.Numbers.{either, never}
use Rattle.rules.proofs.Tests.{both_first, neither_second}
use Rattle.rules.proofs.Table.Order.{Rises, rises_rest, rises_front}
use Rattle.rules.proofs.Patch.Members.{same_equal, same_other, same_sym, has_at, has-without, has-put, has_puts, has_first, has_more, put_front}
use Rattle.rules.proofs.Patch.Rising.{first_below}

-- a record of a list that is put in and taken out with that list
without-put : (out : List (List ℕ)) (r : List ℕ) (rs : List (List ℕ)) → has out r ≡ true → without out (put r rs) ≡ without out rs
unfolding without put
without-put out r [] h = rw h
without-put out r (s ∷ rs) h =
    either (leb (key r) (key s)) (λ t. rw (t, h)) (λ t. rw (t, without-put out r rs h))

-- and several of them
without_puts : (out rs ps : List (List ℕ)) → ((p : List ℕ) → has ps p ≡ true → has out p ≡ true) → without out (foldr put rs ps) ≡ without out rs
without_puts out rs [] among = refl
without_puts out rs (p ∷ ps) among =
    without-put out p (foldr put rs ps) (among p (has_first p ps))
    ∙ without_puts out rs ps (λ q h. among q (has_more p ps q h))

-- where a list has no record of another, it stays as it is without that
without-none : (out rs : List (List ℕ)) → ((r : List ℕ) → has rs r ≡ true → has out r ≡ false) → without out rs ≡ rs
unfolding without
without-none out [] apart = refl
without-none out (r ∷ rs) apart =
    rw (apart r (has_first r rs), without-none out rs (λ s h. apart s (has_more r rs s h)))

-- one record after another may be taken out
without_both : (p : List ℕ) (ps rs : List (List ℕ)) → without (p ∷ ps) rs ≡ without ps (without (p ∷ []) rs)
unfolding without has
without_both p ps [] = refl
without_both p ps (r ∷ rs) =
    either (same p r)
    (λ t. rw t (without_both p ps rs))
    (λ t. rw (t, without_both p ps rs))

-- the first record of a list that rises is not among the others
not_among : (r : List ℕ) (rs : List (List ℕ)) → Rises key (r ∷ rs) → has rs r ≡ false
not_among r rs rises =
    either (has rs r) (λ t. absurd (omega (arith, first_below key r rs rises r t))) (λ t. t)

-- a list that rises still rises without some records
without_rises : (out rs : List (List ℕ)) → Rises key rs → Rises key (without out rs)
unfolding without
without_rises out [] rises = rises
without_rises out (r ∷ rs) rises =
    let rest = without_rises out rs (rises_rest key r rs rises) in
    either (has out r)
    (λ t. rw t rest)
    (λ t.
    rw t
    (rises_front key r (without out rs) rest
    (λ i l.
    let s = get_or (without out rs) i [] in
    first_below key r rs rises s (both_first (has rs s) (not (has out s)) (sym (has-without out rs s) ∙ has_at (without out rs) i l)))))

-- a list that rises with a record put in rises without it
put_rises : (r : List ℕ) (rs : List (List ℕ)) → Rises key (put r rs) → Rises key rs
unfolding put
put_rises r [] rises = λ i j b l. absurd (omega arith)
put_rises r (s ∷ rs) rises =
    either (leb (key r) (key s))
    (λ t. rises_rest key r (s ∷ rs) (rw t at rises))
    (λ t.
    let all : Rises key (s ∷ put r rs) = rw t at rises in
    rises_front key s rs (put_rises r rs (rises_rest key s (put r rs) all))
    (λ i l.
    let there : has (put r rs) (get_or rs i []) ≡ true = has-put r rs (get_or rs i []) ∙ rw (has_at rs i l) (or-true (same r (get_or rs i []))) in
    first_below key s (put r rs) all (get_or rs i []) there))

-- and did not have it before
put_once : (r : List ℕ) (rs : List (List ℕ)) → Rises key (put r rs) → has rs r ≡ false
unfolding put has
put_once r [] rises = refl
put_once r (s ∷ rs) rises =
    either (leb (key r) (key s))
    (λ t. not_among r (s ∷ rs) (rw t at rises))
    (λ t.
    let other = same_other s r (λ e. never (leb (key r) (key s)) (le-leb (key r) (key s) (omega (arith, ap key e))) t) in
    rw (other, put_once r rs (rises_rest key s (put r rs) (rw t at rises))))

-- so where a list rises with records put in, it had none of them before
puts_apart : (rs ps : List (List ℕ)) → Rises key (foldr put rs ps) → (r : List ℕ) → has ps r ≡ true → has rs r ≡ false
unfolding has
puts_apart rs [] rises r h = never false h refl
puts_apart rs (p ∷ ps) rises r h =
    either (same p r)
    (λ t.
    let none : has (foldr put rs ps) r ≡ false = rw (← same_equal p r t) (put_once p (foldr put rs ps) rises) in
    neither_second (has ps r) (has rs r) (sym (has_puts rs ps r) ∙ none))
    (λ t. puts_apart rs ps (put_rises p (foldr put rs ps) rises) r (rw t at h))

-- a record of a list that rises, taken out and put in again
put_back : (r : List ℕ) (rs : List (List ℕ)) → Rises key rs → has rs r ≡ true → put r (without (r ∷ []) rs) ≡ rs
unfolding put without has
put_back r [] rises h = never false h refl
put_back r (s ∷ rs) rises h =
    either (same r s)
    (λ t.
    let e = same_equal r s t in
    let rest : without (r ∷ []) rs ≡ rs = without-none (r ∷ []) rs (λ q l. rw (same_other r q (λ o. never (has rs s) (rw (sym e ∙ o) l) (not_among s rs rises)))) in
    rw (t, rest, e) (put_front s rs (λ q l. omega (arith, first_below key s rs rises q l))))
    (λ t.
    let there : has rs r ≡ true = rw (same_sym s r, t) at h in
    rw (t, lt-leb (key r) (key s) (first_below key s rs rises r there), put_back r rs (rises_rest key s rs rises) there))

-- and several of them, which rise too
puts_back : (ps rs : List (List ℕ)) → Rises key ps → Rises key rs → ((p : List ℕ) → has ps p ≡ true → has rs p ≡ true)
    → foldr put (without ps rs) ps ≡ rs
unfolding has
puts_back [] rs order rises there = without-none [] rs (λ r h. refl)
puts_back (p ∷ ps) rs order rises there =
    let stays : (q : List ℕ) → has ps q ≡ true → has (without (p ∷ []) rs) q ≡ true = λ q h. has-without (p ∷ []) rs q ∙ rw (there q (has_more p ps q h), same_other p q (λ e. never (has ps p) (rw e h) (not_among p ps order))) in
    ap (λ (l : List (List ℕ)). put p (foldr put l ps)) (without_both p ps rs)
    ∙ ap (put p) (puts_back ps (without (p ∷ []) rs) (rises_rest key p ps order) (without_rises (p ∷ []) rs rises) stays)
    ∙ put_back p rs rises (there p (has_first p ps))

-- where the base is in table order, what the patch takes out stands in it and is in table order, and the outcome is a table in
-- order, another patch that takes out what this one puts in, and the other way round, leads back to the base
pub outcome-back : (base patch other : List (List ℕ)) → taken_out other ≡ put_in patch → put_in other ≡ taken_out patch
    → Rises key base → Rises key (taken_out patch) → ((p : List ℕ) → has (taken_out patch) p ≡ true → has base p ≡ true)
    → Rises key (outcome base patch) → outcome (outcome base patch) other ≡ base
outcome-back base patch other takes puts rises order there after =
    let kept = without (taken_out patch) base in
    let apart : (r : List ℕ) → has kept r ≡ true → has (put_in patch) r ≡ false = λ r h. either (has (put_in patch) r) (λ t. never (has kept r) h (puts_apart kept (put_in patch) after r t)) (λ t. t) in
    rw (takes, puts)
    (ap (λ (l : List (List ℕ)). foldr put l (taken_out patch))
    (without_puts (put_in patch) kept (put_in patch) (λ p h. h) ∙ without-none (put_in patch) kept apart)
    ∙ puts_back (taken_out patch) base order rises there)
