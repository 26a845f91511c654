-- Which of two lists of tasks is shown: the heavier, and among equals the one whose ids come first.
use Prim.Native.Nat.{ℕ, zero, suc, ◌+◌, ◌≤◌, ◌<◌}
use mathlib.Core.List.{List, [], ◌∷◌, map}
use mathlib.Core.Bool.{Bool, true, false, cond, ◌&&◌, ◌||◌}
use mathlib.Core.Path.{◌≡◌, refl, sym}
use native.Mathlib.Omega.{arith}
use borrow.Author.Tests.{ltb-true, ltb-false, lt-ltb, le-ltb, eqb-true, eqb-false, eq-eqb}
use lib.Dec.{ltb, eqb}
use Rattle.rules.specs.Chains.{weight, Before}
use Rattle.rules.specs.Chains.Before.{less, later, shorter}
use Rattle.rules.proofs.Numbers.{either, never}

-- x is below y, or equal to it and then the test decides
abbrev pub ahead : ℕ → ℕ → Bool → Bool
ahead x y test = ltb x y || (eqb x y && test)

-- a lower number is ahead
pub ahead_less : (x y : ℕ) (test : Bool) → x < y → ahead x y test ≡ true
ahead_less x y test h = rw (lt-ltb x y h)

-- an equal one is where the test passes
pub ahead_same : (x y : ℕ) (test : Bool) → x ≡ y → test ≡ true → ahead x y test ≡ true
ahead_same x y test e t = rw (le-ltb x y (omega arith), eq-eqb x y e) t

-- and only in these two ways
pub ahead_cases {ℓ} : {A : Type ℓ} (x y : ℕ) (test : Bool) → ahead x y test ≡ true → (x < y → A) → (x ≡ y → test ≡ true → A) → A
ahead_cases x y test h lower equal =
    either (ltb x y)
    (λ l. lower (ltb-true x y l))
    (λ l.
    either (eqb x y)
    (λ e. equal (eqb-true x y e) (rw (l, e) at h))
    (λ e. never false (rw (l, e) at h) refl))

-- the same of a number that is not ahead
pub behind_cases {ℓ} : {A : Type ℓ} (x y : ℕ) (test : Bool) → ahead x y test ≡ false → (y < x → A) → (x ≡ y → test ≡ false → A) → A
behind_cases x y test h higher equal =
    either (ltb x y)
    (λ l. never true refl (rw l at h))
    (λ l.
    either (eqb x y)
    (λ e. equal (eqb-true x y e) (rw (l, e) at h))
    (λ e. higher (omega (arith, ltb-false x y l, eqb-false x y e))))

-- s does not come after t, compared from the left
unfoldable pub not_after : List ℕ → List ℕ → Bool
not_after [] t = true
not_after (a ∷ s) [] = false
not_after (a ∷ s) (b ∷ t) = ahead a b (not_after s t)

-- of two lists one does not come after the other
pub not_after_either : (s t : List ℕ) → not_after s t ≡ false → not_after t s ≡ true
unfolding not_after
not_after_either [] t h = never true refl h
not_after_either (a ∷ s) [] h = refl
not_after_either (a ∷ s) (b ∷ t) h =
    behind_cases a b (not_after s t) h
    (λ l. ahead_less b a (not_after t s) l)
    (λ e f. ahead_same b a (not_after t s) (sym e) (not_after_either s t f))

-- where s does not come after t, nor t after u, s does not come after u
pub not_after_through : (s t u : List ℕ) → not_after s t ≡ true → not_after t u ≡ true → not_after s u ≡ true
unfolding not_after
not_after_through [] t u p q = refl
not_after_through (a ∷ s) [] u p q = never false p refl
not_after_through (a ∷ s) (b ∷ t) [] p q = never false q refl
not_after_through (a ∷ s) (b ∷ t) (c ∷ u) p q =
    ahead_cases a b (not_after s t) p
    (λ l.
    ahead_cases b c (not_after t u) q
    (λ m. ahead_less a c (not_after s u) (omega arith))
    (λ e f. ahead_less a c (not_after s u) (omega arith)))
    (λ d g.
    ahead_cases b c (not_after t u) q
    (λ m. ahead_less a c (not_after s u) (omega arith))
    (λ e f. ahead_same a c (not_after s u) (omega arith) (not_after_through s t u g f)))

-- a list that does not come after another one comes before it
pub not_after_before : (s t : List ℕ) → not_after s t ≡ true → (s ≡ t → ⊥) → Before s t
unfolding not_after
not_after_before [] [] p differ = absurd (differ refl)
not_after_before [] (b ∷ t) p differ = shorter
not_after_before (a ∷ s) [] p differ = never false p refl
not_after_before (a ∷ s) (b ∷ t) p differ =
    ahead_cases a b (not_after s t) p
    (λ l. less l)
    (λ e q. rw e (later (not_after_before s t q (λ f. differ (cc)))))

module _ (S id : ℕ → ℕ) where
  -- c is heavier than d, or weighs the same and its ids do not come after those of d
  unfoldable pub wins : List ℕ → List ℕ → Bool
  wins c d = ahead (weight S d) (weight S c) (not_after (map id c) (map id d))

  -- of two lists one wins
  pub wins_either : (c d : List ℕ) → wins c d ≡ false → wins d c ≡ true
  unfolding wins
  wins_either c d h =
      behind_cases (weight S d) (weight S c) (not_after (map id c) (map id d)) h
      (λ l. ahead_less (weight S c) (weight S d) (not_after (map id d) (map id c)) l)
      (λ e f.
      ahead_same (weight S c) (weight S d) (not_after (map id d) (map id c)) (sym e)
      (not_after_either (map id c) (map id d) f))

  -- a list wins over itself
  pub wins_itself : (c : List ℕ) → wins c c ≡ true
  wins_itself c = either (wins c c) (λ t. t) (λ t. wins_either c c t)

  -- where c wins over d, and d over e, c wins over e
  pub wins_through : (c d e : List ℕ) → wins c d ≡ true → wins d e ≡ true → wins c e ≡ true
  unfolding wins
  wins_through c d e p q =
      ahead_cases (weight S d) (weight S c) (not_after (map id c) (map id d)) p
      (λ l.
      ahead_cases (weight S e) (weight S d) (not_after (map id d) (map id e)) q
      (λ m. ahead_less (weight S e) (weight S c) (not_after (map id c) (map id e)) (omega arith))
      (λ m f. ahead_less (weight S e) (weight S c) (not_after (map id c) (map id e)) (omega arith)))
      (λ l g.
      ahead_cases (weight S e) (weight S d) (not_after (map id d) (map id e)) q
      (λ m. ahead_less (weight S e) (weight S c) (not_after (map id c) (map id e)) (omega arith))
      (λ m f.
      ahead_same (weight S e) (weight S c) (not_after (map id c) (map id e)) (omega arith)
      (not_after_through (map id c) (map id d) (map id e) g f)))

  -- also with the same place in front of both
  pub wins_longer : (i : ℕ) (c d : List ℕ) → wins c d ≡ true → wins (i ∷ c) (i ∷ d) ≡ true
  unfolding wins not_after
  wins_longer i c d p =
      ahead_cases (weight S d) (weight S c) (not_after (map id c) (map id d)) p
      (λ l. ahead_less (S i + weight S d) (S i + weight S c) (not_after (map id (i ∷ c)) (map id (i ∷ d))) (omega arith))
      (λ e f.
      ahead_same (S i + weight S d) (S i + weight S c) (not_after (map id (i ∷ c)) (map id (i ∷ d))) (omega arith)
      (ahead_same (id i) (id i) (not_after (map id c) (map id d)) refl f))

  -- of two lists the one that wins
  unfoldable pub winner : List ℕ → List ℕ → List ℕ
  winner c d = cond (wins c d) c d

  -- it wins over both
  pub winner_left : (c d : List ℕ) → wins (winner c d) c ≡ true
  unfolding winner
  winner_left c d = either (wins c d) (λ t. rw t (wins_itself c)) (λ t. rw t (wins_either c d t))

  pub winner_right : (c d : List ℕ) → wins (winner c d) d ≡ true
  unfolding winner
  winner_right c d = either (wins c d) (λ t. rw t t) (λ t. rw t (wins_itself d))

  -- the winner among the empty list and the lists f i of those i below m that pass the test
  unfoldable pub winner_to : (ℕ → List ℕ) → (ℕ → Bool) → ℕ → List ℕ
  winner_to f test zero = []
  winner_to f test (suc m) = cond (test m) (winner (f m) (winner_to f test m)) (winner_to f test m)

  -- it wins over the empty list, and over each of the others
  pub winner_to_empty : (f : ℕ → List ℕ) (test : ℕ → Bool) (m : ℕ) → wins (winner_to f test m) [] ≡ true
  unfolding winner_to
  winner_to_empty f test zero = wins_itself []
  winner_to_empty f test (suc m) =
      either (test m)
      (λ t.
      rw t
      (wins_through (winner (f m) (winner_to f test m)) (winner_to f test m) [] (winner_right (f m) (winner_to f test m))
      (winner_to_empty f test m)))
      (λ t. rw t (winner_to_empty f test m))

  pub winner_to_each : (f : ℕ → List ℕ) (test : ℕ → Bool) (m i : ℕ) → i < m → test i ≡ true → wins (winner_to f test m) (f i) ≡ true
  unfolding winner_to
  winner_to_each f test zero i h p = absurd (omega arith)
  winner_to_each f test (suc m) i h p =
      either (ltb i m)
      (λ l.
      either (test m)
      (λ t.
      rw t
      (wins_through (winner (f m) (winner_to f test m)) (winner_to f test m) (f i) (winner_right (f m) (winner_to f test m))
      (winner_to_each f test m i (ltb-true i m l) p)))
      (λ t. rw t (winner_to_each f test m i (ltb-true i m l) p)))
      (λ l.
      let e : m ≡ i = omega (arith, ltb-false i m l) in
      rw (e, p) (winner_left (f i) (winner_to f test i)))

  -- what holds of each of them holds of the winner
  pub winner_to_holds : (Q : List ℕ → Type 0) (f : ℕ → List ℕ) (test : ℕ → Bool) (m : ℕ)
      → Q [] → ((i : ℕ) → i < m → test i ≡ true → Q (f i)) → Q (winner_to f test m)
  unfolding winner_to winner
  winner_to_holds Q f test zero none each = none
  winner_to_holds Q f test (suc m) none each =
      either (test m)
      (λ t.
      rw (t, winner)
      (either (wins (f m) (winner_to f test m))
      (λ w. rw w (each m (omega arith) t))
      (λ w. rw w (winner_to_holds Q f test m none (λ i l. each i (omega arith))))))
      (λ t. rw t (winner_to_holds Q f test m none (λ i l. each i (omega arith))))

  -- the winner is no lighter
  pub wins_weight : (c d : List ℕ) → wins c d ≡ true → weight S d ≤ weight S c
  unfolding wins
  wins_weight c d p =
      ahead_cases (weight S d) (weight S c) (not_after (map id c) (map id d)) p (λ l. omega arith) (λ e f. omega arith)

  -- where both weigh the same, the ids of the winner come first or are the same
  pub wins_before : (c d : List ℕ) → wins c d ≡ true → weight S d ≡ weight S c → (map id c ≡ map id d → ⊥) → Before (map id c) (map id d)
  unfolding wins
  wins_before c d p same differ =
      ahead_cases (weight S d) (weight S c) (not_after (map id c) (map id d)) p
      (λ l. absurd (omega arith))
      (λ e f. not_after_before (map id c) (map id d) f differ)
