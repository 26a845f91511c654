-- What is worked out is the relation: a path leads through a number by parts that lead to it and from it.
use Prim.Native.Nat.{ℕ, zero, suc, ◌≤◌, ◌<◌}
use mathlib.Core.Bool.{Bool, true, ◌&&◌, or-true}
use mathlib.Core.Path.{◌≡◌}
use native.Mathlib.Omega.{arith}
use borrow.Author.Tests.{eqb-true, eqb-false}
use lib.Dec.{eqb}
use Rattle.rules.specs.Reach.{Reaches, reaches}
use Rattle.rules.specs.Reach.Reaches.{one, more}
use Rattle.rules.proofs.Numbers.{either}
use Rattle.rules.proofs.Tests.{both_first, both_second}

module _ (step : ℕ → ℕ → Bool) where
  -- two paths, one behind the other
  pub reach_join : {a b c : ℕ} → Reaches step a b → Reaches step b c → Reaches step a c
  reach_join (one s) q = more s q
  reach_join (more s p) q = more s (reach_join p q)

  module _ (at : ℕ → ℕ) where
    -- a path through one more leads through the first k, or to the next and on from it
    data Ways (k a b : ℕ) : Type 0 where
      straight : reaches step at k a b ≡ true → Ways k a b
      over : reaches step at k a (at k) ≡ true → reaches step at k (at k) b ≡ true → Ways k a b

    ways : (k a b : ℕ) → reaches step at (suc k) a b ≡ true → Ways k a b
    unfolding reaches
    ways k a b h =
        either (reaches step at k a b)
        (λ t. straight t)
        (λ t.
        let both : (reaches step at k a (at k) && reaches step at k (at k) b) ≡ true = rw t at h in
        over (both_first (reaches step at k a (at k)) (reaches step at k (at k) b) both) (both_second (reaches step at k a (at k)) (reaches step at k (at k) b) both))

    -- what is worked out is a path, through one more where it is through the first k
    sound_ways : (k : ℕ) → ((a b : ℕ) → reaches step at k a b ≡ true → Reaches step a b) → (a b : ℕ) → Ways k a b → Reaches step a b
    sound_ways k sound a b (straight t) = sound a b t
    sound_ways k sound a b (over p q) = reach_join (sound a (at k) p) (sound (at k) b q)

    pub reach_sound : (k a b : ℕ) → reaches step at k a b ≡ true → Reaches step a b
    unfolding reaches
    reach_sound zero a b h = one h
    reach_sound (suc k) a b h = sound_ways k (λ c d. reach_sound k c d) a b (ways k a b h)

    -- paths through the first k are among those through one more
    more_through : (k a b : ℕ) → reaches step at k a b ≡ true → reaches step at (suc k) a b ≡ true
    unfolding reaches
    more_through k a b h = rw h

    -- and so are those that lead to the next and on from it
    joined_through : (k a b : ℕ) → reaches step at k a (at k) ≡ true → reaches step at k (at k) b ≡ true → reaches step at (suc k) a b ≡ true
    unfolding reaches
    joined_through k a b p q = rw (p, q) (or-true (reaches step at k a b))

    -- a step is a path through none
    step_reaches : (k a b : ℕ) → step a b ≡ true → reaches step at k a b ≡ true
    unfolding reaches
    step_reaches zero a b h = h
    step_reaches (suc k) a b h = more_through k a b (step_reaches k a b h)

    -- two paths that meet in the next one
    meet_next : (k a b : ℕ) → Ways k a (at k) → Ways k (at k) b → reaches step at (suc k) a b ≡ true
    meet_next k a b (straight p) (straight q) = joined_through k a b p q
    meet_next k a b (straight p) (over q r) = joined_through k a b p r
    meet_next k a b (over p q) (straight r) = joined_through k a b p r
    meet_next k a b (over p q) (over r s) = joined_through k a b p s

    -- two that meet in one before it, where those through the first k do
    meet_before : (k m : ℕ) → ((a b : ℕ) → reaches step at k a (at m) ≡ true → reaches step at k (at m) b ≡ true → reaches step at k a b ≡ true) → (a b : ℕ)
        → Ways k a (at m) → Ways k (at m) b → reaches step at (suc k) a b ≡ true
    meet_before k m join a b (straight p) (straight q) = more_through k a b (join a b p q)
    meet_before k m join a b (straight p) (over q r) = joined_through k a b (join a (at k) p q) r
    meet_before k m join a b (over p q) (straight r) = joined_through k a b p (join (at k) b q r)
    meet_before k m join a b (over p q) (over r s) = joined_through k a b p s

    -- so two paths through the first k that meet in one of these are one
    meet : (k m : ℕ) → m < k → (a b : ℕ) → reaches step at k a (at m) ≡ true → reaches step at k (at m) b ≡ true → reaches step at k a b ≡ true
    meet zero m l a b p q = absurd (omega arith)
    meet (suc k) m l a b p q =
        either (eqb m k)
        (λ t.
        let same = eqb-true m k t in
        meet_next k a b (ways k a (at k) (rw same at p)) (ways k (at k) b (rw same at q)))
        (λ t. meet_before k m (meet k m (omega (arith, eqb-false m k t))) a b (ways k a (at m) p) (ways k (at m) b q))

    -- where every step leads to one of the first n, each path is worked out
    pub reach_complete : (n : ℕ) → ((a b : ℕ) → step a b ≡ true → (m : ℕ) × (m < n) × (at m ≡ b)) → (a b : ℕ) → Reaches step a b → reaches step at n a b ≡ true
    reach_complete n ends a b (one s) = step_reaches n a b s
    reach_complete n ends a c (more {b = b} s p) =
        let (m, below, e) = ends a b s in
        let first : reaches step at n a (at m) ≡ true = rw e (step_reaches n a b s) in
        let rest : reaches step at n (at m) c ≡ true = rw e (reach_complete n ends b c p) in
        meet n m below a c first rest

    -- the same steps between the first n, by their ranks, lead as far
    pub reach_renamed : (ranked : ℕ → ℕ → Bool) (n : ℕ) → ((i j : ℕ) → i < n → j < n → ranked i j ≡ step (at i) (at j))
        → (k : ℕ) → k ≤ n → (i j : ℕ) → i < n → j < n → reaches ranked (λ m. m) k i j ≡ reaches step at k (at i) (at j)
    unfolding reaches
    reach_renamed ranked n same zero most i j h l = same i j h l
    reach_renamed ranked n same (suc k) most i j h l =
        let so_far = reach_renamed ranked n same k (omega arith) in
        rw (so_far i j h l, so_far i k h (omega arith), so_far k j (omega arith) l)
