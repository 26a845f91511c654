-- The heaviest chain, first among equals, worked out: a chain lengthened by one place at a time.
use Prim.Native.Nat.{ℕ, zero, suc, ◌+◌, ◌≤◌, ◌<◌}
use mathlib.Core.List.{List, [], ◌∷◌, map}
use mathlib.Core.Bool.{Bool, true, ◌&&◌}
use mathlib.Core.Path.{◌≡◌, refl, sym}
use native.Mathlib.Omega.{arith}
use lib.Dec.{T}
use Rattle.rules.proofs.Tests.{T_true, true_T, both, both_pass}
use Rattle.rules.specs.Chains.{Under, Chain, All, Heaviest}
use Rattle.rules.proofs.Enumerate.Paths.{every, all_every}
use Rattle.rules.proofs.Enumerate.Winner.{wins, wins_itself, wins_through, wins_longer, winner_to, winner_to_empty, winner_to_each, winner_to_holds, wins_weight, wins_before}

-- chains with the same ids are the same, where no two places share an id
pub ids_tell : (n : ℕ) (R : ℕ → ℕ → Bool) (id : ℕ → ℕ) → ((i j : ℕ) → i < n → j < n → id i ≡ id j → i ≡ j)
    → (c d : List ℕ) → Chain n R c → Chain n R d → map id c ≡ map id d → c ≡ d
ids_tell n R id apart [] [] p q e = refl
ids_tell n R id apart [] (j ∷ d) p q e = let z : ◌≡◌ {A = ℕ} 0 1 = cc in absurd (omega arith)
ids_tell n R id apart (i ∷ c) [] p q e = let z : ◌≡◌ {A = ℕ} 0 1 = cc in absurd (omega arith)
ids_tell n R id apart (i ∷ c) (j ∷ d) p q e =
    rw (apart i j p.0 q.0 (cc), ids_tell n R id apart c d p.2 q.2 (cc))

module _ (n : ℕ) (R : ℕ → ℕ → Bool) (S id : ℕ → ℕ) where
  -- the heaviest chain of at most k places that pass the test
  unfoldable pub heaviest : ℕ → (ℕ → Bool) → List ℕ
  heaviest zero test = []
  heaviest (suc k) test = winner_to S id (λ i. i ∷ heaviest k (λ j. test j && R i j)) test n

  -- places that pass the test and may preempt i pass the test, and lie over i
  all_under : (test : ℕ → Bool) (i : ℕ) (c : List ℕ) → All (λ j. test j && R i j) c → All test c × Under n R i c
  all_under test i [] h = (tt, tt)
  all_under test i (j ∷ c) h =
      let (passes, may) = both (test j) (R i j) h.0 in
      let (all, under) = all_under test i c h.1 in
      ((passes, all), (may, under))

  -- and the other way round
  under_all : (test : ℕ → Bool) (i : ℕ) (c : List ℕ) → All test c → Under n R i c → All (λ j. test j && R i j) c
  under_all test i [] all under = tt
  under_all test i (j ∷ c) all under =
      (both_pass (test j) (R i j) all.0 under.0, under_all test i c all.1 under.1)

  -- it is a chain of places that pass the test
  pub heaviest_chain : (k : ℕ) (test : ℕ → Bool) → Chain n R (heaviest k test) × All test (heaviest k test)
  unfolding heaviest
  heaviest_chain zero test = (tt, tt)
  heaviest_chain (suc k) test =
      winner_to_holds S id (λ c. Chain n R c × All test c) (λ i. i ∷ heaviest k (λ j. test j && R i j)) test n (tt, tt)
      (λ i l t.
      let (chain, all) = heaviest_chain k (λ j. test j && R i j) in
      let (passes, under) = all_under test i (heaviest k (λ j. test j && R i j)) all in
      ((l, under, chain), (true_T (test i) t, passes)))

  -- a rank below top rises along the relation: no chain is longer than the ranks left above the places that pass
  module _ (P : ℕ → ℕ) (top : ℕ) (rises : (i j : ℕ) → T (R i j) → P i < P j) (below : (i : ℕ) → i < n → P i < top) where
    -- so that it wins over all chains of places that pass
    heaviest_wins : (k : ℕ) (test : ℕ → Bool) → ((i : ℕ) → i < n → T (test i) → top ≤ P i + k)
        → (c : List ℕ) → Chain n R c → All test c → wins S id (heaviest k test) c ≡ true
    unfolding heaviest
    heaviest_wins zero test left [] chain all = wins_itself S id []
    heaviest_wins zero test left (i ∷ c) chain all =
        absurd (omega (arith, left i chain.0 all.0, below i chain.0))
    heaviest_wins (suc k) test left [] chain all =
        winner_to_empty S id (λ i. i ∷ heaviest k (λ j. test j && R i j)) test n
    heaviest_wins (suc k) test left (i ∷ c) chain all =
        wins_through S id (heaviest (suc k) test) (i ∷ rest) (i ∷ c)
        (winner_to_each S id (λ i. i ∷ heaviest k (λ j. test j && R i j)) test n i chain.0 (T_true (test i) all.0))
        (wins_longer S id i rest c
        (heaviest_wins k (λ j. test j && R i j)
        (λ j l t.
        omega (arith, left i chain.0 all.0, rises i j (both (test j) (R i j) t).1))
        c chain.2 (under_all test i c all.1 chain.1)))
      where
        rest : List ℕ
        rest = heaviest k (λ j. test j && R i j)

    -- no two places share an id
    module _ (apart : (i j : ℕ) → i < n → j < n → id i ≡ id j → i ≡ j) where
      -- with top places left it is the heaviest chain of places that pass the test, and first among equals
      pub heaviest_passing : (test : ℕ → Bool) → Heaviest (λ c. Chain n R c × All test c) S id (heaviest top test)
      heaviest_passing test =
          record {
            among = heaviest_chain top test;
            most = λ d h. wins_weight S id (heaviest top test) d (over d h);
            first = λ d h same differ.
                wins_before S id (heaviest top test) d (over d h) same
                (λ e. differ (sym (ids_tell n R id apart (heaviest top test) d (heaviest_chain top test).0 h.0 e)));
          }
        where
          over : (d : List ℕ) → Chain n R d × All test d → wins S id (heaviest top test) d ≡ true
          over d h = heaviest_wins top test (λ i l t. omega arith) d h.0 h.1

      -- so where every place passes, it is the heaviest of all chains
      pub heaviest_heaviest : Heaviest (Chain n R) S id (heaviest top every)
      heaviest_heaviest =
          let best = heaviest_passing every in
          record {
            among = best.among.0;
            most = λ d h. best.most d (h, all_every d);
            first = λ d h. best.first d (h, all_every d);
          }
