-- The largest sum over paths, worked out: the best sum from each place, and the largest of those.
use Prim.Native.Nat.{ℕ, zero, suc, ◌+◌, ◌≤◌, ◌<◌}
use mathlib.Core.List.{List, [], ◌∷◌}
use mathlib.Core.Bool.{Bool, true, cond, ◌&&◌}
use mathlib.Core.Path.{◌≡◌, refl, sym, ◌∙◌}
use native.Mathlib.Omega.{arith}
use borrow.Author.Tests.{ltb-true, ltb-false}
use lib.Dec.{T, ltb}
use Rattle.rules.proofs.Tests.{T_true, true_T, both, both_pass}
use Rattle.rules.specs.Numbers.{largest_to}
use Rattle.rules.specs.Chains.{weight, Path, All, Largest}
use Rattle.rules.proofs.Numbers.{either, largest_to_most}

-- the value at i where the test passes there, and 0 where it does not
abbrev pub where_passed : (ℕ → Bool) → (ℕ → ℕ) → ℕ → ℕ
where_passed test f i = cond (test i) (f i) 0

-- the largest of such values is 0 or stands at a number that passes the test
pub largest_stands {ℓ} : {A : Type ℓ} (test : ℕ → Bool) (f : ℕ → ℕ) (n : ℕ)
    → (largest_to (where_passed test f) n ≡ 0 → A)
    → ((i : ℕ) → i < n → test i ≡ true → f i ≡ largest_to (where_passed test f) n → A) → A
unfolding largest_to
largest_stands test f zero none one = none refl
largest_stands test f (suc n) none one =
    either (ltb (largest_to (where_passed test f) n) (where_passed test f n))
    (λ l. either (test n)
    (λ t. one n (omega arith) t (rw t (omega (arith, rw t at (ltb-true (largest_to (where_passed test f) n) (where_passed test f n) l)))))
    (λ t. absurd (omega (arith, rw t at (ltb-true (largest_to (where_passed test f) n) (where_passed test f n) l)))))
    (λ l. largest_stands test f n
    (λ e. none (omega (arith, ltb-false (largest_to (where_passed test f) n) (where_passed test f n) l)))
    (λ i h t e. one i (omega arith) t (omega (arith, ltb-false (largest_to (where_passed test f) n) (where_passed test f n) l))))

-- a value at a number that passes the test is at most the largest
pub largest_passed : (test : ℕ → Bool) (f : ℕ → ℕ) (n i : ℕ) → i < n → test i ≡ true → f i ≤ largest_to (where_passed test f) n
largest_passed test f n i h t = rw t at (largest_to_most (where_passed test f) n i h)

-- a path's first place is one of the places
pub path_first : (n : ℕ) (R : ℕ → ℕ → Bool) (i : ℕ) (c : List ℕ) → Path n R (i ∷ c) → i < n
path_first n R i [] h = h
path_first n R i (j ∷ c) h = h.0

module _ (n : ℕ) (R : ℕ → ℕ → Bool) (S : ℕ → ℕ) (test : ℕ → Bool) where
  -- the largest sum over the paths of at most k + 1 places that start at i and go over places that pass the test
  unfoldable pub sum_from : ℕ → ℕ → ℕ
  sum_from zero i = S i
  sum_from (suc k) i = S i + largest_to (where_passed (λ j. test j && R i j) (sum_from k)) n

  -- the largest sum over all of them
  unfoldable pub path_sum : ℕ → ℕ
  path_sum k = largest_to (where_passed test (sum_from k)) n

  -- each of these sums is that of a path
  abbrev Reached : ℕ → ℕ → Type 0
  Reached i r = (c : List ℕ) × Path n R (i ∷ c) × All test (i ∷ c) × (weight S (i ∷ c) ≡ r)

  sum_from_reached : (k i : ℕ) → i < n → T (test i) → Reached i (sum_from k i)
  unfolding sum_from
  sum_from_reached zero i h t = ([], h, (t, tt), omega arith)
  sum_from_reached (suc k) i h t =
      largest_stands (λ j. test j && R i j) (sum_from k) n
      (λ e. ([], h, (t, tt), omega arith))
      (λ j l s e.
      let (passes, may) = both (test j) (R i j) (true_T (test j && R i j) s) in
      let (c, path, all, same) = sum_from_reached k j l passes in
      (j ∷ c, (h, may, path), (t, all), omega arith))

  -- and so is the largest
  pub path_sum_reached : (k : ℕ) → (c : List ℕ) × (Path n R c × All test c) × (weight S c ≡ path_sum k)
  unfolding path_sum
  path_sum_reached k =
      largest_stands test (sum_from k) n
      (λ e. ([], (tt, tt), sym e))
      (λ i l s e.
      let (c, path, all, same) = sum_from_reached k i l (true_T (test i) s) in
      (i ∷ c, (path, all), same ∙ e))

  -- a rank below top rises along the relation: no path is longer than the ranks left above its first place
  module _ (P : ℕ → ℕ) (top : ℕ) (rises : (i j : ℕ) → T (R i j) → P i < P j) (below : (i : ℕ) → i < n → P i < top) where
    -- so that no path weighs more than the best sum from its first place
    sum_from_most : (k i : ℕ) (c : List ℕ) → top ≤ P i + suc k → Path n R (i ∷ c) → All test (i ∷ c) → weight S (i ∷ c) ≤ sum_from k i
    unfolding sum_from
    sum_from_most zero i [] left path all = omega arith
    sum_from_most zero i (j ∷ c) left path all =
        absurd (omega (arith, rises i j path.1, below j (path_first n R j c path.2)))
    sum_from_most (suc k) i [] left path all = omega arith
    sum_from_most (suc k) i (j ∷ c) left path all =
        omega (
          arith,
          sum_from_most k j c (omega (arith, rises i j path.1)) path.2 all.1,
          largest_passed (λ j. test j && R i j) (sum_from k) n j (path_first n R j c path.2)
              (T_true (test j && R i j) (both_pass (test j) (R i j) all.1.0 path.1)),
        )

    -- the sum with top places left is the largest
    pub path_sum_largest : Largest (λ c. Path n R c × All test c) (weight S) (path_sum top)
    unfolding path_sum
    path_sum_largest = record { reached = path_sum_reached top; most = most' }
      where
        most' : (c : List ℕ) → Path n R c × All test c → weight S c ≤ largest_to (where_passed test (sum_from top)) n
        most' [] h = omega arith
        most' (i ∷ c) h =
            omega (
              arith,
              sum_from_most top i c (omega arith) h.0 h.1,
              largest_passed test (sum_from top) n i (path_first n R i c h.0) (T_true (test i) h.1.0),
            )

-- the test that passes everywhere
abbrev pub every : ℕ → Bool
every i = true

-- every place passes
pub all_every : (c : List ℕ) → All every c
all_every [] = tt
all_every (i ∷ c) = (tt, all_every c)

-- the largest over paths of places that all pass is the path bound
pub largest_path : (n : ℕ) (R : ℕ → ℕ → Bool) (S : ℕ → ℕ) (r : ℕ)
    → Largest (λ c. Path n R c × All every c) (weight S) r → Largest (Path n R) (weight S) r
largest_path n R S r bound =
    record {
      reached = (bound.reached.0, bound.reached.1.0, bound.reached.2);
      most = λ c h. bound.most c (h, all_every c);
    }
