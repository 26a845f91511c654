-- How the bounds of one table and one map are ordered: chain <= path <= levels, and chain <= transactions.
use Prim.Native.Nat.{ℕ, suc, ◌+◌, ◌≤◌, ◌<◌}
use mathlib.Core.List.{List, [], ◌∷◌, ◌++◌}
use mathlib.Core.Bool.{Bool, true, cond}
use mathlib.Core.Path.{◌≡◌, refl, sym}
use native.Mathlib.Omega.{arith}
use borrow.Author.Tests.{ltb-true, eqb-true, eq-eqb}
use lib.ListN.{length, get_or}
use lib.Dec.{T, eqb}
use Rattle.rules.specs.Numbers.{sum_to, largest_to}
use Rattle.rules.specs.Records.{task_count, task_at, transactions, number_of, place_of, listed}
use Rattle.rules.specs.Chains.{weight, Under, Chain, Path, All, Largest, related, size_at, priority_at, in_transaction, TransactionBound, level_bound}
use Rattle.rules.proofs.Tests.{true_T}
use Rattle.rules.proofs.Numbers.{either, largest_to_most, lowest_passes, sum_to-longer, sum_to_least, sum_to_more}
use Rattle.rules.proofs.Related.{Climbing, related_rises}

-- what two lists weigh together
pub weight-append : (S : ℕ → ℕ) (c d : List ℕ) → weight S (c ++ d) ≡ weight S c + weight S d
weight-append S [] d = omega arith
weight-append S (i ∷ c) d = omega (arith, weight-append S c d)

-- every chain is a path
pub chain_path : (n : ℕ) (R : ℕ → ℕ → Bool) (c : List ℕ) → Chain n R c → Path n R c
chain_path n R [] h = tt
chain_path n R (i ∷ []) h = h.0
chain_path n R (i ∷ (j ∷ c)) h = (h.0, h.1.0, chain_path n R (j ∷ c) h.2)

-- no chain weighs more than the path bound
pub chain≤path : (n : ℕ) (R : ℕ → ℕ → Bool) (S : ℕ → ℕ) (r : ℕ) (c : List ℕ) → Largest (Path n R) (weight S) r → Chain n R c → weight S c ≤ r
chain≤path n R S r c bound h = bound.most c (chain_path n R c h)

-- the largest of the sizes at a priority, and these added up up to the highest in use
abbrev pub level : (ℕ → ℕ) → (ℕ → ℕ) → ℕ → ℕ → ℕ
level S P n p = largest_to (λ i. cond (eqb (P i) p) (S i) 0) n

abbrev pub levels : (ℕ → ℕ) → (ℕ → ℕ) → ℕ → ℕ
levels S P n = sum_to (level S P n) (largest_to P n + 1)

-- a task's size is at most what its level holds, and its level is one of those added up
pub size_in_level : (S P : ℕ → ℕ) (n i : ℕ) → i < n → (S i ≤ level S P n (P i)) × (P i < largest_to P n + 1)
size_in_level S P n i h = (
  rw (eq-eqb (P i) (P i) refl) at (largest_to_most (λ k. cond (eqb (P k) (P i)) (S k) 0) n i h),
  omega (arith, largest_to_most P n i h),
)

-- a path starts at a task
starts_below : (n : ℕ) (R : ℕ → ℕ → Bool) (i : ℕ) (c : List ℕ) → Path n R (i ∷ c) → i < n
starts_below n R i [] h = h
starts_below n R i (j ∷ c) h = h.0

-- priorities rise along a path, so that it has at most one task at each: together with what the levels below its first
-- task hold, it weighs at most what all levels hold
module _ (n : ℕ) (R : ℕ → ℕ → Bool) (S P : ℕ → ℕ) (rises : (i j : ℕ) → i < n → j < n → T (R i j) → P i < P j) where
  -- a path that starts at i
  climb : (i : ℕ) (c : List ℕ) → Path n R (i ∷ c) → weight S (i ∷ c) + sum_to (level S P n) (P i) ≤ levels S P n
  unfolding sum_to
  climb i [] h =
      let (held, below) = size_in_level S P n i h in
      omega (arith, held, sum_to-longer (level S P n) (suc (P i)) (largest_to P n + 1) below)
  climb i (j ∷ c) h =
      let (held, below) = size_in_level S P n i h.0 in
      let up : P i < P j = rises i j h.0 (starts_below n R j c h.2) h.1 in
      omega (arith, held, sum_to-longer (level S P n) (suc (P i)) (P j) up, climb j c h.2)

  -- so that no path weighs more than all levels
  pub path_climbs : (c : List ℕ) → Path n R c → weight S c ≤ levels S P n
  path_climbs [] h = omega arith
  path_climbs (i ∷ c) h = omega (arith, climb i c h)

-- no path weighs more than the levels, where tasks yield only to higher priorities
pub path≤levels : (rs : List (List ℕ)) → Climbing rs → (rows c : List ℕ) → Path (task_count rs) (related rs rows) c → weight (size_at rs) c ≤ level_bound rs
path≤levels rs climbing rows =
    path_climbs (task_count rs) (related rs rows) (size_at rs) (priority_at rs) (λ i j h k. related_rises rs climbing rows i j)

-- the tasks of a list that pass a test, in its order
pub own : (ℕ → Bool) → List ℕ → List ℕ
own test [] = []
own test (i ∷ c) = cond (test i) (i ∷ own test c) (own test c)

module _ (n : ℕ) (R : ℕ → ℕ → Bool) (test : ℕ → Bool) where
  -- those of a chain are a chain
  own_under : (i : ℕ) (c : List ℕ) → Under n R i c → Under n R i (own test c)
  unfolding own
  own_under i [] h = tt
  own_under i (j ∷ c) h =
      either (test j) (λ t. rw t (h.0, own_under i c h.1)) (λ t. rw t (own_under i c h.1))

  own_chain : (c : List ℕ) → Chain n R c → Chain n R (own test c)
  unfolding own
  own_chain [] h = tt
  own_chain (i ∷ c) h =
      either (test i)
      (λ t. rw t (h.0, own_under i c h.1, own_chain c h.2))
      (λ t. rw t (own_chain c h.2))

-- and all of them pass the test
own_all : (test : ℕ → Bool) (c : List ℕ) → All test (own test c)
unfolding own
own_all test [] = tt
own_all test (i ∷ c) = either (test i) (λ t. rw t (true_T (test i) t, own_all test c)) (λ t. rw t (own_all test c))

-- a task adds its size to the tests that it passes, and takes nothing from the others
own_adds : (S : ℕ → ℕ) (test : ℕ → Bool) (i : ℕ) (c : List ℕ) → weight S (own test c) ≤ weight S (own test (i ∷ c))
unfolding own
own_adds S test i c = either (test i) (λ t. rw t (omega arith)) (λ t. rw t (omega arith))

own_adds_size : (S : ℕ → ℕ) (test : ℕ → Bool) (i : ℕ) (c : List ℕ) → test i ≡ true → weight S (own test c) + S i ≤ weight S (own test (i ∷ c))
unfolding own
own_adds_size S test i c t = rw t (omega arith)

-- where every task of a chain passes one of m tests, what passes each of them weighs together at least as much as the chain
weight_shared : (n : ℕ) (R : ℕ → ℕ → Bool) (S : ℕ → ℕ) (m : ℕ) (test : ℕ → ℕ → Bool) (c : List ℕ) → Chain n R c
    → ((i : ℕ) → i < n → (t : ℕ) × (t < m) × (test t i ≡ true))
    → weight S c ≤ sum_to (λ t. weight S (own (test t) c)) m
weight_shared n R S m test [] h passes = omega arith
weight_shared n R S m test (i ∷ c) h passes =
    let (t, below, there) = passes i h.0 in
    omega (
      arith,
      weight_shared n R S m test c h.2 passes,
      sum_to_more (λ u. weight S (own (test u) (i ∷ c))) (λ u. weight S (own (test u) c)) m t (S i)
          (λ u. own_adds S (test u) i c) below (own_adds_size S (test t) i c there),
    )

-- a task whose transaction is listed is in one of the transactions
listed_in : (rs : List (List ℕ)) (i : ℕ) → listed (transactions rs) (task_at rs i).transaction ≡ true
    → (t : ℕ) × (t < length (transactions rs)) × (in_transaction rs t i ≡ true)
listed_in rs i h =
    let x : ℕ = (task_at rs i).transaction in
    let t : ℕ = place_of (transactions rs) x in
    let below : t < length (transactions rs) = ltb-true t (length (transactions rs)) h in
    let there = lowest_passes (λ k. eqb (number_of (get_or (transactions rs) k [])) x) (length (transactions rs)) below in
    (t, below, eq-eqb x (number_of (get_or (transactions rs) t [])) (sym (eqb-true (number_of (get_or (transactions rs) t [])) x there)))

-- no chain weighs more than the transactions, where every task's transaction is listed
pub chain≤transactions : (rs : List (List ℕ)) (rows : List ℕ) (r : ℕ) (c : List ℕ)
    → ((i : ℕ) → i < task_count rs → listed (transactions rs) (task_at rs i).transaction ≡ true)
    → TransactionBound rs rows r → Chain (task_count rs) (related rs rows) c → weight (size_at rs) c ≤ r
chain≤transactions rs rows r c known bound h =
    omega (
      arith,
      bound.total,
      weight_shared (task_count rs) (related rs rows) (size_at rs) m (in_transaction rs) c h (λ i l. listed_in rs i (known i l)),
      sum_to_least bound.each (λ t. weight (size_at rs) (own (in_transaction rs t) c)) m part,
    )
  where
    m : ℕ
    m = length (transactions rs)

    part : (t : ℕ) → t < m → weight (size_at rs) (own (in_transaction rs t) c) ≤ bound.each t
    part t l =
        (bound.bound t l).most (own (in_transaction rs t) c) (
          chain_path (task_count rs) (related rs rows) (own (in_transaction rs t) c)
              (own_chain (task_count rs) (related rs rows) (in_transaction rs t) c h),
          own_all (in_transaction rs t) c,
        )
