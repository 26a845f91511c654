-- No bound is above the sizes of all tasks added up: a task has one priority, and it is in one transaction.
use Prim.Native.Nat.{ℕ, zero, suc, ◌+◌, ◌≤◌, ◌<◌}
use mathlib.Core.List.{List, [], ◌∷◌}
use mathlib.Core.Bool.{Bool, true, cond}
use mathlib.Core.Path.{◌≡◌, refl, sym, ◌∙◌}
use native.Mathlib.Omega.{arith}
use borrow.Author.Tests.{eqb-true}
use lib.ListN.{length}
use lib.Dec.{T, eqb}
use Rattle.rules.specs.Numbers.{sum_to, largest_to}
use Rattle.rules.specs.Records.{task_count, task_at, transactions, number_of}
use Rattle.rules.specs.Chains.{weight, Path, All, Largest, related, size_at, priority_at, in_transaction, TransactionBound}
use Rattle.rules.proofs.Tests.{T_true}
use Rattle.rules.proofs.Numbers.{largest_to-sum, sum_to_least, sum_to_rest, sum_to_light, sum_to_both, sum_to_once}
use Rattle.rules.proofs.Table.Order.{Rises, one_with}
use Rattle.rules.proofs.Related.{Climbing, related_rises}
use Rattle.rules.proofs.FourBounds.Order.{level, levels, path_climbs}

-- 64 tasks of at most 65,535 bytes weigh at most 4,194,240
pub total_within : (S : ℕ → ℕ) (n : ℕ) → n ≤ 64 → ((i : ℕ) → i < n → S i ≤ 65535) → sum_to S n ≤ 4194240
total_within S n few light = omega (arith, sum_to_light S n light)

-- a list of tasks that pass a test weighs the same where only those count
weight_only : (S : ℕ → ℕ) (test : ℕ → Bool) (c : List ℕ) → All test c → weight S c ≡ weight (λ k. cond (test k) (S k) 0) c
weight_only S test [] h = refl
weight_only S test (i ∷ c) h = rw (T_true (test i) h.0) (omega (arith, weight_only S test c h.1))

-- where a task passes at most one of m tests, what passes each of them is together at most what all tasks weigh
shared_out : (S : ℕ → ℕ) (test : ℕ → ℕ → Bool) (m n : ℕ)
    → ((i t u : ℕ) → i < n → t < m → u < m → test t i ≡ true → test u i ≡ true → t ≡ u)
    → sum_to (λ t. sum_to (λ i. cond (test t i) (S i) 0) n) m ≤ sum_to S n
unfolding sum_to
shared_out S test m zero one = omega (arith, sum_to_rest (λ t. sum_to (λ i. cond (test t i) (S i) 0) zero) 0 m (omega arith) (λ t l h. refl))
shared_out S test m (suc n) one =
    omega (
      arith,
      sum_to_both (λ t. sum_to (λ i. cond (test t i) (S i) 0) n) (λ t. cond (test t n) (S n) 0) m,
      shared_out S test m n (λ i t u h. one i t u (omega arith)),
      sum_to_once (λ t. test t n) (S n) m (λ t u. one n t u (omega arith)),
    )

-- the levels are at most what all tasks weigh, as a task has one priority
pub levels≤total : (S P : ℕ → ℕ) (n : ℕ) → levels S P n ≤ sum_to S n
levels≤total S P n =
    omega (
      arith,
      sum_to_least (λ p. sum_to (at p) n) (level S P n) (largest_to P n + 1) (λ p h. largest_to-sum (at p) n),
      shared_out S (λ p i. eqb (P i) p) (largest_to P n + 1) n
          (λ i p q h k l here there. sym (eqb-true (P i) p here) ∙ eqb-true (P i) q there),
    )
  where
    at : ℕ → ℕ → ℕ
    at p i = cond (eqb (P i) p) (S i) 0

-- where a task passes at most one of m tests, the path bounds of those that pass each are together at most what all tasks
-- weigh
pub own-paths≤total : (n : ℕ) (R : ℕ → ℕ → Bool) (S P : ℕ → ℕ) → ((i j : ℕ) → i < n → j < n → T (R i j) → P i < P j)
    → (test : ℕ → ℕ → Bool) (m : ℕ) (each : ℕ → ℕ)
    → ((i t u : ℕ) → i < n → t < m → u < m → test t i ≡ true → test u i ≡ true → t ≡ u)
    → ((t : ℕ) → t < m → Largest (λ c. Path n R c × All (test t) c) (weight S) (each t))
    → sum_to each m ≤ sum_to S n
own-paths≤total n R S P rises test m each one bound =
    omega (arith, sum_to_least (λ t. sum_to (only t) n) each m part, shared_out S test m n one)
  where
    only : ℕ → ℕ → ℕ
    only t k = cond (test t k) (S k) 0

    part : (t : ℕ) → t < m → each t ≤ sum_to (only t) n
    part t h =
        let (c, (path, all), same) = (bound t h).reached in
        omega (arith, weight_only S (test t) c all, path_climbs n R (only t) P rises c path, levels≤total (only t) P n)

-- so the bound by transactions is at most what all tasks weigh, where the numbers of the transactions rise
pub transactions≤total : (rs : List (List ℕ)) → Climbing rs → (rows : List ℕ) (r : ℕ) → Rises number_of (transactions rs) → TransactionBound rs rows r
    → r ≤ sum_to (size_at rs) (task_count rs)
transactions≤total rs climbing rows r rise bound =
    omega (
      arith,
      bound.total,
      own-paths≤total (task_count rs) (related rs rows) (size_at rs) (priority_at rs) (λ i j h k. related_rises rs climbing rows i j)
          (in_transaction rs) (length (transactions rs)) bound.each
          (λ i t u h. one_with (transactions rs) rise (task_at rs i).transaction t u) bound.bound,
    )
