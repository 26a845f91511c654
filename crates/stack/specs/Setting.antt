-- What is known of the tasks that bounds are found for.
use Rattle.std.specs.Prelude.{ℕ, ◌≤◌, ◌<◌, List, true, ◌≡◌, length, get_or, T, eqb}
use Rattle.rules.specs.Numbers.{some}
use Rattle.rules.specs.Preempt.{cell}

-- n tasks, their map and their sizes
pub record Arrays (n : ℕ) (rows sizes : List ℕ) : Type 0 where
  pub few : n ≤ 64
  pub row_count : length rows ≡ 64
  pub size_count : length sizes ≡ 64
  pub light : (i : ℕ) → i < n → get_or sizes i 0 ≤ 65535

-- and an order of their places in which those that may preempt a task stand before it
pub record Ready (n : ℕ) (rows sizes order : List ℕ) : Type 0 where
  pub arrays : Arrays n rows sizes
  pub order_count : length order ≡ 64
  pub places : (k : ℕ) → k < n → get_or order k 0 < n
  pub occurs : (i : ℕ) → i < n → some (λ k. eqb (get_or order k 0) i) n ≡ true
  pub earlier : (k m : ℕ) → k < n → m < n → T (cell rows (get_or order k 0) (get_or order m 0)) → m < k

-- a task may only be preempted by a task of higher priority, and priorities go from 1 to 255
pub record RowsRise (n : ℕ) (rows priorities : List ℕ) : Type 0 where
  pub priority_count : length priorities ≡ 64
  pub tasks : (i j : ℕ) → T (cell rows i j) → (i < n) × (j < n)
  pub rises : (i j : ℕ) → i < n → j < n → T (cell rows i j) → get_or priorities i 0 < get_or priorities j 0
  pub least : (i : ℕ) → i < n → 1 ≤ get_or priorities i 0
  pub most : (i : ℕ) → i < n → get_or priorities i 0 ≤ 255
