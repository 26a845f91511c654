-- Laws of the largest size at each priority: priorities above the largest in use add nothing to the sum.
use Prim.Native.Nat.{ℕ, zero, suc, ◌+◌, ◌*◌, ◌≤◌, ◌<◌, max}
use mathlib.Core.List.{List, [], ◌∷◌}
use mathlib.Core.Bool.{true, false}
use mathlib.Core.Path.{◌≡◌, refl, ap, sym, ◌∙◌}
use native.Mathlib.Omega.{arith}
use borrow.Author.Tests.{eqb-true, eqb-false, ne_eqb}
use lib.Dec.{eqb}
use Rattle.std.proofs.Common.{sum}
use Rattle.std.proofs.lemmas.List.Sums.{sum_by-cons}
use lib.ListN.{length, get_or, set as set_at, length-set}
use lib.Seq.{get_or-set_same, get_or-set_other}
use Rattle.rules.specs.Numbers.{sum_to, largest_to}
use Rattle.rules.proofs.Numbers.{either, largest_to_step, largest_to_most, sum_to_rest, sum_to_ext, sum_to_light}
use Rattle.stack.specs.Setting.{Arrays, RowsRise}
use Rattle.stack.specs.Levels.{size_with, level_in, levels_of, Blank, LargestSizes}

-- a sum from the first number on
sum_to_front : (f : ℕ → ℕ) (n : ℕ) → sum_to f (suc n) ≡ f 0 + sum_to (λ i. f (suc i)) n
unfolding sum_to
sum_to_front f zero = omega arith
sum_to_front f (suc n) = omega (arith, sum_to_front f n)

-- the sum of a list is that of its elements by place
pub sum_by_place : (l : List ℕ) → sum l ≡ sum_to (λ i. get_or l i 0) (length l)
unfolding sum_to
sum_by_place [] = refl
sum_by_place (x ∷ l) = sum_by-cons (λ (n : ℕ). n) x l ∙ ap (λ (n : ℕ). x + n) (sum_by_place l) ∙ sym (sum_to_front (λ i. get_or (x ∷ l) i 0) (length l))

-- the largest is at most what each number is at most
pub largest_to_light : (f : ℕ → ℕ) (n most : ℕ) → ((i : ℕ) → i < n → f i ≤ most) → largest_to f n ≤ most
unfolding largest_to
largest_to_light f zero most h = omega arith
largest_to_light f (suc n) most h = omega (arith, largest_to_light f n most (λ i l. h i (omega arith)), h n (omega arith))

module _ {count : ℕ} {rows priorities sizes : List ℕ} (arrays : Arrays count rows sizes) (rising : RowsRise count rows priorities) where
  -- no priority in use is above 255
  priorities_light : largest_to (λ i. get_or priorities i 0) count ≤ 255
  priorities_light = largest_to_light (λ i. get_or priorities i 0) count 255 rising.most

  -- no level is above the largest size
  pub level_light : (p : ℕ) → level_in priorities sizes count p ≤ 65535
  level_light p =
      largest_to_light (size_with priorities sizes p) count 65535
      (λ i below.
      either (eqb (get_or priorities i 0) p)
      (λ t. rw t (arrays.light i below))
      (λ t. rw t (omega arith)))

  -- a level above the largest priority in use is 0
  level_unused : (p : ℕ) → largest_to (λ i. get_or priorities i 0) count + 1 ≤ p → level_in priorities sizes count p ≡ 0
  level_unused p above = omega (arith, largest_to_light (size_with priorities sizes p) count 0 unused)
    where
      unused : (i : ℕ) → i < count → size_with priorities sizes p i ≤ 0
      unused i below =
          rw (ne_eqb (get_or priorities i 0) p (λ e. omega (arith, largest_to_most (λ k. get_or priorities k 0) count i below))) (omega arith)

  -- so the levels of all 256 priorities add up to the same
  pub levels_all : sum_to (level_in priorities sizes count) 256 ≡ levels_of priorities sizes count
  levels_all =
      sum_to_rest (level_in priorities sizes count) (largest_to (λ i. get_or priorities i 0) count + 1) 256 (omega (arith, priorities_light)) (λ p above h. level_unused p above)

  -- and so do the largest sizes, which leave room for their sum
  module _ {largest : List ℕ} (made : LargestSizes count priorities sizes largest) where
    pub sizes_sum : sum largest ≡ levels_of priorities sizes count
    sizes_sum =
        sum_by_place largest
        ∙ ap (sum_to (λ p. get_or largest p 0)) made.priority_count
        ∙ sum_to_ext (λ p. get_or largest p 0) (level_in priorities sizes count) 256 (λ p h. made.levels p)
        ∙ levels_all

    pub sizes_fit : sum largest ≤ 65535 * 256
    sizes_fit = omega (arith, sizes_sum, levels_all, sum_to_light (level_in priorities sizes count) 256 (λ p h. level_light p))

-- with no task every level is 0
pub sizes_none : {priorities sizes largest : List ℕ} → Blank largest → LargestSizes 0 priorities sizes largest
unfolding largest_to
sizes_none blank =
    record {
      priority_count = blank.priority_count;
      levels = blank.zero;
    }

module _ {place : ℕ} {priorities sizes largest : List ℕ} (so_far : LargestSizes place priorities sizes largest) where
  -- one more task changes the level of its own priority alone
  level_same : (p : ℕ) → eqb (get_or priorities place 0) p ≡ true → level_in priorities sizes (place + 1) p ≡ max (get_or largest p 0) (get_or sizes place 0)
  level_same p same = rw (largest_to_step (size_with priorities sizes p) place, same, so_far.levels p)

  level_other : (p : ℕ) → eqb (get_or priorities place 0) p ≡ false → get_or largest p 0 ≡ level_in priorities sizes (place + 1) p
  level_other p other = rw (largest_to_step (size_with priorities sizes p) place, other, so_far.levels p) (omega arith)

  -- a larger size takes the level's place
  pub sizes_taken : get_or priorities place 0 < 256 → get_or largest (get_or priorities place 0) 0 ≤ get_or sizes place 0
      → LargestSizes (place + 1) priorities sizes (set_at largest (get_or priorities place 0) (get_or sizes place 0))
  sizes_taken room larger =
      let priority : ℕ = get_or priorities place 0 in
      let size : ℕ = get_or sizes place 0 in
      record {
        priority_count = length-set largest priority size ∙ so_far.priority_count;
        levels = λ p.
            either (eqb priority p)
            (λ t.
            let same : size ≡ level_in priorities sizes (place + 1) priority = omega (arith, level_same priority (rw (sym (eqb-true priority p t)) at t)) in
            rw (sym (eqb-true priority p t)) (get_or-set_same largest priority size 0 (omega (arith, so_far.priority_count)) ∙ same))
            (λ t. get_or-set_other largest priority p size 0 (λ e. eqb-false priority p t (sym e)) ∙ level_other p t);
      }

  -- any other leaves it as it was
  pub sizes_kept : get_or sizes place 0 ≤ get_or largest (get_or priorities place 0) 0 → LargestSizes (place + 1) priorities sizes largest
  sizes_kept smaller =
      record {
        priority_count = so_far.priority_count;
        levels = λ p.
            either (eqb (get_or priorities place 0) p)
            (λ t.
            let e : get_or priorities place 0 ≡ p = eqb-true (get_or priorities place 0) p t in
            let at_p : get_or sizes place 0 ≤ get_or largest p 0 = rw e at smaller in
            omega (arith, level_same p t))
            (λ t. level_other p t);
      }
