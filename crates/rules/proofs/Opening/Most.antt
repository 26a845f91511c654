-- No more chains are opened than the product over the priorities: what extends a chain has a higher priority, so at each
-- priority a chain has one of its tasks or none.
use Prim.Native.Nat.{ℕ, zero, suc, ◌+◌, ◌-◌, ◌*◌, ◌≤◌, ◌<◌}
use mathlib.Core.List.{List, [], ◌∷◌, ◌++◌}
use mathlib.Core.Bool.{Bool, true, cond}
use mathlib.Core.Path.{◌≡◌, refl, ap}
use native.Mathlib.Omega.{arith}
use borrow.Author.Tests.{leb-true, leb-false, eqb-true, eqb-false, le-leb, lt-leb, eq-eqb}
use lib.Dec.{T, leb, eqb}
use Rattle.rules.specs.Numbers.{sum_to, product_to, count_to}
use Rattle.rules.specs.Blocks.{records}
use Rattle.rules.specs.Records.{task_count}
use Rattle.rules.specs.Chains.{related, size_at, priority_at}
use Rattle.rules.specs.Opening.{preempts_all, Opens, Extends, OpensInAll, most_opened}
use Rattle.rules.specs.Opening.Opens.{alone, extended}
use Rattle.rules.specs.Opening.Extends.{past_last, passed_over, opened}
use Rattle.rules.specs.Refusals.{accepted, table_verdict}
use Rattle.rules.proofs.Numbers.{either, sum_to_step, sum_to_zero, sum_to_ext, sum_to_both, sum_to_rest, sum_to_passed, product_from, product_whole}
use Rattle.rules.proofs.Tests.{true_T}
use Rattle.rules.proofs.Related.{Climbing, related_rises}
use Rattle.rules.proofs.FourBounds.Order.{size_in_level}
use Rattle.rules.proofs.FourBounds.Accepted.{accepted_climbing}
use Rattle.rules.proofs.Enumerate.{top_of}
use Rattle.rules.proofs.Opening.Ends.{preempts_last}

-- in how many ways a chain meets the rank: it has one of the places there, or none
abbrev pub ways : (ℕ → ℕ) → ℕ → ℕ → ℕ
ways P n p = 1 + count_to (λ i. eqb (P i) p) n

-- what the places of rank m and above may open, where a place of rank p opens so many chains as q says of p + 1
abbrev share : (ℕ → ℕ) → (ℕ → ℕ) → ℕ → ℕ → ℕ
share P q m j = cond (leb m (P j)) (q (P j + 1)) 0

-- a rank below top rises along the relation
module _ (n : ℕ) (R : ℕ → ℕ → Bool) (S P : ℕ → ℕ) (top : ℕ) (rises : (i j : ℕ) → T (R i j) → P i < P j)
    (below : (i : ℕ) → i < n → P i < top) where
  -- what may preempt all of the chain has rank m or above
  abbrev From : ℕ → List ℕ → Type 0
  From m c = (j : ℕ) → j < n → T (preempts_all R c j) → m ≤ P j

  -- a number for each rank that pays for a chain and for all that extends it by places of this rank and above
  module _ (q : ℕ → ℕ) (pays : (m : ℕ) → m ≤ top → 1 + sum_to (share P q m) n ≤ q m) where
    mutual
      -- pays for all that is opened
      opens_most : {c : List ℕ} {best count later : ℕ} → Opens n R S c best count later → (m : ℕ) → m ≤ top → From m c → count ≤ q m
      opens_most (alone p l e f) m within from = omega (arith, pays m within)
      opens_most (extended p l x e) m within from =
          omega (arith, pays m within, extends_most x m within from, sum_to_zero (share P q m))

      extends_most : {c : List ℕ} {k best count later : ℕ} → Extends n R S c k best count later → (m : ℕ) → m ≤ top → From m c
          → count + sum_to (share P q m) k ≤ sum_to (share P q m) n
      extends_most (past_last a b d) m within from = rw a (omega arith)
      extends_most {k = k} (passed_over l t x) m within from =
          omega (arith, extends_most x m within from, sum_to_step (share P q m) k)
      extends_most {c = c} {k = k} (opened l t o x e) m within from =
          let low : m ≤ P k = from k l (true_T (preempts_all R c k) t) in
          let here : share P q m k ≡ q (P k + 1) = rw (le-leb m (P k) low) in
          let higher : From (P k + 1) (c ++ (k ∷ [])) = λ j h u. omega (arith, rises k j (preempts_last R c k j u).1) in
          omega (
            arith,
            opens_most o (P k + 1) (omega (arith, below k l)) higher,
            extends_most x m within from,
            sum_to_step (share P q m) k,
            here,
          )

  -- the product over the ranks from m on
  abbrev product : ℕ → ℕ
  product m = product_from (ways P n) m (top - m)

  -- the places of rank m and above are those of rank m and those above it
  share_parts : (m j : ℕ) → share P product m j ≡ share P product (m + 1) j + cond (eqb (P j) m) (product (m + 1)) 0
  share_parts m j =
      either (eqb (P j) m)
      (λ t.
      let e : P j ≡ m = eqb-true (P j) m t in
      rw (e, eq-eqb m m refl, le-leb m m (omega arith), lt-leb (m + 1) m (omega arith)) (omega arith))
      (λ t.
      let differ = eqb-false (P j) m t in
      either (leb m (P j))
      (λ u.
      let above : m + 1 ≤ P j = omega (arith, leb-true m (P j) u) in
      rw (t, u, le-leb (m + 1) (P j) above) (omega arith))
      (λ u. rw (t, u, lt-leb (m + 1) (P j) (omega (arith, leb-false m (P j) u)))))

  -- so the product pays
  product_pays : (left m : ℕ) → m + left ≡ top → 1 + sum_to (share P product m) n ≤ product_from (ways P n) m left
  unfolding product_from
  product_pays zero m end =
      let none : (j : ℕ) → 0 ≤ j → j < n → share P product m j ≡ 0 = λ j h l. rw (lt-leb m (P j) (omega (arith, below j l))) in
      omega (arith, sum_to_zero (share P product m), sum_to_rest (share P product m) 0 n (omega arith) none)
  product_pays (suc left) m end =
      let above : ℕ → ℕ = share P product (m + 1) in
      let here : ℕ → ℕ = λ j. cond (eqb (P j) m) (product (m + 1)) 0 in
      let same : top - (m + 1) ≡ left = omega arith in
      omega (
        arith,
        sum_to_ext (share P product m) (λ j. above j + here j) n (λ j l. share_parts m j),
        sum_to_both above here n,
        sum_to_passed (λ j. eqb (P j) m) (product (m + 1)) n,
        ap (λ left'. count_to (λ j. eqb (P j) m) n * product_from (ways P n) (m + 1) left') same,
        product_pays left (m + 1) (omega arith),
      )

  -- and so it does for all that is opened
  pub opened_most : {best count later : ℕ} → Opens n R S [] best count later → count ≤ product_to (ways P n) top
  opened_most opens =
      let pays : (m : ℕ) → m ≤ top → 1 + sum_to (share P product m) n ≤ product m = λ m l. product_pays (top - m) m (omega arith) in
      let most = opens_most product pays opens 0 (omega arith) (λ j l t. omega arith) in
      let same : top - 0 ≡ top = omega arith in
      omega (arith, rw same at most, product_whole (ways P n) top)

-- no more chains of a table are opened than the product over the priorities in use, where tasks yield only to higher ones
pub opened_at_most : (rs : List (List ℕ)) (rows : List ℕ) → Climbing rs
    → (count : ℕ) → OpensInAll rs rows count → count ≤ most_opened rs
opened_at_most rs rows climbing count counted =
    opened_most (task_count rs) (related rs rows) (size_at rs) (priority_at rs) (top_of rs) (related_rises rs climbing rows)
    (λ i l. (size_in_level (size_at rs) (priority_at rs) (task_count rs) i l).1) counted.opens

-- so it is in an accepted table
pub opened_at_most_accepted : (image rows : List ℕ) → accepted (table_verdict image) ≡ true
    → (count : ℕ) → OpensInAll (records image) rows count → count ≤ most_opened (records image)
opened_at_most_accepted image rows h = opened_at_most (records image) rows (accepted_climbing image h)
