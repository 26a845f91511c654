-- The path bounds of each transaction's own tasks, added up one by one.
use Prim.Native.Nat.{ℕ, ◌+◌, ◌-◌, ◌≤◌, ◌<◌}
use mathlib.Core.List.{List, []}
use mathlib.Core.Bool.{Bool, cond}
use mathlib.Core.Path.{◌≡◌, refl, sym, ap, ◌∙◌}
use native.Mathlib.Omega.{arith}
use borrow.Author.Tests.{lt-ltb, ltb-true, eqb-true, eqb-false, eq-eqb, ne_eqb}
use lib.ListN.{length, get_or}
use lib.Dec.{T, ltb, eqb}
use Rattle.rules.specs.Numbers.{sum_to, lowest}
use Rattle.rules.specs.Records.{number_of}
use Rattle.rules.specs.Preempt.{cell, row_from, bit_at}
use Rattle.rules.specs.Chains.{weight, Path, All, Largest}
use Rattle.rules.proofs.Numbers.{either, lowest_passes, sum_to_zero, sum_to_step, sum_to_ext}
use Rattle.rules.proofs.Tests.{both_first}
use Rattle.rules.proofs.Maps.{row_at}
use Rattle.rules.proofs.Table.Order.{Rises, one_with}
use Rattle.rules.proofs.FourBounds.Total.{total_within, own-paths≤total}
use Rattle.sets.specs.Bits.{has_number}
use Rattle.sets.specs.Places.{Inside}
use Rattle.ceiling.specs.Near.{size_of}
use Rattle.stack.specs.Setting.{Ready}
use Rattle.stack.specs.Paths.{LargestAt, PathSums, PathBound}
use Rattle.stack.proofs.Sums.{sums_bound}
use Rattle.stack.specs.Figures.{own_task, OwnPaths}
use Rattle.stack.proofs.Figures.{largest_as}

-- members of a number are places below the count
pub members_inside : (numbers : List ℕ) (count number set : ℕ) → count ≤ 64 → set ≡ row_from count (has_number numbers number) → Inside count set
members_inside numbers count number set most members j h =
    ltb-true j count (both_first (ltb j count) (has_number numbers number j) (sym (row_at count (has_number numbers number) j most) ∙ rw members at h))

-- the path bound inside a transaction's members is that of its own tasks
pub members_own : (n : ℕ) (rows sizes numbers : List ℕ) (listed : List (List ℕ)) (t number set r : ℕ) → number ≡ number_of (get_or listed t [])
    → n ≤ 64 → set ≡ row_from n (has_number numbers number) → PathBound n rows sizes set r
    → Largest (λ c. Path n (cell rows) c × All (own_task numbers listed t) c) (weight (size_of sizes)) r
members_own n rows sizes numbers listed t number set r here most members bound =
    largest_as n (cell rows) (bit_at set) (own_task numbers listed t) (size_of sizes) r
    (λ i h. rw (members, row_at n (has_number numbers number) i most, lt-ltb i n h, here)) bound

module _ (n : ℕ) (rows sizes numbers : List ℕ) (listed : List (List ℕ)) where
  pub own_none : OwnPaths n rows sizes numbers listed 0 0
  own_none = record { each = λ t. 0; bound = λ t h. absurd (omega arith); total = sym (sum_to_zero (λ t. 0)) }

  -- one more transaction adds its own bound
  pub own_more : (t total r : ℕ) → OwnPaths n rows sizes numbers listed t total
      → Largest (λ c. Path n (cell rows) c × All (own_task numbers listed t) c) (weight (size_of sizes)) r
      → OwnPaths n rows sizes numbers listed (t + 1) (total + r)
  own_more t total r own more =
      record {
        each = each;
        bound = λ k h.
            either (eqb k t)
            (λ u.
            let same = eqb-true k t u in
            rw (same, eq-eqb t t refl) more)
            (λ u. rw u (own.bound k (omega (arith, eqb-false k t u))));
        total =
            ap (λ (x : ℕ). x + r) (own.total ∙ sum_to_ext own.each each t (λ k h. rw (ne_eqb k t (λ e. omega arith))))
            ∙ ap (λ (x : ℕ). sum_to each t + x) last
            ∙ sym (sum_to_step each t);
      }
    where
      each : ℕ → ℕ
      each k = cond (eqb k t) r (own.each k)

      last : r ≡ each t
      last = rw (eq-eqb t t refl)

-- so the largest of the best sums inside a transaction's members is added
pub own_next : {n : ℕ} {rows sizes numbers : List ℕ} {listed : List (List ℕ)} {t total number set r : ℕ} {sums filled : List ℕ}
    → OwnPaths n rows sizes numbers listed t total → n ≤ 64 → number ≡ number_of (get_or listed t []) → set ≡ row_from n (has_number numbers number)
    → PathSums n rows sizes set sums filled → LargestAt filled set r → OwnPaths n rows sizes numbers listed (t + 1) (total + r)
own_next {n} {rows} {sizes} {numbers} {listed} {t} {total} {number} {set} {r} own few here members summed largest =
    own_more n rows sizes numbers listed t total r own
    (members_own n rows sizes numbers listed t number set r here few members (sums_bound n rows sizes set summed largest))

-- those that may preempt a task stand before it in the order, so that counted from the order's end places rise along a path
module _ {n : ℕ} {rows sizes order : List ℕ} (ready : Ready n rows sizes order) where
  -- place k of the order is i's
  abbrev at : ℕ → ℕ → Bool
  at i k = eqb (get_or order k 0) i

  -- each task has a place there
  stands : (i : ℕ) → i < n → (lowest (at i) n < n) × (get_or order (lowest (at i) n) 0 ≡ i)
  stands i h =
      let inside = ltb-true (lowest (at i) n) n (ready.occurs i h) in
      (inside, eqb-true (get_or order (lowest (at i) n) 0) i (lowest_passes (at i) n inside))

  rises_from_end : (i j : ℕ) → i < n → j < n → T (cell rows i j) → n - lowest (at i) n < n - lowest (at j) n
  rises_from_end i j h l may =
      let (inside, here) = stands i h in
      let (inside', here') = stands j l in
      omega (arith, ready.earlier (lowest (at i) n) (lowest (at j) n) inside inside' (rw (here, here') may))

  -- so that what the listed transactions add up to, passed one by one, is never above what all tasks weigh
  pub own_within : (numbers : List ℕ) (listed : List (List ℕ)) (m r : ℕ) → Rises number_of listed → m ≤ length listed
      → OwnPaths n rows sizes numbers listed m r → r ≤ 4194240
  own_within numbers listed m r rise few own =
      omega (
        arith,
        own.total,
        own-paths≤total n (cell rows) (size_of sizes) (λ i. n - lowest (at i) n) rises_from_end (own_task numbers listed) m own.each
            (λ i t u h k l. one_with listed rise (get_or numbers i 0) t u (omega arith) (omega arith)) own.bound,
        total_within (size_of sizes) n ready.arrays.few ready.arrays.light,
      )
