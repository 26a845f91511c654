-- What refusal 8 leaves of a table: the transactions and tasks that its records name are listed, and where.
use Prim.Native.Nat.{ℕ, ◌<◌}
use mathlib.Core.List.{List, []}
use mathlib.Core.Bool.{Bool, true, false, ◌||◌, not}
use mathlib.Core.Path.{◌≡◌, refl}
use native.Mathlib.Omega.{arith}
use borrow.Author.Tests.{eqb-true, eq-eqb, ne_eqb, ltb-true, not-false}
use lib.ListN.{length, get_or}
use lib.Dec.{eqb, ltb}
use Rattle.rules.specs.Numbers.{Bytes, le4}
use Rattle.rules.specs.Blocks.{records}
use Rattle.rules.specs.Records.{kind_of, number_of, second_of, of_kind, transactions, tasks, pairs, task_count, task_at, place_of, listed, period_in, reference_wrong}
use Rattle.rules.specs.Refusals.{accepted, reference_refusal, table_verdict}
use Rattle.rules.proofs.Numbers.{lowest_here, lowest-none, lowest_passes, some_true}
use Rattle.rules.proofs.Tests.{neither_first, neither_second}
use Rattle.rules.proofs.Refusals.{accepted_parts, linked_references, no_fault_at}
use Rattle.rules.proofs.Table.Kinds.{kind_of_kind, of_kind_each}
use Rattle.rules.proofs.Table.Order.{Rises}
use Rattle.rules.proofs.Table.Shape.{Shape, shape_of}

-- a listed number has a place
pub place_below : (l : List (List ℕ)) (x : ℕ) → listed l x ≡ true → place_of l x < length l
place_below l x h = ltb-true (place_of l x) (length l) h

-- the record there has that number
pub number_at_place : (l : List (List ℕ)) (x : ℕ) → listed l x ≡ true → number_of (get_or l (place_of l x) []) ≡ x
number_at_place l x h =
    eqb-true (number_of (get_or l (place_of l x) [])) x
    (lowest_passes (λ k. eqb (number_of (get_or l k [])) x) (length l) (place_below l x h))

-- the number of a record of the list is listed
pub listed_here : (l : List (List ℕ)) (i : ℕ) → i < length l → listed l (number_of (get_or l i [])) ≡ true
listed_here l i h =
    some_true (λ k. eqb (number_of (get_or l k [])) (number_of (get_or l i []))) (length l) i h
    (eq-eqb (number_of (get_or l i [])) (number_of (get_or l i [])) refl)

-- and where the numbers rise, its place is that record's
pub place_of_number : (l : List (List ℕ)) → Rises number_of l → (i : ℕ) → i < length l → place_of l (number_of (get_or l i [])) ≡ i
place_of_number l rises i h =
    let here : ℕ → Bool = λ k. eqb (number_of (get_or l k [])) (number_of (get_or l i [])) in
    lowest_here here i (length l)
    (lowest-none here i (λ k b. ne_eqb (number_of (get_or l k [])) (number_of (get_or l i [])) (λ e. omega (arith, rises k i b h))))
    (eq-eqb (number_of (get_or l i [])) (number_of (get_or l i [])) refl)
    h

-- the transaction of each task is listed and its period is above the task's offset, and both tasks of each pair are listed
pub record Listed (rs : List (List ℕ)) : Type 0 where
  pub transaction_listed : (i : ℕ) → i < task_count rs → listed (transactions rs) (task_at rs i).transaction ≡ true
  pub offset_below : (i : ℕ) → i < task_count rs → (task_at rs i).offset < period_in rs (task_at rs i).transaction
  pub first_listed : (i : ℕ) → i < length (pairs rs) → listed (tasks rs) (number_of (get_or (pairs rs) i [])) ≡ true
  pub second_listed : (i : ℕ) → i < length (pairs rs) → listed (tasks rs) (second_of (get_or (pairs rs) i [])) ≡ true

-- what it says of one task, and of one pair, that it is not found wrong
module _ (rs : List (List ℕ)) (r : List ℕ) (right : reference_wrong rs r ≡ false) where
  -- the test of a task, and of a pair
  of_task : kind_of r ≡ 2 → (not (listed (transactions rs) (second_of r)) || not (ltb (le4 r 8) (period_in rs (second_of r)))) ≡ false
  unfolding reference_wrong
  of_task e = rw (eq-eqb (kind_of r) 2 e) at right

  of_pair : kind_of r ≡ 3 → (not (listed (tasks rs) (number_of r)) || not (listed (tasks rs) (second_of r))) ≡ false
  unfolding reference_wrong
  of_pair e = rw (ne_eqb (kind_of r) 2 (λ o. omega arith), eq-eqb (kind_of r) 3 e) at right

  -- a task's transaction is listed
  task_transaction : kind_of r ≡ 2 → listed (transactions rs) (second_of r) ≡ true
  task_transaction e =
      not-false (listed (transactions rs) (second_of r)) (neither_first (not (listed (transactions rs) (second_of r))) _ (of_task e))

  -- its offset is below that transaction's period
  task_offset : kind_of r ≡ 2 → le4 r 8 < period_in rs (second_of r)
  task_offset e =
      ltb-true (le4 r 8) (period_in rs (second_of r))
      (not-false (ltb (le4 r 8) (period_in rs (second_of r))) (neither_second (not (listed (transactions rs) (second_of r))) _ (of_task e)))

  -- both tasks of a pair are listed
  pair_first : kind_of r ≡ 3 → listed (tasks rs) (number_of r) ≡ true
  pair_first e = not-false (listed (tasks rs) (number_of r)) (neither_first (not (listed (tasks rs) (number_of r))) _ (of_pair e))

  pair_second : kind_of r ≡ 3 → listed (tasks rs) (second_of r) ≡ true
  pair_second e = not-false (listed (tasks rs) (second_of r)) (neither_second (not (listed (tasks rs) (number_of r))) _ (of_pair e))

-- where refusal 8 finds no fault, all that the records name is listed
module _ (rs : List (List ℕ)) (h : accepted (reference_refusal rs) ≡ true) where
  -- no record of one kind is found wrong
  right_of_kind : (x i : ℕ) → i < length (of_kind x rs) → reference_wrong rs (get_or (of_kind x rs) i []) ≡ false
  right_of_kind x =
      of_kind_each (λ r. reference_wrong rs r ≡ false) x rs
      (no_fault_at 8 (λ j. reference_wrong rs (get_or rs j [])) (length rs) (omega arith) h)

  -- so all is listed
  pub listed_of : Listed rs
  listed_of =
      record {
        transaction_listed = λ i l. task_transaction rs (get_or (tasks rs) i []) (right_of_kind 2 i l) (kind_of_kind 2 rs i l);
        offset_below = λ i l. task_offset rs (get_or (tasks rs) i []) (right_of_kind 2 i l) (kind_of_kind 2 rs i l);
        first_listed = λ i l. pair_first rs (get_or (pairs rs) i []) (right_of_kind 3 i l) (kind_of_kind 3 rs i l);
        second_listed = λ i l. pair_second rs (get_or (pairs rs) i []) (right_of_kind 3 i l) (kind_of_kind 3 rs i l);
      }

-- what an accepted table gives
pub table_of : (image : List ℕ) → Bytes image → accepted (table_verdict image) ≡ true → Shape (records image) × Listed (records image)
table_of image bytes h =
    let (sound, linked) = accepted_parts image h in
    (shape_of image bytes sound, listed_of (records image) (linked_references (records image) linked))
