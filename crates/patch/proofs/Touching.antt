-- Sets of places: a set marks the places that pass a test, bit by bit.
use Prim.Native.Nat.{ℕ, ◌+◌, ◌^◌, ◌<◌}
use mathlib.Core.List.{List}
use mathlib.Core.Bool.{Bool, false, ◌||◌}
use mathlib.Core.Path.{◌≡◌, sym, ◌∙◌}
use native.Mathlib.Omega.{arith}
use borrow.Author.Tests.{eqb-true, eq-eqb, ne_eqb, lt-ltb, le-ltb, ltb-true, ltb-false}
use lib.Bits.{bit_or}
use lib.Dec.{ltb, eqb}
use lib.ListN.{get_or}
use Rattle.rules.specs.Numbers.{some}
use Rattle.rules.specs.Blocks.{records}
use Rattle.rules.specs.Preempt.{row_from}
use Rattle.rules.specs.Records.{kind_of, number_of, second_of, tasks}
use Rattle.rules.specs.Patches.{concerns}
use Rattle.rules.proofs.Numbers.{either, never, lowest_passes, lowest_below, lowest_zero, some_false, some_more}
use Rattle.rules.proofs.Bits.{bit_none, bit_of_power, bit-or}
use Rattle.rules.proofs.Maps.{row_at}
use Rattle.rules.proofs.Tests.{same_tests}
use Rattle.table.specs.Numbers.{Rising, Directory}
use Rattle.table.proofs.Tables.{shape, few_records}
use Rattle.preempt.specs.declared.tasks.Tasks.{Tasks}
use Rattle.preempt.proofs.Reading.{ids_directory}
use Rattle.sets.specs.Bits.{has_number}
use Rattle.patch.specs.declared.related.Related.{Related}
use Rattle.patch.specs.Touched.{Marks, has_id, place_with, beside_in}

-- of numbers that rise no two are equal
pub rising_apart : (ids : List ℕ) (count : ℕ) → Rising ids count → (i j : ℕ) → i < count → j < count → get_or ids i 0 ≡ get_or ids j 0 → i ≡ j
rising_apart ids count rising i j l m same =
    either (ltb i j)
    (λ t. absurd (omega (arith, rising i j (ltb-true i j t) m)))
    (λ t.
    either (ltb j i)
    (λ u. absurd (omega (arith, rising j i (ltb-true j i u) l)))
    (λ u. omega (arith, ltb-false i j t, ltb-false j i u)))

module _ (t : Tasks) where
  -- the ids are listed as they rise
  pub ids_listed : Directory (tasks (records t.table.image.now)) t.columns.ids t.table.tasks
  ids_listed = ids_directory (records t.table.image.now) t.table.tasks t.columns (shape t.table) t.read

  -- no place is in the empty set
  pub marks_none : (test : ℕ → Bool) → ((i : ℕ) → i < t.table.tasks → test i ≡ false) → Marks t test 0
  marks_none test none i l = bit_none i ∙ sym (none i l)

  -- the tasks of a transaction
  pub marks_members : (number set : ℕ) → set ≡ row_from t.table.tasks (has_number t.columns.transactions number)
      → Marks t (λ i. eqb number (get_or t.columns.transactions i 0)) set
  marks_members number set members i l =
      let here = get_or t.columns.transactions i 0 in
      rw (members, row_at t.table.tasks (has_number t.columns.transactions number) i (few_records t.table).1, lt-ltb i t.table.tasks l)
      (same_tests (eqb here number) (eqb number here)
      (λ u. eq-eqb number here (sym (eqb-true here number u)))
      (λ u. eq-eqb here number (sym (eqb-true number here u))))

  -- two sets together
  pub marks_either : (test other : ℕ → Bool) (a b : ℕ) → Marks t test a → Marks t other b → Marks t (λ i. test i || other i) (bit_or a b)
  marks_either test other a b p q i l = bit-or a b i ∙ rw (p i l, q i l)

  -- places that pass one of the tests below k
  module _ (test : ℕ → ℕ → Bool) where
    -- below 0 there is no test
    pub marks_start : Marks t (λ i. some (test i) 0) 0
    marks_start = marks_none (λ i. some (test i) 0) (λ i l. some_false (test i) 0 (lowest_zero (test i)))

    -- one more test adds the places that pass it
    pub marks_more : (k a b : ℕ) → Marks t (λ i. some (test i) k) a → Marks t (λ i. test i k) b → Marks t (λ i. some (test i) (k + 1)) (bit_or a b)
    marks_more k a b p q i l = marks_either (λ j. some (test j) k) (λ j. test j k) a b p q i l ∙ sym (some_more (test i) k)

  -- an id that is found stands at its place alone
  pub marks_place : (x place : ℕ) → place ≡ place_with t x → place < t.table.tasks → Marks t (has_id t x) (2 ^ place)
  marks_place x place found inside i l =
      let ids = t.columns.ids in
      let here : get_or ids place 0 ≡ x = rw found (eqb-true (get_or ids (place_with t x) 0) x (lowest_passes (λ k. eqb (get_or ids k 0) x) t.table.tasks (omega arith))) in
      bit_of_power place i
      ∙ same_tests (eqb i place) (eqb x (get_or ids i 0))
      (λ u. eq-eqb x (get_or ids i 0) (rw (eqb-true i place u) (sym here)))
      (λ u. eq-eqb i place (rising_apart ids t.table.tasks ids_listed.rising i place l inside (sym (eqb-true x (get_or ids i 0) u) ∙ sym here)))

  -- and one that is not found stands nowhere
  pub marks_absent : (x : ℕ) → place_with t x ≡ t.table.tasks → Marks t (has_id t x) 0
  marks_absent x none =
      let ids = t.columns.ids in
      marks_none (has_id t x)
      (λ i l.
      ne_eqb x (get_or ids i 0)
      (λ e.
      never (eqb (get_or ids i 0) x) (eq-eqb (get_or ids i 0) x (sym e)) (lowest_below (λ k. eqb (get_or ids k 0) x) t.table.tasks i (omega arith))))

-- the row of a task that is found holds the places before or after it, and one that is not found has none
module _ (r : Related) where
  pub marks_beside : (x place : ℕ) → place ≡ place_with r.tasks x → place < r.tasks.table.tasks → Marks r.tasks (beside_in r x) (get_or r.beside place 0)
  marks_beside x place found inside i l = rw (← found, lt-ltb place r.tasks.table.tasks inside)

  pub marks_beside-none : (x : ℕ) → place_with r.tasks x ≡ r.tasks.table.tasks → Marks r.tasks (beside_in r x) 0
  marks_beside-none x none =
      marks_none r.tasks (beside_in r x) (λ i l. rw (none, le-ltb r.tasks.table.tasks r.tasks.table.tasks (omega arith)))

-- whether a patch record concerns a task, by the record's kind
module _ (p : List ℕ) (id transaction : ℕ) where
  -- a transaction's record concerns the tasks of the transaction
  pub concerns_transaction : kind_of p ≡ 1 → eqb (number_of p) transaction ≡ concerns p id transaction
  concerns_transaction kind = rw kind

  -- a task's record concerns the task
  pub concerns_task : kind_of p ≡ 2 → eqb (number_of p) id ≡ concerns p id transaction
  concerns_task kind = rw kind (either (eqb (number_of p) id) (λ t. rw t) (λ t. rw t))

  -- a pair concerns the two that it names
  pub concerns_pair : kind_of p ≡ 3 → (eqb (number_of p) id || eqb (second_of p) id) ≡ concerns p id transaction
  concerns_pair kind = rw kind (either (eqb (number_of p) id || eqb (second_of p) id) (λ t. rw t) (λ t. rw t))

  -- a record of another kind concerns none
  pub concerns-none : (kind_of p ≡ 1 → ⊥) → (kind_of p ≡ 2 → ⊥) → (kind_of p ≡ 3 → ⊥) → concerns p id transaction ≡ false
  concerns-none first second third = rw (ne_eqb (kind_of p) 1 first, ne_eqb (kind_of p) 2 second, ne_eqb (kind_of p) 3 third)

-- what looking up a task by its id asks for
pub ruleset finding = (ids_listed, few_records)
