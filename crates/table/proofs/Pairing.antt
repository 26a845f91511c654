-- What the first k pairs of a table name, by the places of their tasks: ids rise, so a pair names the tasks at two places and at no
-- others.
use Prim.Native.Nat.{ℕ, ◌+◌, ◌<◌}
use mathlib.Core.List.{List, []}
use mathlib.Core.Bool.{Bool, true, false, cond, ◌&&◌, ◌||◌, or-false}
use mathlib.Core.Path.{◌≡◌, refl, ap, sym, ◌∙◌}
use native.Mathlib.Omega.{arith}
use borrow.Author.Tests.{eq-eqb, ne_eqb, eqb-true, eqb-false, ltb-true, ltb-false}
use lib.Dec.{eqb, ltb}
use lib.ListN.{length, get_or}
use Rattle.rules.specs.Numbers.{some}
use Rattle.rules.specs.Records.{number_of, second_of, sort_of, tasks, pairs, task_count, task_at, place_of, listed}
use Rattle.rules.specs.Preempt.{names, paired, cell, map_from}
use Rattle.rules.proofs.Numbers.{either, lowest_zero, some_more, some_false}
use Rattle.rules.proofs.Table.Shape.{Shape}
use Rattle.rules.proofs.Table.Listed.{Listed, number_at_place, place_below}
use Rattle.rules.proofs.Maps.{map_ext}
use Rattle.sets.specs.Bits.{with_cell}
use Rattle.sets.specs.Closing.{IsMap}
use Rattle.sets.proofs.Maps.{map_marked}
use Rattle.table.specs.Precedence.{with_pairs}

-- one of the first k pairs is of this sort and names the task at place i first and the one at place j second
abbrev pub paired_to : ℕ → List (List ℕ) → ℕ → ℕ → ℕ → Bool
paired_to sort rs k i j =
    some (λ m. eqb (sort_of (get_or (pairs rs) m [])) sort && names (get_or (pairs rs) m []) (task_at rs i).id (task_at rs j).id) k

-- rows with the cells of the first k pairs besides
abbrev pub marked_to : ℕ → List (List ℕ) → List ℕ → ℕ → ℕ → ℕ → Bool
marked_to sort rs rows k i j = cell rows i j || paired_to sort rs k i j

pub none_marked : (sort : ℕ) (rs : List (List ℕ)) (rows : List ℕ) → IsMap (task_count rs) rows → rows ≡ map_from (task_count rs) (marked_to sort rs rows 0)
none_marked sort rs rows is =
    is
    ∙ map_ext (task_count rs) (cell rows) (marked_to sort rs rows 0)
    (λ i j h l.
    let test : ℕ → Bool = λ m. eqb (sort_of (get_or (pairs rs) m [])) sort && names (get_or (pairs rs) m []) (task_at rs i).id (task_at rs j).id in
    sym (ap (λ (x : Bool). cell rows i j || x) (some_false test 0 (lowest_zero test)) ∙ or-false (cell rows i j)))

pub all_marked : (sort : ℕ) (rs : List (List ℕ)) (rows : List ℕ) → map_from (task_count rs) (marked_to sort rs rows (length (pairs rs))) ≡ with_pairs sort rs rows
unfolding paired
all_marked sort rs rows = refl

-- a task that is listed has a place
pub listed_below : (rs : List (List ℕ)) (x a : ℕ) → listed (tasks rs) x ≡ true → a ≡ place_of (tasks rs) x → a < task_count rs
listed_below rs x a found place = omega (arith, place_below (tasks rs) x found)

module _ (rs : List (List ℕ)) (shape : Shape rs) (named : Listed rs) where
  -- tasks at different places have different ids
  same_id : (a i : ℕ) → a < task_count rs → i < task_count rs → eqb (task_at rs a).id (task_at rs i).id ≡ eqb i a
  same_id a i h l =
      either (eqb i a)
      (λ t. rw (eqb-true i a t, eq-eqb a a refl) (eq-eqb (task_at rs a).id (task_at rs a).id refl))
      (λ t.
      let other = eqb-false i a t in
      ne_eqb (task_at rs a).id (task_at rs i).id
      (λ e.
      either (ltb i a)
      (λ u. omega (arith, shape.tasks_rise i a (ltb-true i a u) h))
      (λ u. omega (arith, shape.tasks_rise a i (omega (arith, ltb-false i a u)) l)))
      ∙ sym t)

  -- an id that is listed is that of the task at its place alone
  names_place : (x a : ℕ) → listed (tasks rs) x ≡ true → a ≡ place_of (tasks rs) x → (i : ℕ) → i < task_count rs → eqb x (task_at rs i).id ≡ eqb i a
  names_place x a found place i l =
      ap (λ (y : ℕ). eqb y (task_at rs i).id) (sym (number_at_place (tasks rs) x found) ∙ ap (λ (p : ℕ). (task_at rs p).id) (sym place))
      ∙ same_id a i (listed_below rs x a found place) l

  -- pair k
  module _ (k : ℕ) (h : k < length (pairs rs)) (a b : ℕ)
      (first : a ≡ place_of (tasks rs) (number_of (get_or (pairs rs) k []))) (second : b ≡ place_of (tasks rs) (second_of (get_or (pairs rs) k []))) where
    -- the rows with one more pair
    pub pair_marked : (sort : ℕ) (rows : List ℕ)
        → cond (eqb (sort_of (get_or (pairs rs) k [])) sort) (with_cell (map_from (task_count rs) (marked_to sort rs rows k)) a b) (map_from (task_count rs) (marked_to sort rs rows k))
        ≡ map_from (task_count rs) (marked_to sort rs rows (k + 1))
    pair_marked sort rows =
        let n = task_count rs in
        let test = marked_to sort rs rows k in
        let p = get_or (pairs rs) k [] in
        either (eqb (sort_of (get_or (pairs rs) k [])) sort)
        (λ t.
        rw t
        (map_marked n test a b shape.few_tasks (listed_below rs (number_of p) a (named.first_listed k h) first) (listed_below rs (second_of p) b (named.second_listed k h) second)
        ∙ map_ext n (λ i j. test i j || (eqb i a && eqb j b)) (marked_to sort rs rows (k + 1)) (λ i j l m. sym (more i j l m ∙ rw t))))
        (λ t.
        rw t
        (map_ext n test (marked_to sort rs rows (k + 1)) (λ i j l m. sym (more i j l m ∙ rw t (or-false (test i j))))))
      where
        grouped : (x y z : Bool) → (x || (y || z)) ≡ ((x || y) || z)
        grouped true y z = refl
        grouped false y z = refl

        more : (i j : ℕ) → i < task_count rs → j < task_count rs
            → marked_to sort rs rows (k + 1) i j ≡ (marked_to sort rs rows k i j || (eqb (sort_of (get_or (pairs rs) k [])) sort && (eqb i a && eqb j b)))
        more i j l m =
            ap (λ (x : Bool). cell rows i j || x) (some_more (λ m. eqb (sort_of (get_or (pairs rs) m [])) sort && names (get_or (pairs rs) m []) (task_at rs i).id (task_at rs j).id) k)
            ∙ rw (names_place (number_of (get_or (pairs rs) k [])) a (named.first_listed k h) first i l, names_place (second_of (get_or (pairs rs) k [])) b (named.second_listed k h) second j m)
            (grouped (cell rows i j) (paired_to sort rs k i j) (eqb (sort_of (get_or (pairs rs) k [])) sort && (eqb i a && eqb j b)))
