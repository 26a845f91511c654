-- What comes before what in a table: the tasks on a path of precedence pairs are listed, so what is worked out is the relation;
-- and a path that starts or ends at a task stands in another table too where each of its pairs does, one after the other.
use Prim.Native.Nat.{ℕ, ◌<◌}
use mathlib.Core.List.{List, []}
use mathlib.Core.Bool.{Bool, true, ◌&&◌}
use mathlib.Core.Logic.{◌⊎◌, inl, inr}
use mathlib.Core.Path.{◌≡◌, refl, ◌∙◌}
use borrow.Author.Tests.{eqb-true, eq-eqb}
use lib.Dec.{eqb}
use lib.ListN.{length, get_or}
use Rattle.rules.specs.Reach.Reaches.{one, more}
use Rattle.rules.specs.Records.{kind_of, number_of, second_of, sort_of, pairs, tasks, task_count, task_at, place_of, listed}
use Rattle.rules.specs.Preempt.{names, paired, ComesBefore, comes_before}
use Rattle.rules.specs.Patches.{has}
use Rattle.rules.proofs.Numbers.{some_place, some_true}
use Rattle.rules.proofs.Tests.{both_first, both_second}
use Rattle.rules.proofs.Reach.{reach_join, reach_sound, reach_complete}
use Rattle.rules.proofs.Patch.Members.{has_place, has_among_kind}
use Rattle.rules.proofs.Table.Listed.{Listed, place_below, number_at_place}

-- a pair of this sort that names the two
pub paired_by : (sort : ℕ) (rs : List (List ℕ)) (a b : ℕ) → paired sort rs a b ≡ true
    → (k : ℕ) × (k < length (pairs rs)) × (sort_of (get_or (pairs rs) k []) ≡ sort) × (number_of (get_or (pairs rs) k []) ≡ a) × (second_of (get_or (pairs rs) k []) ≡ b)
unfolding paired
paired_by sort rs a b h =
    let test : ℕ → Bool = λ k. eqb (sort_of (get_or (pairs rs) k [])) sort && names (get_or (pairs rs) k []) a b in
    let (k, below, both) = some_place test (length (pairs rs)) h in
    let r = get_or (pairs rs) k [] in
    let named = both_second (eqb (sort_of r) sort) (names r a b) both in (
      k,
      below,
      eqb-true (sort_of r) sort (both_first (eqb (sort_of r) sort) (names r a b) both),
      eqb-true (number_of r) a (both_first (eqb (number_of r) a) (eqb (second_of r) b) named),
      eqb-true (second_of r) b (both_second (eqb (number_of r) a) (eqb (second_of r) b) named),
    )

-- and two that a pair of this sort names
pub paired_of : (sort : ℕ) (rs : List (List ℕ)) (r : List ℕ) → kind_of r ≡ 3 → has rs r ≡ true → sort_of r ≡ sort → paired sort rs (number_of r) (second_of r) ≡ true
unfolding paired
paired_of sort rs r kind there sorted =
    let (n, below, e) = has_place (pairs rs) r (has_among_kind 3 rs r kind there) in
    some_true (λ k. eqb (sort_of (get_or (pairs rs) k [])) sort && names (get_or (pairs rs) k []) (number_of r) (second_of r)) (length (pairs rs)) n below
    (rw (e, eq-eqb (sort_of r) sort sorted, eq-eqb (number_of r) (number_of r) refl, eq-eqb (second_of r) (second_of r) refl))

module _ (rs : List (List ℕ)) where
  -- what is worked out is a path
  pub before_path : (a b : ℕ) → comes_before rs a b ≡ true → ComesBefore rs a b
  unfolding comes_before
  before_path a b h = reach_sound (paired 1 rs) (λ k. (task_at rs k).id) (task_count rs) a b h

  -- and where the tasks that pairs name are listed, each path is worked out
  pub path_before : Listed rs → (a b : ℕ) → ComesBefore rs a b → comes_before rs a b ≡ true
  unfolding comes_before
  path_before named a b path =
      reach_complete (paired 1 rs) (λ k. (task_at rs k).id) (task_count rs)
      (λ u v h.
      let (k, below, sort, first, second) = paired_by 1 rs u v h in
      let there = named.second_listed k below in
      (place_of (tasks rs) (second_of (get_or (pairs rs) k [])), place_below (tasks rs) (second_of (get_or (pairs rs) k [])) there, number_at_place (tasks rs) (second_of (get_or (pairs rs) k [])) there ∙ second))
      a b path

  first_of : Listed rs → (a b : ℕ) → paired 1 rs a b ≡ true → listed (tasks rs) a ≡ true
  first_of named a b s =
      let (k, below, sort, first, second) = paired_by 1 rs a b s in
      rw first at (named.first_listed k below)

  -- the first and the last task of a path are listed
  pub first_listed_of : Listed rs → {a b : ℕ} → ComesBefore rs a b → listed (tasks rs) a ≡ true
  first_listed_of named {a} {b} (one s) = first_of named a b s
  first_listed_of named {a} {b} (more {b = v} s p) = first_of named a v s

  pub last_listed_of : Listed rs → {a b : ℕ} → ComesBefore rs a b → listed (tasks rs) b ≡ true
  last_listed_of named {a} {b} (one s) =
      let (k, below, sort, first, second) = paired_by 1 rs a b s in
      rw second at (named.second_listed k below)
  last_listed_of named (more s p) = last_listed_of named p

-- it is the same task, or a path leads there
abbrev pub SameOrBefore : List (List ℕ) → ℕ → ℕ → Type 0
SameOrBefore rs a b = (a ≡ b) ⊎ ComesBefore rs a b

came_further : (rs : List (List ℕ)) (a : ℕ) {u v : ℕ} → SameOrBefore rs a u → paired 1 rs u v ≡ true → SameOrBefore rs a v
came_further rs a (inl e) s = inr (rw e (one s))
came_further rs a (inr p) s = inr (reach_join (paired 1 rs) p (one s))

-- a path from a stands elsewhere too where each pair does to which one comes from a, here and there
module _ (rs ss : List (List ℕ)) (a : ℕ) where
  pub from_here : ((u v : ℕ) → SameOrBefore rs a u → SameOrBefore ss a u → paired 1 rs u v ≡ true → paired 1 ss u v ≡ true)
      → {u b : ℕ} → SameOrBefore rs a u → SameOrBefore ss a u → ComesBefore rs u b → ComesBefore ss u b
  from_here carry {u} {b} here there (one s) = one (carry u b here there s)
  from_here carry {u} {b} here there (more {b = v} s p) =
      let t = carry u v here there s in
      more t (from_here carry (came_further rs a here s) (came_further ss a there t) p)

  -- and so does a path to a
  pub to_here : ((u v : ℕ) → SameOrBefore rs v a → SameOrBefore ss v a → paired 1 rs u v ≡ true → paired 1 ss u v ≡ true)
      → {u b : ℕ} → b ≡ a → ComesBefore rs u b → ComesBefore ss u b
  to_here carry {u} {b} e (one s) = one (carry u b (inl e) (inl e) s)
  to_here carry {u} {b} e (more {b = v} s p) =
      let q = to_here carry e p in
      more (carry u v (inr (rw (← e) p)) (inr (rw (← e) q)) s) q
