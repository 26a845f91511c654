-- Between untouched tasks the outcome decides as the base did: each record that concerns such a task, and each path from or to it, stands in both or in neither.
use Prim.Native.Nat.{ℕ, ◌<◌}
use mathlib.Core.List.{List, []}
use mathlib.Core.Bool.{Bool, true, false, ◌||◌, or-true}
use mathlib.Core.Logic.{inl, inr}
use mathlib.Core.Path.{◌≡◌, refl, ap, sym, ◌∙◌}
use native.Mathlib.Omega.{arith}
use borrow.Author.Tests.{eq-eqb}
use lib.ListN.{length, get_or, set}
use lib.Dec.{eqb}
use Rattle.rules.specs.Records.{kind_of, number_of, second_of, period_of, sort_of, transactions, tasks, pairs, task_count, task_at, place_of, listed, period_in}
use Rattle.rules.specs.Numbers.{some}
use Rattle.rules.specs.Preempt.{paired, comes_before, beside, barred, decided}
use Rattle.rules.specs.Patches.{has, taken_out, put_in, outcome, concerns, alongside, touched, old_place}
use Rattle.rules.proofs.Numbers.{either, never, lowest-none, some_fails, some_false, some_place, some_true}
use Rattle.rules.proofs.Tests.{neither, neither_first, neither_second, same_tests}
use Rattle.rules.proofs.Before.{SameOrBefore, paired_by, paired_of, before_path, path_before, from_here, to_here}
use Rattle.rules.proofs.Table.Kinds.{kind_of_kind}
use Rattle.rules.proofs.Table.Order.{Rises}
use Rattle.rules.proofs.Table.Listed.{Listed, place_below, number_at_place, place_of_number}
use Rattle.rules.proofs.Patch.Members.{has_place, has_each, has-outcome, has_among_kind, has_kind_at, has-taken_out, outcome_from}
use Rattle.rules.proofs.Patch.Turned.{turned_byte, turned_kind, turned_number, turned_second}
use Rattle.rules.proofs.Patch.Valid.{Valid, valid_listed, valid_transactions_rise, valid_tasks_rise}

-- what concerns a task
module _ (r : List ℕ) (id transaction : ℕ) where
  -- its own record
  own_concerns : kind_of r ≡ 2 → number_of r ≡ id → concerns r id transaction ≡ true
  own_concerns kind number = rw (eq-eqb (kind_of r) 2 kind, eq-eqb (number_of r) id number)

  -- a pair that names it first, or second
  first_concerns : kind_of r ≡ 3 → number_of r ≡ id → concerns r id transaction ≡ true
  first_concerns kind number = rw (kind, eq-eqb (number_of r) id number)

  second_concerns : kind_of r ≡ 3 → second_of r ≡ id → concerns r id transaction ≡ true
  second_concerns kind number =
      rw (kind, eq-eqb (second_of r) id number)
      (either (eqb (number_of r) id) (λ t. rw t) (λ t. rw t))

  -- its transaction's record
  transaction_concerns : kind_of r ≡ 1 → number_of r ≡ transaction → concerns r id transaction ≡ true
  transaction_concerns kind number = rw (kind, eq-eqb (number_of r) transaction number)

-- a record put in concerns the tasks that the patch's does
put-concerns : (p : List ℕ) (id transaction : ℕ) → concerns (set p 31 0) id transaction ≡ concerns p id transaction
put-concerns p id transaction = rw (turned_kind p 0, turned_number p 0, turned_second p 0)

-- a record of a list whose numbers rise is found by its number
found_by_number : (l : List (List ℕ)) → Rises number_of l → (r : List ℕ) → has l r ≡ true
    → (place_of l (number_of r) < length l) × (get_or l (place_of l (number_of r)) [] ≡ r)
found_by_number l rises r h =
    let (k, below, e) = has_place l r h in
    let place : place_of l (number_of r) ≡ k = rw e at (place_of_number l rises k below) in
    (rw place below, rw place e)

-- two that a pair of this sort names in one list are named so in another that has the pair too
paired_carries : (sort : ℕ) (rs ss : List (List ℕ)) (a b : ℕ)
    → ((r : List ℕ) → kind_of r ≡ 3 → sort_of r ≡ sort → number_of r ≡ a → second_of r ≡ b → has rs r ≡ true → has ss r ≡ true)
    → paired sort rs a b ≡ true → paired sort ss a b ≡ true
paired_carries sort rs ss a b carries h =
    let (k, below, sorted, first, second) = paired_by sort rs a b h in
    let r = get_or (pairs rs) k [] in
    let kind = kind_of_kind 3 rs k below in
    rw (first, second) at (paired_of sort ss r kind (carries r kind sorted first second (has_kind_at 3 rs k below)) sorted)

-- a precedence pair is met on the paths from or to a task: it names the task, or a path leads from the task to its first, or from
-- its second to the task
data Met (rs : List (List ℕ)) (id : ℕ) (p : List ℕ) : Type 0 where
  onward : SameOrBefore rs id (number_of p) → Met rs id p
  back : SameOrBefore rs (second_of p) id → Met rs id p

-- whatever its byte 31
met_turned : (rs : List (List ℕ)) (p : List ℕ) (id : ℕ) → Met rs id (set p 31 0) → Met rs id p
met_turned rs p id (onward h) = onward (rw (turned_number p 0) at h)
met_turned rs p id (back h) = back (rw (turned_second p 0) at h)

-- the patch record touches a task by the paths of a table: it concerns it, or is a precedence pair and the task comes before or
-- after one of its two
abbrev pub touched_by : List (List ℕ) → List ℕ → ℕ → ℕ → Bool
touched_by rs p id transaction = concerns p id transaction || alongside rs p id

-- such a pair in a patch touches the task
met_touches : (rs : List (List ℕ)) (p : List ℕ) (id transaction : ℕ) → Listed rs → kind_of p ≡ 3 → sort_of p ≡ 1 → Met rs id p
    → touched_by rs p id transaction ≡ true
met_touches rs p id transaction named kind sorted (onward (inl e)) = rw (first_concerns p id transaction kind (sym e))
met_touches rs p id transaction named kind sorted (back (inl e)) = rw (second_concerns p id transaction kind e)
met_touches rs p id transaction named kind sorted (onward (inr h)) =
    let along : alongside rs p id ≡ true = rw (kind, sorted, path_before rs named id (number_of p) h) in
    rw along (or-true (concerns p id transaction))
met_touches rs p id transaction named kind sorted (back (inr h)) =
    let other : beside rs id (second_of p) ≡ true = rw (path_before rs named (second_of p) id h) (or-true (comes_before rs id (second_of p))) in
    let along : alongside rs p id ≡ true = rw (kind, sorted, other) (or-true (beside rs id (number_of p))) in
    rw along (or-true (concerns p id transaction))

-- a task that no record of the patch touches in the outcome
module _ (base patch : List (List ℕ)) (id transaction : ℕ)
    (spared : (p : List ℕ) → has patch p ≡ true → touched_by (outcome base patch) p id transaction ≡ false) where
  none-concerns : (p : List ℕ) → has patch p ≡ true → concerns p id transaction ≡ false
  none-concerns p h = neither_first (concerns p id transaction) (alongside (outcome base patch) p id) (spared p h)

  -- a record of the outcome that concerns it was not put in, so it stands in the base
  pub stood_before : (r : List ℕ) → concerns r id transaction ≡ true → has (outcome base patch) r ≡ true → has base r ≡ true
  stood_before r concerning there =
      outcome_from (λ s. concerns s id transaction ≡ true → has base s ≡ true) base patch r
      (λ h c. h)
      (λ p h way c. never (concerns p id transaction) (sym (put-concerns p id transaction) ∙ c) (none-concerns p h))
      there concerning

  -- a record of the base that the patch does not have was not taken out, so it stands in the outcome
  stays : (r : List ℕ) → (has patch r ≡ true → ⊥) → has base r ≡ true → has (outcome base patch) r ≡ true
  stays r unnamed there =
      let kept : has (taken_out patch) r ≡ false = has-taken_out patch r ∙ either (has patch r) (λ t. absurd (unnamed t)) (λ t. rw t) in
      has-outcome base patch r ∙ rw (there, kept) (or-true (has (put_in patch) r))

  -- such as one that concerns the task
  stands_after : (r : List ℕ) → concerns r id transaction ≡ true → has base r ≡ true → has (outcome base patch) r ≡ true
  stands_after r concerning = stays r (λ t. never (concerns r id transaction) concerning (none-concerns r t))

  module _ (before : Listed base) (after : Listed (outcome base patch)) where
    -- a precedence pair that is met on the task's paths in the outcome is not the patch's
    unnamed : (p : List ℕ) → kind_of p ≡ 3 → sort_of p ≡ 1 → Met (outcome base patch) id p → has patch p ≡ true → ⊥
    unnamed p kind sorted met there =
        never (touched_by (outcome base patch) p id transaction) (met_touches (outcome base patch) p id transaction after kind sorted met) (spared p there)

    -- so in the base it stands in the outcome too
    met_stands : (r : List ℕ) → kind_of r ≡ 3 → sort_of r ≡ 1 → Met (outcome base patch) id r → has base r ≡ true → has (outcome base patch) r ≡ true
    met_stands r kind sorted met = stays r (unnamed r kind sorted met)

    -- and in the outcome it stood in the base
    met_stood : (r : List ℕ) → kind_of r ≡ 3 → sort_of r ≡ 1 → Met (outcome base patch) id r → has (outcome base patch) r ≡ true → has base r ≡ true
    met_stood r kind sorted met there =
        outcome_from (λ s. kind_of s ≡ 3 → sort_of s ≡ 1 → Met (outcome base patch) id s → has base s ≡ true) base patch r
        (λ h k o n. h)
        (λ p h way k o n. absurd (unnamed p (sym (turned_kind p 0) ∙ k) (sym (turned_byte p 0 1 (omega arith)) ∙ o) (met_turned (outcome base patch) p id n) h))
        there kind sorted met

    -- Why a cell of two untouched tasks is decided as before, although the relation is closed over the whole table: walk a path
    -- from the task in either table. Its first pair that the other table lacks is one that the patch names, and up to there the
    -- path stands in both; so the task is of that pair or comes before one that is, and is touched. The same holds for paths to
    -- the task.
    pub after_same : (b : ℕ) → comes_before (outcome base patch) id b ≡ comes_before base id b
    after_same b =
        let out = outcome base patch in
        same_tests (comes_before out id b) (comes_before base id b)
        (λ h. path_before base before id b (from_here out base id (λ u v here there s. paired_carries 1 out base u v (λ r kind sorted first second. met_stood r kind sorted (onward (rw (← first) at here))) s) (inl refl) (inl refl) (before_path out id b h)))
        (λ h. path_before out after id b (from_here base out id (λ u v here there s. paired_carries 1 base out u v (λ r kind sorted first second. met_stands r kind sorted (onward (rw (← first) at there))) s) (inl refl) (inl refl) (before_path base id b h)))

    pub before_same : (b : ℕ) → comes_before (outcome base patch) b id ≡ comes_before base b id
    before_same b =
        let out = outcome base patch in
        same_tests (comes_before out b id) (comes_before base b id)
        (λ h. path_before base before b id (to_here out base id (λ u v here there s. paired_carries 1 out base u v (λ r kind sorted first second. met_stood r kind sorted (back (rw (← second) at here))) s) refl (before_path out b id h)))
        (λ h. path_before out after b id (to_here base out id (λ u v here there s. paired_carries 1 base out u v (λ r kind sorted first second. met_stands r kind sorted (back (rw (← second) at there))) s) refl (before_path base b id h)))

    beside_same : (b : ℕ) → beside (outcome base patch) id b ≡ beside base id b
    beside_same b = rw (after_same b, before_same b)

    -- and what is barred from preempting it is what was in the base
    pub barred_before : (b : ℕ) → barred (outcome base patch) id b ≡ barred base id b
    unfolding barred
    barred_before b =
        let out = outcome base patch in
        let same : paired 0 out id b ≡ paired 0 base id b =
        same_tests (paired 0 out id b) (paired 0 base id b)
        (paired_carries 0 out base id b (λ r kind sorted first second there. stood_before r (first_concerns r id transaction kind first) there))
        (paired_carries 0 base out id b (λ r kind sorted first second there. stands_after r (first_concerns r id transaction kind first) there)) in
        rw (same, beside_same b)

-- the record of the task at place i of the outcome
abbrev pub task_record : List (List ℕ) → List (List ℕ) → ℕ → List ℕ
task_record base patch i = get_or (tasks (outcome base patch)) i []

-- record k of the patch touches the task at place i of the outcome, by the paths of the outcome
abbrev touches_after : List (List ℕ) → List (List ℕ) → ℕ → ℕ → Bool
touches_after base patch i k =
    let task = task_at (outcome base patch) i in
    touched_by (outcome base patch) (get_or patch k []) task.id task.transaction

-- where none does, no record of the patch does
spared_all : (base patch : List (List ℕ)) (i : ℕ) → some (touches_after base patch i) (length patch) ≡ false
    → (p : List ℕ) → has patch p ≡ true → touched_by (outcome base patch) p (task_at (outcome base patch) i).id (task_at (outcome base patch) i).transaction ≡ false
spared_all base patch i none =
    let task = task_at (outcome base patch) i in
    has_each (λ p. touched_by (outcome base patch) p task.id task.transaction ≡ false) patch
    (λ k l. some_fails (touches_after base patch i) (length patch) k l none)

-- what the paths of the outcome tell, those of both tables tell
either_table : (here before after : Bool) → (here || after) ≡ true → (here || (before || after)) ≡ true
either_table true before after h = refl
either_table false true after h = refl
either_table false false after h = h

-- The paths of the outcome tell all that is touched: along those of the base no other task is.
pub touched-after : (base patch : List (List ℕ)) → Listed base → Listed (outcome base patch) → (i : ℕ)
    → touched base patch i ≡ some (touches_after base patch i) (length patch)
unfolding touched
touched-after base patch before after i =
    let out = outcome base patch in
    let task = task_at out i in
    let here : ℕ → Bool = λ k. concerns (get_or patch k []) task.id task.transaction in
    let along : List (List ℕ) → ℕ → Bool = λ rs k. alongside rs (get_or patch k []) task.id in
    let test : ℕ → Bool = λ k. here k || (along base k || along out k) in
    either (some (touches_after base patch i) (length patch))
    (λ t.
    let (k, below, holds) = some_place (touches_after base patch i) (length patch) t in
    some_true test (length patch) k below (either_table (here k) (along base k) (along out k) holds) ∙ sym t)
    (λ t.
    let spared = spared_all base patch i t in
    let same = beside_same base patch task.id task.transaction spared before after in
    some_false test (length patch)
    (lowest-none test (length patch)
    (λ k l.
    let p = get_or patch k [] in
    let touches = some_fails (touches_after base patch i) (length patch) k l t in
    let after_none = neither_second (here k) (along out k) touches in
    let before_none : along base k ≡ false = rw (← same (number_of p), ← same (second_of p)) after_none in
    neither (here k) (along base k || along out k) (neither_first (here k) (along out k) touches) (neither (along base k) (along out k) before_none after_none)))
    ∙ sym t)

-- a task of the outcome that is not touched
module _ (base patch : List (List ℕ)) (i : ℕ) (untouched : touched base patch i ≡ false) where
  -- no record of the patch touches it by the paths of the outcome
  spared_here : (p : List ℕ) → has patch p ≡ true → touched_by (outcome base patch) p (task_at (outcome base patch) i).id (task_at (outcome base patch) i).transaction ≡ false
  unfolding touched
  spared_here =
      let out = outcome base patch in
      let task = task_at out i in
      let here : ℕ → Bool = λ k. concerns (get_or patch k []) task.id task.transaction in
      let along : List (List ℕ) → ℕ → Bool = λ rs k. alongside rs (get_or patch k []) task.id in
      has_each (λ p. touched_by out p task.id task.transaction ≡ false) patch
      (λ k l.
      let none = some_fails (λ k. here k || (along base k || along out k)) (length patch) k l untouched in
      neither (here k) (along out k) (neither_first (here k) (along base k || along out k) none) (neither_second (along base k) (along out k) (neither_second (here k) (along base k || along out k) none)))

  -- its own record stands in the base
  own_stood : i < task_count (outcome base patch) → has base (task_record base patch i) ≡ true
  own_stood h =
      let r = task_record base patch i in
      stood_before base patch (number_of r) (second_of r) spared_here r (own_concerns r (number_of r) (second_of r) (kind_of_kind 2 (outcome base patch) i h) refl) (has_kind_at 2 (outcome base patch) i h)

  -- in a base that is a table
  module _ (table : Valid base) (h : i < task_count (outcome base patch)) where
    -- it is found by its id
    found : (old_place base patch i < task_count base) × (get_or (tasks base) (old_place base patch i) [] ≡ task_record base patch i)
    found =
        let r = task_record base patch i in
        found_by_number (tasks base) (valid_tasks_rise base table) r
        (has_among_kind 2 base r (kind_of_kind 2 (outcome base patch) i h) (own_stood h))

    -- its old place holds a task
    pub old_below : old_place base patch i < task_count base
    old_below = found.0

    -- whose record is its own
    pub old_record : get_or (tasks base) (old_place base patch i) [] ≡ task_record base patch i
    old_record = found.1

    -- its transaction, which the outcome lists, has the period that it had
    pub period_before : Valid (outcome base patch)
        → period_in (outcome base patch) (second_of (task_record base patch i)) ≡ period_in base (second_of (task_record base patch i))
    period_before after =
        let out = outcome base patch in
        let x = second_of (task_record base patch i) in
        let place = place_of (transactions out) x in
        let r = get_or (transactions out) place [] in
        let there : listed (transactions out) x ≡ true = (valid_listed out after).transaction_listed i h in
        let below = place_below (transactions out) x there in
        let number = number_at_place (transactions out) x there in
        let kind = kind_of_kind 1 out place below in
        let own = task_record base patch i in
        let stood = stood_before base patch (number_of own) (second_of own) spared_here r (transaction_concerns r (number_of own) (second_of own) kind number) (has_kind_at 1 out place below) in
        let same = (found_by_number (transactions base) (valid_transactions_rise base table) r (has_among_kind 1 base r kind stood)).1 in
        sym (ap period_of (rw number at same))

    -- so it is read as it was, also where its jitter is the period
    pub task_before : Valid (outcome base patch) → task_at base (old_place base patch i) ≡ task_at (outcome base patch) i
    task_before after = rw (old_record, period_before after)

-- the law that makes demand 3 hold: of two tasks that a patch does not touch, the outcome decides as its base did at their old
-- places. It holds although precedence is closed over the whole table: a path that stands in one of the two alone leads over a
-- pair that the patch names, and then its ends are touched; so the paths of an untouched task are what they were, as its records are.
pub untouched_decided : (base patch : List (List ℕ)) → Valid base → Valid (outcome base patch)
    → (i j : ℕ) → i < task_count (outcome base patch) → j < task_count (outcome base patch)
    → touched base patch i ≡ false → touched base patch j ≡ false
    → decided (outcome base patch) i j ≡ decided base (old_place base patch i) (old_place base patch j)
unfolding decided
untouched_decided base patch table after i j h l untouched untouched' =
    rw (
      old_record base patch i untouched table h,
      old_record base patch j untouched' table l,
      period_before base patch i untouched table h after,
      period_before base patch j untouched' table l after,
      barred_before base patch (number_of (task_record base patch i)) (second_of (task_record base patch i)) (spared_here base patch i untouched) (valid_listed base table) (valid_listed (outcome base patch) after) (number_of (task_record base patch j)),
    )
