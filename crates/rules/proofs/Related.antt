-- Two tasks that are related: both places hold tasks, the first yields to the second, and the cell of the map is set; so
-- where a task yields only to higher priorities, priorities rise.
use Prim.Native.Nat.{ℕ, ◌<◌}
use mathlib.Core.List.{List}
use mathlib.Core.Bool.{Bool, true, ◌&&◌}
use mathlib.Core.Path.{◌≡◌}
use borrow.Author.Tests.{ltb-true, lt-ltb}
use lib.Dec.{T, ltb}
use Rattle.rules.specs.Records.{task_count, task_at}
use Rattle.rules.specs.Preempt.{yields, cell}
use Rattle.rules.specs.Chains.{related, priority_at}
use Rattle.rules.proofs.Tests.{T_true, true_T, both}

-- what it takes that two places are related
pub record Relation (rs : List (List ℕ)) (rows : List ℕ) (i j : ℕ) : Type 0 where
  pub first : i < task_count rs
  pub second : j < task_count rs
  pub yielding : yields (task_at rs i) (task_at rs j) ≡ true
  pub set : cell rows i j ≡ true

pub related_says : (rs : List (List ℕ)) (rows : List ℕ) (i j : ℕ) → T (related rs rows i j) → Relation rs rows i j
unfolding related
related_says rs rows i j p =
    let first : Bool = ltb i (task_count rs) in
    let second : Bool = ltb j (task_count rs) in
    let yielding : Bool = yields (task_at rs i) (task_at rs j) in
    let (inside, rest) = both (first && second) (yielding && cell rows i j) p in
    record {
      first = ltb-true i (task_count rs) (T_true first (both first second inside).0);
      second = ltb-true j (task_count rs) (T_true second (both first second inside).1);
      yielding = T_true yielding (both yielding (cell rows i j) rest).0;
      set = T_true (cell rows i j) (both yielding (cell rows i j) rest).1;
    }

-- and it takes no more
pub relation_related : (rs : List (List ℕ)) (rows : List ℕ) (i j : ℕ) → Relation rs rows i j → T (related rs rows i j)
unfolding related
relation_related rs rows i j says =
    true_T (related rs rows i j) (rw (lt-ltb i (task_count rs) says.first, lt-ltb j (task_count rs) says.second, says.yielding, says.set))

-- a task of the table yields only to tasks of higher priority
abbrev pub Climbing : List (List ℕ) → Type 0
Climbing rs = (i j : ℕ) → i < task_count rs → yields (task_at rs i) (task_at rs j) ≡ true → priority_at rs i < priority_at rs j

-- so priorities rise from a task to the next
pub related_rises : (rs : List (List ℕ)) → Climbing rs → (rows : List ℕ) (i j : ℕ) → T (related rs rows i j) → priority_at rs i < priority_at rs j
related_rises rs climbing rows i j p =
    let says = related_says rs rows i j p in
    climbing i j says.first says.yielding
