-- What is found for a table and a lent map: the chain and the bounds.
use Rattle.std.specs.Prelude.{ℕ, ◌<◌, List, [], Bool, ◌≡◌, length, get_or, eqb}
use Rattle.rules.specs.Numbers.{sum_to}
use Rattle.rules.specs.Records.{number_of}
use Rattle.rules.specs.Preempt.{cell}
use Rattle.rules.specs.Chains.{weight, Path, All, Largest, related}
use Rattle.rules.specs.declared.Bounds.{Bounds}
use Rattle.rules.specs.Calls.{BoundsWorkedOut}
use Rattle.preempt.specs.declared.columns.Columns.{Columns}
use Rattle.ceiling.specs.Near.{size_of}
use Rattle.stack.specs.declared.call.Prepared.{Prepared}
use Rattle.stack.specs.Order.{Falling}
use Rattle.stack.specs.Related.{RelatedRows}

-- the place's number is that of listed record t
abbrev pub own_task : List ℕ → List (List ℕ) → ℕ → ℕ → Bool
own_task numbers listed t i = eqb (get_or numbers i 0) (number_of (get_or listed t []))

-- for each of the first count listed transactions the path bound of its own tasks, added up
pub record OwnPaths (n : ℕ) (rows sizes numbers : List ℕ) (listed : List (List ℕ)) (count r : ℕ) : Type 0 where
  pub each : ℕ → ℕ
  pub bound :
      (t : ℕ) → t < count → Largest (λ c. Path n (cell rows) c × All (own_task numbers listed t) c) (weight (size_of sizes)) (each t)
  pub total : r ≡ sum_to each count

-- what was prepared from the columns of the tasks and the lent map: the rows of the relation, and an order by falling priority
pub record PreparedOver (n : ℕ) (columns : Columns) (lent : List ℕ) (prepared : Prepared) : Type 0 where
  pub related : RelatedRows n columns.thresholds columns.priorities lent prepared.rows
  pub falling : Falling n columns.priorities prepared.order
  pub order_count : length prepared.order ≡ 64

-- what is said of a lent map holds, whichever lent map gives these rows of the relation
abbrev pub WhicheverMap : List (List ℕ) → List ℕ → (List ℕ → Type 0) → Type 0
WhicheverMap rs rows Said = (lent : List ℕ) → cell rows ≡ related rs lent → Said lent

-- the answer of a bound call and the later ids over rows of the relation
abbrev pub BoundsOver : List (List ℕ) → List ℕ → List ℕ → Bounds → List ℕ → Type 0
BoundsOver rs rows ids answer later = WhicheverMap rs rows (λ lent. BoundsWorkedOut rs lent ids answer later)
