-- What an accepted table says of its tasks: the transaction of each is listed, each yields only to higher priorities, and
-- each weighs something.
use Prim.Native.Nat.{ℕ, ◌≤◌, ◌<◌}
use mathlib.Core.List.{List, []}
use mathlib.Core.Bool.{true, false}
use mathlib.Core.Path.{◌≡◌}
use native.Mathlib.Omega.{arith}
use borrow.Author.Tests.{ltb-true}
use lib.ListN.{get_or}
use Rattle.rules.specs.declared.Form.TheVariants.{Table}
use Rattle.rules.specs.Blocks.{records}
use Rattle.rules.specs.Records.{range_wrong, tasks, task_count, task_at, transactions, listed}
use Rattle.rules.specs.Refusals.{accepted, records_verdict, table_verdict}
use Rattle.rules.specs.Chains.{size_at, priority_at}
use Rattle.rules.proofs.Refusals.{accepted_parts, linked_references}
use Rattle.rules.proofs.Related.{Climbing}
use Rattle.rules.proofs.Table.Kinds.{kind_of_kind, of_kind_each}
use Rattle.rules.proofs.Table.Ranges.{TaskRanges, task_right_lem, task_ranges}
use Rattle.rules.proofs.Table.Shape.{faultless_of}
use Rattle.rules.proofs.Table.Listed.{listed_of}

-- records without a fault in form, order and range: the fields of each task are in range
records_ranges : (rs : List (List ℕ)) → accepted (records_verdict Table rs) ≡ true → (i : ℕ) → i < task_count rs → TaskRanges (get_or (tasks rs) i [])
records_ranges rs h i l =
    let right = of_kind_each (λ r. range_wrong r ≡ false) 2 rs (faultless_of Table rs h).ranges i l in
    task_ranges (get_or (tasks rs) i []) (task_right_lem (get_or (tasks rs) i []) right (kind_of_kind 2 rs i l))

-- no task's threshold is below its priority
pub records_thresholds : (rs : List (List ℕ)) → accepted (records_verdict Table rs) ≡ true → (i : ℕ) → i < task_count rs → priority_at rs i ≤ (task_at rs i).threshold
records_thresholds rs h i l = (records_ranges rs h i l).threshold_from_priority

-- in an accepted table every task weighs something
pub accepted_sizes : (image : List ℕ) → accepted (table_verdict image) ≡ true
    → (i : ℕ) → i < task_count (records image) → 0 < size_at (records image) i
accepted_sizes image h i l = (records_ranges (records image) (accepted_parts image h).0 i l).some_size

-- so each yields only to tasks of higher priority
pub records_climbing : (rs : List (List ℕ)) → accepted (records_verdict Table rs) ≡ true → Climbing rs
records_climbing rs h i j l yielding =
    omega (arith, records_thresholds rs h i l, ltb-true (task_at rs i).threshold (priority_at rs j) yielding)

-- so it is in an accepted table
pub accepted_climbing : (image : List ℕ) → accepted (table_verdict image) ≡ true → Climbing (records image)
accepted_climbing image h = records_climbing (records image) (accepted_parts image h).0

-- in an accepted table the transaction of every task is listed
pub accepted-listed : (image : List ℕ) → accepted (table_verdict image) ≡ true
    → (i : ℕ) → i < task_count (records image) → listed (transactions (records image)) (task_at (records image) i).transaction ≡ true
accepted-listed image h = (listed_of (records image) (linked_references (records image) (accepted_parts image h).1)).transaction_listed
