-- What was read is the table's, field by field.
use Prim.Native.Nat.{ℕ, ◌+◌, ◌≤◌, ◌<◌}
use mathlib.Core.List.{List, []}
use mathlib.Core.Path.{◌≡◌, refl, ap, sym, ◌∙◌}
use native.Mathlib.Omega.{arith}
use lib.ListN.{get_or, set, get_or-eq_default}
use Rattle.rules.specs.declared.Task.{Task}
use Rattle.rules.specs.Records.{number_of, second_of, tasks, task_count, task_of, task_at, period_in, period_at}
use Rattle.rules.specs.Preempt.{barred as Preempt·barred, decided, cell, map_from, map_of}
use Rattle.rules.specs.Chains.{size_at, id_at, priority_at}
use Rattle.rules.proofs.Table.Shape.{Shape}
use Rattle.rules.proofs.Maps.{cell_of_map, map_ext}
use Rattle.table.specs.Numbers.{Directory}
use Rattle.sets.specs.Bits.{column}
use Rattle.sets.proofs.Columns.{column_long, column-none, column_at, column_filled, column_total}
use Rattle.preempt.specs.declared.columns.Columns.{Columns}
use Rattle.preempt.specs.Tasks.{ColumnsTo, TasksRead, no_columns, with_task, barred_map, task_read, decided_on, decided_by}

-- nothing is read of no task
pub columns_none : (rs : List (List ℕ)) → ColumnsTo rs 0 no_columns
columns_none rs =
    record {
      ids = column-none (λ i. (task_at rs i).id);
      transactions = column-none (λ i. (task_at rs i).transaction);
      priorities = column-none (λ i. (task_at rs i).priority);
      offsets = column-none (λ i. (task_at rs i).offset);
      jitters = column-none (λ i. (task_at rs i).jitter);
      responses = column-none (λ i. (task_at rs i).response);
      sizes = column-none (λ i. (task_at rs i).size);
      thresholds = column-none (λ i. (task_at rs i).threshold);
      periods = column-none (period_at rs);
    }

-- and one task more fills one place more of each column
pub columns_more : (rs : List (List ℕ)) (i : ℕ) (columns : Columns) (task : Task) (period : ℕ) → i < 64 → ColumnsTo rs i columns → task ≡ task_at rs i → period ≡ period_at rs i
    → ColumnsTo rs (i + 1) (with_task columns i task period)
columns_more rs i columns task period inside so_far here own =
    record {
      ids = more (λ t. t.id) columns.ids so_far.ids;
      transactions = more (λ t. t.transaction) columns.transactions so_far.transactions;
      priorities = more (λ t. t.priority) columns.priorities so_far.priorities;
      offsets = more (λ t. t.offset) columns.offsets so_far.offsets;
      jitters = more (λ t. t.jitter) columns.jitters so_far.jitters;
      responses = more (λ t. t.response) columns.responses so_far.responses;
      sizes = more (λ t. t.size) columns.sizes so_far.sizes;
      thresholds = more (λ t. t.threshold) columns.thresholds so_far.thresholds;
      periods = column_filled i (period_at rs) columns.periods period inside so_far.periods own;
    }
  where
    more : (field : Task → ℕ) (l : List ℕ) → l ≡ column i (λ k. field (task_at rs k)) → set l i (field task) ≡ column (i + 1) (λ k. field (task_at rs k))
    more field l filled = column_filled i (λ k. field (task_at rs k)) l (field task) inside filled (ap field here)

-- a field of the task at a place that holds one
field_at : (rs : List (List ℕ)) (l : List ℕ) (f : ℕ → ℕ) → Shape rs → l ≡ column (task_count rs) f → (i : ℕ) → i < task_count rs → get_or l i 0 ≡ f i
field_at rs l f shape e i h = ap (λ (c : List ℕ). get_or c i 0) e ∙ column_at (task_count rs) f i shape.few_tasks h

-- there are at most 64 tasks
pub few_read : (rs : List (List ℕ)) (count : ℕ) (columns : Columns) → Shape rs → TasksRead rs count columns → count ≤ 64
few_read rs count columns shape read = omega (arith, read.count, shape.few_tasks)

-- a field that an empty record has at 0 is read the same at every place
field_total : (rs : List (List ℕ)) (field : Task → ℕ) (l : List ℕ) → task_count rs ≤ 64 → field (task_of (period_in rs (second_of [])) []) ≡ 0 → l ≡ column (task_count rs) (λ i. field (task_at rs i))
    → (i : ℕ) → get_or l i 0 ≡ field (task_at rs i)
field_total rs field l few none read i =
    ap (λ (c : List ℕ). get_or c i 0) read
    ∙ column_total (task_count rs) (λ k. field (task_at rs k)) few
    (λ k out. ap (λ (r : List ℕ). field (task_of (period_in rs (second_of r)) r)) (get_or-eq_default (tasks rs) [] out) ∙ none)
    i

-- columns that others ask, at every place
module _ (rs : List (List ℕ)) (count : ℕ) (columns : Columns) (shape : Shape rs) (read : TasksRead rs count columns) where
  pub id_is : (i : ℕ) → get_or columns.ids i 0 ≡ id_at rs i
  id_is = field_total rs (λ task. task.id) columns.ids shape.few_tasks refl read.columns.ids

  pub transaction_is : (i : ℕ) → get_or columns.transactions i 0 ≡ (task_at rs i).transaction
  transaction_is = field_total rs (λ task. task.transaction) columns.transactions shape.few_tasks refl read.columns.transactions

  pub priority_is : (i : ℕ) → get_or columns.priorities i 0 ≡ priority_at rs i
  priority_is = field_total rs (λ task. task.priority) columns.priorities shape.few_tasks refl read.columns.priorities

  pub size_is : (i : ℕ) → get_or columns.sizes i 0 ≡ size_at rs i
  size_is = field_total rs (λ task. task.size) columns.sizes shape.few_tasks refl read.columns.sizes

  pub threshold_is : (i : ℕ) → get_or columns.thresholds i 0 ≡ (task_at rs i).threshold
  threshold_is = field_total rs (λ task. task.threshold) columns.thresholds shape.few_tasks refl read.columns.thresholds

-- a table can be read in one way only
pub tasks_determined : (rs : List (List ℕ)) (n m : ℕ) (l k : Columns) → TasksRead rs n l → TasksRead rs m k → (n ≡ m) × (l ≡ k)
tasks_determined rs n m l k p q =
    let a = p.columns in
    let b = q.columns in (
      p.count ∙ sym q.count,
      rw (a.ids, a.transactions, a.priorities, a.offsets, a.jitters, a.responses, a.sizes, a.thresholds, a.periods, b.ids, b.transactions, b.priorities, b.offsets, b.jitters, b.responses, b.sizes, b.thresholds, b.periods) refl,
    )

-- the ids are a directory of the tasks
pub ids_directory : (rs : List (List ℕ)) (count : ℕ) (columns : Columns) → Shape rs → TasksRead rs count columns → Directory (tasks rs) columns.ids count
ids_directory rs count columns shape read =
    let id : (i : ℕ) → get_or columns.ids i 0 ≡ number_of (get_or (tasks rs) i []) = id_is rs count columns shape read in
    record {
      counted = read.count;
      room = omega (arith, few_read rs count columns shape read, column_long _ _ read.columns.ids);
      right = λ k h. id k;
      rising =
          λ i j b l.
          let l' : j < task_count rs = omega (arith, read.count) in
          omega (arith, id i, id j, shape.tasks_rise i j b l');
    }

-- what was read of a table, and of its pairs
module _ (rs : List (List ℕ)) (count : ℕ) (columns : Columns) (barred : List ℕ) (shape : Shape rs) (read : TasksRead rs count columns) (pairs_read : barred ≡ barred_map rs) where
  -- the task at a place is the table's
  task_read_lem : (i : ℕ) → i < task_count rs → task_read columns i ≡ task_at rs i
  task_read_lem i h =
      let each = read.columns in
      rw (
        field_at rs columns.ids (λ i. (task_at rs i).id) shape each.ids i h,
        field_at rs columns.transactions (λ i. (task_at rs i).transaction) shape each.transactions i h,
        field_at rs columns.priorities (λ i. (task_at rs i).priority) shape each.priorities i h,
        field_at rs columns.offsets (λ i. (task_at rs i).offset) shape each.offsets i h,
        field_at rs columns.jitters (λ i. (task_at rs i).jitter) shape each.jitters i h,
        field_at rs columns.responses (λ i. (task_at rs i).response) shape each.responses i h,
        field_at rs columns.sizes (λ i. (task_at rs i).size) shape each.sizes i h,
        field_at rs columns.thresholds (λ i. (task_at rs i).threshold) shape each.thresholds i h,
      )

  -- a bit of a row is set where the pair of places is barred
  barred_read : (i j : ℕ) → i < task_count rs → j < task_count rs → cell barred i j ≡ Preempt·barred rs (task_at rs i).id (task_at rs j).id
  unfolding barred_map
  barred_read i j h l =
      ap (λ (r : List ℕ). cell r i j) pairs_read
      ∙ cell_of_map (task_count rs) (λ i j. Preempt·barred rs (task_at rs i).id (task_at rs j).id) i j shape.few_tasks h l

  -- the decision from what was read is the table's
  pub decided_read : (i j : ℕ) → i < task_count rs → j < task_count rs → decided_by columns barred i j ≡ decided rs i j
  unfolding decided_on decided
  decided_read i j h l =
      rw (
        field_at rs columns.periods (period_at rs) shape read.columns.periods i h,
        barred_read i j h l,
        task_read_lem i h,
        task_read_lem j l,
      )

  -- and so is the map
  pub map_read : map_from count (decided_by columns barred) ≡ map_of rs
  map_read =
      ap (λ (n : ℕ). map_from n (decided_by columns barred)) read.count
      ∙ map_ext (task_count rs) (decided_by columns barred) (decided rs) decided_read
