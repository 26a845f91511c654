-- What is read of a table's tasks and pairs, and the decision from it.
use Rattle.std.specs.Prelude.{ℕ, List, Bool, ◌≡◌, get_or, set, replicate}
use Rattle.rules.specs.declared.Task.{Task}
use Rattle.rules.specs.Records.{task_count, task_at, period_at}
use Rattle.rules.specs.Preempt.{may_preempt, barred, bit_at, map_from}
use Rattle.sets.specs.Bits.{column}
use Rattle.preempt.specs.declared.columns.Columns.{Columns}

-- each field of the first n tasks by their places, and the periods of their transactions; 0 beyond them
pub record ColumnsTo (rs : List (List ℕ)) (n : ℕ) (columns : Columns) : Type 0 where
  pub ids : columns.ids ≡ column n (λ i. (task_at rs i).id)
  pub transactions : columns.transactions ≡ column n (λ i. (task_at rs i).transaction)
  pub priorities : columns.priorities ≡ column n (λ i. (task_at rs i).priority)
  pub offsets : columns.offsets ≡ column n (λ i. (task_at rs i).offset)
  pub jitters : columns.jitters ≡ column n (λ i. (task_at rs i).jitter)
  pub responses : columns.responses ≡ column n (λ i. (task_at rs i).response)
  pub sizes : columns.sizes ≡ column n (λ i. (task_at rs i).size)
  pub thresholds : columns.thresholds ≡ column n (λ i. (task_at rs i).threshold)
  pub periods : columns.periods ≡ column n (period_at rs)

-- a table has n tasks, and these are their columns
pub record TasksRead (rs : List (List ℕ)) (n : ℕ) (all : Columns) : Type 0 where
  pub count : n ≡ task_count rs
  pub columns : ColumnsTo rs (task_count rs) all

-- the columns of no task
abbrev pub no_columns : Columns
no_columns =
    record {
      ids = replicate 64 0;
      transactions = replicate 64 0;
      priorities = replicate 64 0;
      offsets = replicate 64 0;
      jitters = replicate 64 0;
      responses = replicate 64 0;
      sizes = replicate 64 0;
      thresholds = replicate 64 0;
      periods = replicate 64 0;
    }

-- a task put at a place, with the period of its transaction
abbrev pub with_task : Columns → ℕ → Task → ℕ → Columns
with_task columns i task period =
    record {
      ids = set columns.ids i task.id;
      transactions = set columns.transactions i task.transaction;
      priorities = set columns.priorities i task.priority;
      offsets = set columns.offsets i task.offset;
      jitters = set columns.jitters i task.jitter;
      responses = set columns.responses i task.response;
      sizes = set columns.sizes i task.size;
      thresholds = set columns.thresholds i task.threshold;
      periods = set columns.periods i period;
    }

-- cell j of row i is set where the task at place i may not be preempted by the one at place j
unfoldable pub barred_map : List (List ℕ) → List ℕ
barred_map rs = map_from (task_count rs) (λ i j. barred rs (task_at rs i).id (task_at rs j).id)

-- the task at a place, as it was read
abbrev pub task_read : Columns → ℕ → Task
task_read columns i =
    record {
      id = get_or columns.ids i 0;
      transaction = get_or columns.transactions i 0;
      priority = get_or columns.priorities i 0;
      offset = get_or columns.offsets i 0;
      jitter = get_or columns.jitters i 0;
      response = get_or columns.responses i 0;
      size = get_or columns.sizes i 0;
      threshold = get_or columns.thresholds i 0;
    }

-- the period of its transaction
abbrev pub period_read : Columns → ℕ → ℕ
period_read columns i = get_or columns.periods i 0

-- the decision for the tasks at places i and j, from the columns as they were read and the bits of those that are barred
-- from preempting the first
unfoldable pub decided_on : Columns → ℕ → ℕ → ℕ → Bool
decided_on columns bars i j = may_preempt (period_read columns i) (bit_at bars j) (task_read columns i) (task_read columns j)

-- the same, from the rows of all that is barred
abbrev pub decided_by : Columns → List ℕ → ℕ → ℕ → Bool
decided_by columns barred i = decided_on columns (get_or barred i 0) i
