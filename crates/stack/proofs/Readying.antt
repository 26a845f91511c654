-- What an accepted table gives that the bounds ask: sizes and priorities in range, arrays of 64, rows that rise.
use Prim.Native.Nat.{ℕ, ◌≤◌, ◌<◌}
use mathlib.Core.List.{List, []}
use mathlib.Core.Bool.{◌&&◌}
use mathlib.Core.Path.{◌≡◌, sym, ◌∙◌}
use native.Mathlib.Omega.{arith}
use borrow.Author.Tests.{ltb-true}
use lib.ListN.{get_or}
use lib.Dec.{ltb}
use Rattle.rules.specs.Blocks.{records}
use Rattle.rules.specs.Records.{tasks as Records·tasks}
use Rattle.rules.specs.Preempt.{cell}
use Rattle.rules.specs.Chains.{related}
use Rattle.rules.proofs.Tests.{both_first, both_second, T_true}
use Rattle.rules.proofs.Table.Ranges.{TaskRanges, task_ranges, le2_small}
use Rattle.rules.proofs.Table.Shape.{of_kind_bytes}
use Rattle.table.proofs.Tables.{shape}
use Rattle.preempt.specs.declared.tasks.Tasks.{Tasks}
use Rattle.sets.proofs.Columns.{column_long}
use Rattle.preempt.proofs.Reading.{few_read, id_is, priority_is, size_is, threshold_is}
use Rattle.stack.specs.Setting.{Arrays, Ready, RowsRise}
use Rattle.stack.specs.Related.{RelatedRows}
use Rattle.stack.specs.declared.call.Prepared.{Prepared}
use Rattle.stack.specs.Figures.{PreparedOver}
use Rattle.stack.proofs.Inserting.{falling_ready}
use Rattle.stack.proofs.Figures.{rows_same}

module _ (t : Tasks) where
  abbrev rs : List (List ℕ)
  rs = records t.table.image.now

  abbrev count : ℕ
  count = t.table.tasks

  -- there are few tasks
  pub few_tasks : count ≤ 64
  few_tasks = few_read rs count t.columns (shape t.table) t.read

  -- the ranges of a task, by its place
  ranges : (i : ℕ) → i < count → TaskRanges (get_or (Records·tasks rs) i [])
  ranges i h = task_ranges (get_or (Records·tasks rs) i []) ((shape t.table).tasks_right i (omega (arith, t.read.count)))

  -- a number of two bytes fits two bytes, at any place
  sizes_light : (i : ℕ) → get_or t.columns.sizes i 0 ≤ 65535
  sizes_light i =
      omega (arith, size_is rs count t.columns (shape t.table) t.read i, le2_small (get_or (Records·tasks rs) i []) (of_kind_bytes t.table.image.now t.table.bytes 2 i) 20)

  pub ids_small : (i : ℕ) → get_or t.columns.ids i 0 < 65536
  ids_small i =
      omega (arith, id_is rs count t.columns (shape t.table) t.read i, le2_small (get_or (Records·tasks rs) i []) (of_kind_bytes t.table.image.now t.table.bytes 2 i) 2)

  module _ (lent rows : List ℕ) (made : RelatedRows count t.columns.thresholds t.columns.priorities lent rows) where
    -- cells that count rise in priority, as no threshold is below its task's
    pub rows_rising : RowsRise count rows t.columns.priorities
    rows_rising =
        record {
          priority_count = column_long _ _ t.read.columns.priorities;
          tasks = λ i j may.
              let both = both_first (ltb i count && ltb j count) _ (sym (made.cells i j) ∙ T_true (cell rows i j) may) in
              (ltb-true i count (both_first (ltb i count) (ltb j count) both), ltb-true j count (both_second (ltb i count) (ltb j count) both));
          rises = λ i j h k may.
              let both = sym (made.cells i j) ∙ T_true (cell rows i j) may in
              let above = ltb-true (get_or t.columns.thresholds i 0) (get_or t.columns.priorities j 0) (both_first (ltb (get_or t.columns.thresholds i 0) (get_or t.columns.priorities j 0)) (cell lent i j) (both_second (ltb i count && ltb j count) _ both)) in
              omega (arith, above, priority_is rs count t.columns (shape t.table) t.read i, threshold_is rs count t.columns (shape t.table) t.read i, (ranges i h).threshold_from_priority);
          least = λ i h. omega (arith, priority_is rs count t.columns (shape t.table) t.read i, (ranges i h).some_priority);
          most = λ i h. omega (arith, priority_is rs count t.columns (shape t.table) t.read i, (ranges i h).most_priority);
        }

    pub rows_arrays : Arrays count rows t.columns.sizes
    rows_arrays =
        record {
          few = few_tasks;
          row_count = made.row_count;
          size_count = column_long _ _ t.read.columns.sizes;
          light = λ i h. sizes_light i;
        }

    -- and they are the relation
    pub rows_related : cell rows ≡ related rs lent
    rows_related = rows_same rs lent count t.columns (shape t.table) t.read rows made.cells

  -- what was prepared is what the bounds ask
  pub prepared_ready : (lent : List ℕ) (prepared : Prepared) → PreparedOver count t.columns lent prepared → Ready count prepared.rows t.columns.sizes prepared.order
  prepared_ready lent prepared made =
      falling_ready (rows_arrays lent prepared.rows made.related) made.order_count made.falling (rows_rising lent prepared.rows made.related)
