-- The new map from what is read is the map after the patch: touched tasks, old places and decisions are the table's.
use Prim.Native.Nat.{ℕ, ◌^◌, ◌≤◌, ◌<◌}
use mathlib.Core.List.{List, []}
use mathlib.Core.Bool.{Bool, false, cond}
use mathlib.Core.Path.{◌≡◌, ap, sym, ◌∙◌}
use native.Mathlib.Omega.{arith}
use lib.Pow.{pow_mono}
use lib.ListN.{length, get_or}
use Rattle.rules.specs.Numbers.{count_to}
use Rattle.rules.specs.Blocks.{records}
use Rattle.rules.specs.Records.{number_of, second_of, tasks, task_at, place_of}
use Rattle.rules.specs.Preempt.{beside, map_from, bit_at}
use Rattle.rules.specs.Patches.{outcome, alongside, touched, touched_count, old_place, carried, patched_map}
use Rattle.rules.proofs.Numbers.{sum_to_ext, some_ext}
use Rattle.rules.proofs.Bits.{bit_lacks}
use Rattle.rules.proofs.Maps.{map_ext}
use Rattle.rules.proofs.Table.Shape.{Shape}
use Rattle.rules.proofs.Table.Listed.{Listed}
use Rattle.rules.proofs.Patch.Untouched.{touched_by, touched-after}
use Rattle.table.proofs.Tables.{shape, names_listed}
use Rattle.sets.specs.Bits.{column}
use Rattle.preempt.specs.declared.columns.Columns.{Columns}
use Rattle.preempt.specs.Tasks.{TasksRead}
use Rattle.sets.proofs.Columns.{column_at}
use Rattle.preempt.proofs.Reading.{few_read, id_is, transaction_is, decided_read}
use Rattle.patch.specs.Touched.{Marks, beside_in, along_in, touched_in, touched_at}
use Rattle.patch.specs.declared.carried.Standing.{Standing}
use Rattle.patch.specs.Carried.{cell_new}
use Rattle.patch.proofs.Along.{beside_found}

-- a row of 64 bits has no cell beyond them
pub no_such_cell : (row place : ℕ) → row < 2 ^ 64 → 64 ≤ place → bit_at row place ≡ false
no_such_cell row place small beyond = bit_lacks row place (omega (arith, pow_mono {j = place} beyond))

-- base and patch, what stands for their outcome, and which tasks are touched
module _ (base patch : List (List ℕ)) (s : Standing) (made : records s.related.tasks.table.image.now ≡ outcome base patch) (before : Listed base) (marked : Marks s.related.tasks (touched_at patch s.related) s.touched) (placed : s.old ≡ column s.related.tasks.table.tasks (λ i. place_of (tasks base) (get_or s.related.tasks.columns.ids i 0))) where
  -- how many tasks the outcome has, and their columns
  abbrev count : ℕ
  count = s.related.tasks.table.tasks

  abbrev columns : Columns
  columns = s.related.tasks.columns

  -- what is known of the outcome's records
  shaped : Shape (outcome base patch)
  shaped = rw made at (shape s.related.tasks.table)

  after : Listed (outcome base patch)
  after = rw made at (names_listed s.related.tasks.table)

  read : TasksRead (outcome base patch) count columns
  read = rw made at s.related.tasks.read

  -- the tasks along the paths of a record
  along_read : (p : List ℕ) (i : ℕ) → i < count → along_in s.related p i ≡ alongside (outcome base patch) p (task_at (outcome base patch) i).id
  along_read p i h =
      let found : (x : ℕ) → beside_in s.related x i ≡ beside (outcome base patch) (task_at (outcome base patch) i).id x = λ x. rw made at (beside_found s.related x i h) in
      rw (found (number_of p), found (second_of p))

  -- a place is in the set where its task is touched
  touched_read : (i : ℕ) → i < count → bit_at s.touched i ≡ touched base patch i
  touched_read i h =
      let task = task_at (outcome base patch) i in
      marked i h
      ∙ some_ext (λ k. touched_in s.related (get_or patch k []) i) (λ k. touched_by (outcome base patch) (get_or patch k []) task.id task.transaction) (length patch)
      (λ k l. rw (along_read (get_or patch k []) i h, id_is (outcome base patch) count columns shaped read i, transaction_is (outcome base patch) count columns shaped read i))
      ∙ sym (touched-after base patch before after i)

  -- so as many are in it as are touched
  pub touched_counted : count_to (bit_at s.touched) count ≡ touched_count base patch
  touched_counted =
      sum_to_ext (λ i. cond (bit_at s.touched i) 1 0) (λ i. cond (touched base patch i) 1 0) count (λ i h. ap (λ (b : Bool). cond b 1 0) (touched_read i h))
      ∙ ap (count_to (touched base patch)) read.count

  -- where a task stood in the base
  old_read : (i : ℕ) → i < count → get_or s.old i 0 ≡ old_place base patch i
  old_read i h =
      ap (λ (l : List ℕ). get_or l i 0) placed
      ∙ column_at count (λ j. place_of (tasks base) (get_or columns.ids j 0)) i (few_read (outcome base patch) count columns shaped read) h
      ∙ ap (place_of (tasks base)) (id_is (outcome base patch) count columns shaped read i)

  -- a cell of the new map
  cell_read : (rows : List ℕ) (i j : ℕ) → i < count → j < count → cell_new s rows i j ≡ carried base patch rows i j
  unfolding cell_new carried
  cell_read rows i j h l =
      rw (
        touched_read i h,
        touched_read j l,
        old_read i h,
        old_read j l,
        decided_read (outcome base patch) count columns s.related.barred shaped read (rw made at s.related.bars) i j (omega (arith, read.count)) (omega (arith, read.count)),
      )

  -- and so the map
  pub carried_read : (rows : List ℕ) → map_from count (cell_new s rows) ≡ patched_map base patch rows
  carried_read rows =
      map_ext count (cell_new s rows) (carried base patch rows) (cell_read rows)
      ∙ ap (λ (n : ℕ). map_from n (carried base patch rows)) read.count
