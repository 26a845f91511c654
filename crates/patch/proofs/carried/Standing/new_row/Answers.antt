-- Where the row's task is touched or the other is, the cell is decided, and else it is that of the row that was read.
use Prim.Native.Nat.{ℕ}
use mathlib.Core.List.{List}
use mathlib.Core.Bool.{true, false}
use mathlib.Core.Path.{◌≡◌, sym, ◌∙◌}
use lib.ListN.{get_or}
use Rattle.rules.specs.Preempt.{row_from, bit_at}
use Rattle.preempt.specs.Tasks.{decided_by}
use Rattle.patch.specs.declared.carried.Standing.{Standing}
use Rattle.patch.specs.Carried.{cell_carried, cell_new}
use Rattle.patch.proofs.carried.Standing.new_row.Goals as goal

-- the row of a touched task
row_decided : (s : Standing) (rows : List ℕ) (count i : ℕ) → bit_at s.touched i ≡ true
    → row_from count (decided_by s.related.tasks.columns s.related.barred i) ≡ row_from count (cell_new s rows i)
unfolding cell_new
row_decided s rows count i is_touched = rw is_touched

-- the row of any other
row_carried : (s : Standing) (rows : List ℕ) (count i : ℕ) → bit_at s.touched i ≡ false
    → row_from count (cell_carried s (get_or rows (get_or s.old i 0) 0) i) ≡ row_from count (cell_new s rows i)
unfolding cell_carried cell_new
row_carried s rows count i untouched = rw untouched

pub returns-then-is_set : goal.returns-then-is_set
returns-then-is_set c =
    let s = c.args.self.now in
    c.decided_row.ensures ∙ row_decided s c.args.rows.now s.related.tasks.table.tasks c.args.i (sym c.is_set.ensures ∙ c.if-is_set.true)

pub returns : goal.returns
returns c =
    let s = c.args.self.now in
    c.carried_row.ensures
    ∙ rw c.base_row.ensures (row_carried s c.args.rows.now s.related.tasks.table.tasks c.args.i (sym c.is_set.ensures ∙ c.if-is_set.false))
