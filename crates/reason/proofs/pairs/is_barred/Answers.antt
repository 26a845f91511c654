-- The rows tell whether one comes before the other, and the pairs whether a one-way pair forbids it.
use Prim.Native.Nat.{ℕ, ◌<◌}
use mathlib.Core.List.{List}
use mathlib.Core.Bool.{◌||◌, or-true, or-false}
use mathlib.Core.Path.{◌≡◌, sym, ◌∙◌}
use native.Mathlib.Omega.{arith}
use Rattle.rules.specs.Blocks.{records}
use Rattle.rules.specs.Records.{task_count, task_at}
use Rattle.rules.specs.Preempt.{beside, barred, cell}
use Rattle.table.specs.declared.accepted.Table.{Table}
use Rattle.table.specs.Precedence.{before_map}
use Rattle.table.proofs.Closed.{before_cell}
use Rattle.table.proofs.Tables.{shape, few_records}
use Rattle.reason.proofs.pairs.is_barred.Goals as goal

-- what the rows tell of two tasks
beside_told : (t : Table) (rows : List ℕ) → rows ≡ before_map (records t.image.now) → (i j : ℕ) → (i < t.tasks) × (j < t.tasks)
    → (cell rows i j || cell rows j i) ≡ beside (records t.image.now) (task_at (records t.image.now) i).id (task_at (records t.image.now) j).id
beside_told t rows known i j places =
    let rs = records t.image.now in
    let cells = before_cell rs rows (shape t).few_tasks known in
    let first : i < task_count rs = omega (arith, places.0, t.tasks_counted) in
    let second : j < task_count rs = omega (arith, places.1, t.tasks_counted) in
    rw (cells i j first second, cells j i second first)

pub is_beside-requires : goal.is_beside-requires
is_beside-requires c = (omega (arith, c.requires.in_bounds, few_records c.args.table.now), omega (arith, c.requires.in_bounds, few_records c.args.table.now))

pub returns-then-is_beside : goal.returns-then-is_beside
unfolding barred
returns-then-is_beside c =
    let a = c.args in
    let told = beside_told a.table.now a.before.now c.requires.before_known a.i a.j c.requires.in_bounds in
    rw (← told, ← c.is_beside.ensures, c.if-is_beside.true) (sym (or-true _))

pub returns-else-is_beside : goal.returns-else-is_beside
unfolding barred
returns-else-is_beside c =
    let a = c.args in
    let told = beside_told a.table.now a.before.now c.requires.before_known a.i a.j c.requires.in_bounds in
    c.is_forbidden.ensures ∙ rw (← told, ← c.is_beside.ensures, c.if-is_beside.false, c.id_at.ensures, c.id_at-else-is_beside.ensures) (sym (or-false _))
