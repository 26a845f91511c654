-- The pairs are marked in rows that are all 0, and the rows are closed.
use Prim.Native.Nat.{ℕ, ◌≤◌}
use mathlib.Core.Bool.{◌||◌}
use mathlib.Core.List.{List}
use mathlib.Core.Path.{◌≡◌, ap, ◌∙◌}
use native.Mathlib.Omega.{arith}
use Rattle.rules.specs.Blocks.{records}
use Rattle.rules.specs.Records.{task_count}
use Rattle.rules.specs.Reach.{reaches}
use Rattle.rules.specs.Preempt.{cell, map_from}
use Rattle.sets.proofs.Paths.{is_map}
use Rattle.table.specs.Precedence.{paired_at, with_pairs}
use Rattle.table.proofs.Closed.{few_tasks, blank-map, before_closed}
use Rattle.table.proofs.precedence.mark_before.Goals as goal

pub mark_pairs-requires : goal.mark_pairs-requires
mark_pairs-requires c = record { sound_records = c.requires.sound_records; tasks_listed = c.requires.tasks_listed; map = blank-map c.args.known c.args.rows.now c.requires.blank }

pub close_rows-requires : goal.close_rows-requires
close_rows-requires c =
    let marked : c.mark_pairs.new.rows ≡ with_pairs 1 (records c.args.image.now) c.args.rows.now = rw c.from.ensures at c.mark_pairs.ensures in
    let rs = records c.args.image.now in
    let counted = c.requires.tasks_listed.counted in
    let few : task_count rs ≤ 64 = few_tasks c.args.image.now (λ k. (c.type_inv.image k).fits) c.requires.sound_records in record { count_bound = omega arith; map = rw counted (is_map (task_count rs) (λ i j. cell c.args.rows.now i j || paired_at 1 rs i j) c.mark_pairs.new.rows few marked) }

pub returns : goal.returns
returns c =
    let marked : c.mark_pairs.new.rows ≡ with_pairs 1 (records c.args.image.now) c.args.rows.now = rw c.from.ensures at c.mark_pairs.ensures in
    let rs = records c.args.image.now in
    let few : task_count rs ≤ 64 = few_tasks c.args.image.now (λ k. (c.type_inv.image k).fits) c.requires.sound_records in
    c.close_rows.ensures
    ∙ ap (λ (rows : List ℕ). map_from c.args.known (reaches (cell rows) (λ k. k) c.args.known)) marked
    ∙ rw c.requires.tasks_listed.counted (before_closed rs c.args.rows.now c.requires.blank few)
