-- What is read of the outcome, the touched tasks and the old places make the map after the patch.
use mathlib.Core.Path.{◌≡◌, ap, sym, ◌∙◌}
use Rattle.rules.specs.Numbers.{count_to}
use Rattle.rules.specs.Blocks.{records}
use Rattle.rules.specs.Preempt.{bit_at}
use Rattle.rules.specs.Patches.{outcome}
use Rattle.table.proofs.Tables.{names_listed, few_records}
use Rattle.table.specs.declared.accepted.Table.{Table}
use Rattle.patch.specs.declared.carried.Standing.{Standing}
use Rattle.patch.proofs.Carrying.{carried_read, touched_counted}
use Rattle.patch.proofs.carried.carry_map.Goals as goal

pub count_places-requires : goal.count_places-requires
count_places-requires c = (few_records c.args.outcome.now).1

pub returns : goal.returns
returns c =
    let bs = records c.args.change.now.base.image.now in
    let ps = records c.args.change.now.patch.image.now in
    let set = c.touched_tasks-touched in
    let old = c.old_places-old in
    let standing : Standing = record { related = c.relate-related.result; touched = set.result; old = old.result } in
    let made : records standing.related.tasks.table.image.now ≡ outcome bs ps = ap (λ (t : Table). records t.image.now) c.relate-related.ensures ∙ c.requires.of_change in
    let before = names_listed c.args.change.now.base in
    record {
      map = c.carried_rows.ensures ∙ carried_read bs ps standing made before set.ensures old.ensures c.args.rows.now;
      touched =
          c.count_places.ensures
          ∙ ap (λ (t : Table). count_to (bit_at set.result) t.tasks) (sym c.relate-related.ensures)
          ∙ touched_counted bs ps standing made before set.ensures old.ensures;
    }
