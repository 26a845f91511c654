-- What comes before what bars both ways, and the one-way pairs are marked besides.
use mathlib.Core.Path.{◌∙◌}
use Rattle.rules.specs.Blocks.{records}
use Rattle.table.proofs.Closed.{sound_records, beside_is_map}
use Rattle.table.proofs.Tables.{shape}
use Rattle.preempt.proofs.Barring.{barred_marked}
use Rattle.preempt.proofs.barred.mark_one_way.Goals as goal

pub mark_pairs-requires : goal.mark_pairs-requires
mark_pairs-requires c =
    let t = c.args.table.now in
    record {
      sound_records = sound_records t.image.now t.accepted;
      tasks_listed = c.requires.tasks_listed;
      map = rw t.tasks_counted (beside_is_map (records t.image.now) c.args.rows.now (shape t).few_tasks c.requires.beside);
    }

pub returns : goal.returns
returns c =
    let t = c.args.table.now in
    c.mark_pairs.ensures ∙ rw c.from.ensures (barred_marked (records t.image.now) c.args.rows.now (shape t).few_tasks c.requires.beside)
