-- A map is a column of rows.
use Rattle.std.proofs.Common.{rules}
use mathlib.Core.Path.{sym, ◌∙◌}
use Rattle.rules.specs.Preempt.{row_from}
use Rattle.sets.proofs.Maps.{map-column}
use Rattle.patch.specs.Carried.{cell_new}
use Rattle.patch.proofs.carried.Standing.carried_rows.Goals as goal

pub returns : goal.returns
returns c =
    let s = c.args.self.now in
    let count = s.related.tasks.table.tasks in
    c.by_place.ensures (λ i. row_from count (cell_new s c.args.rows.now i)) (λ place row below told. search rules)
    ∙ sym (map-column count (cell_new s c.args.rows.now))
