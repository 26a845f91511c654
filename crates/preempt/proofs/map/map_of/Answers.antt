-- A map is a column of rows.
use Rattle.std.proofs.Common.{rules}
use mathlib.Core.Path.{sym, ◌∙◌}
use Rattle.rules.specs.Preempt.{row_from}
use Rattle.sets.proofs.Maps.{map-column}
use Rattle.preempt.specs.Tasks.{decided_by}
use Rattle.preempt.proofs.map.map_of.Goals as goal

pub returns : goal.returns
returns c =
    let a = c.args in
    c.by_place.ensures (λ i. row_from a.count (decided_by a.columns.now a.barred.now i)) (λ place row below told. search rules)
    ∙ sym (map-column a.count (decided_by a.columns.now a.barred.now))
