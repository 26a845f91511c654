-- An id that has no place among those of the tasks is not listed.
use mathlib.Core.Bool.{not-not}
use mathlib.Core.Path.{◌∙◌}
use Rattle.rules.specs.Blocks.{records}
use Rattle.rules.specs.Records.{tasks}
use Rattle.table.proofs.Places.{found_listed, place_in}
use Rattle.table.proofs.reference.is_unlisted.Goals as goal

pub returns : goal.returns
returns c =
    let t = c.args.listing.now in
    let listed = tasks (records t.image.now) in
    let found = found_listed listed c.args.id t.tasks c.place_of.result (c.place_of.ensures.placed ∙ place_in listed t.ids t.tasks t.tasks_listed c.args.id) t.tasks_listed.counted c.place_of.ensures.inside in
    rw (← found, c.is_none.ensures, not-not)
