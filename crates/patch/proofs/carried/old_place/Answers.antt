-- The base's ids are those of its tasks, as they rise; a place is at most the number of tasks, and they are few.
use mathlib.Core.Path.{◌∙◌}
use native.Mathlib.Omega.{arith}
use lib.Dec.{eqb}
use lib.ListN.{get_or}
use Rattle.rules.specs.Blocks.{records}
use Rattle.rules.specs.Records.{tasks}
use Rattle.rules.proofs.Numbers.{lowest_le}
use Rattle.table.proofs.Places.{place_in}
use Rattle.table.proofs.Tables.{few_records}
use Rattle.patch.proofs.carried.old_place.Goals as goal

pub place_of-requires : goal.place_of-requires
place_of-requires c = record { in_bounds = c.requires.room; rising = c.requires.rising }

pub overflow_cast-result : goal.overflow_cast-result
overflow_cast-result c =
    let most = lowest_le (λ k. eqb (get_or c.args.base_ids.now k 0) c.args.id) c.args.base.now.tasks in
    omega (arith, c.unwrap_or.ensures, c.place_of.ensures.placed, (few_records c.args.base.now).1)

pub returns : goal.returns
returns c =
    c.unwrap_or.ensures
    ∙ c.place_of.ensures.placed
    ∙ place_in (tasks (records c.args.base.now.image.now)) c.args.base_ids.now c.args.base.now.tasks c.requires c.args.id
