-- The search over the records is that of the definition.
use Rattle.std.proofs.Common.{rules}
use Rattle.image.proofs.First.{first_in_range}
use Rattle.table.proofs.Places.{first_placed}
use Rattle.table.proofs.place.place_from.Goals as goal

pub returns-clause-placed : goal.returns-clause-placed
returns-clause-placed c =
    first_placed _ _ _ (first_in_range _ _ _ _ _ c.find.ensures.ran (λ k answer q called. search rules))
