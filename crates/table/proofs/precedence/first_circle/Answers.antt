-- The search over the rows is that of the definition.
use Rattle.std.proofs.Common.{rules}
use Rattle.image.proofs.First.{first_in_range}
use Rattle.table.proofs.precedence.first_circle.Goals as goal

pub returns : goal.returns
returns c = first_in_range _ _ _ _ _ c.find.ensures.ran (λ i answer q called. search rules)
