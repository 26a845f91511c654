-- The search over the blocks is that of the definition.
use Rattle.std.proofs.Common.{rules}
use Rattle.image.proofs.First.{first_in_range}
use Rattle.image.proofs.frame.first_wrong_check.Goals as goal

pub returns : goal.returns
returns c = first_in_range _ _ _ _ _ c.find.ensures.ran (λ b answer q called. search rules)
