-- What an accepted bound call shows is what the lines need.
use Rattle.reasons.proofs.Part.{part_listed}
use Rattle.reasons.proofs.main.Goals as goal

pub neighbours-requires : goal.neighbours-requires
neighbours-requires c = part_listed _ _ _ _ _ c.in-Ok.found c.in-Ok.is c.in_ok-worked.ensures.bound_call
