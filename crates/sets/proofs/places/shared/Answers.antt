-- A bit of `&` is set where both are.
use Rattle.sets.proofs.Sets.{shared_has}
use Rattle.sets.proofs.places.shared.Goals as goal

pub returns : goal.returns
returns c = shared_has c.args.a c.args.b
