-- The ids that an accepted bound call shows, as the part of the lent room that they fill.
use Rattle.std.proofs.Common.{◌≡◌, refl, true, ℕ, ◌<◌, List, length, take, get_or, Result, Ok, subst, arith}
use Rattle.std.proofs.lemmas.List.{length-take, get_or-take}
use Rattle.rules.specs.declared.BoundsFound.{BoundsFound}
use Rattle.rules.specs.declared.Refusal.{Refusal}
use Rattle.rules.specs.Blocks.{records}
use Rattle.rules.specs.Records.{tasks, listed}
use Rattle.rules.specs.Calls.{BoundCall}
use Rattle.rules.specs.Told.{bounds_told}
use Rattle.rules.proofs.FourBounds.Shown.{shown_listed}

-- each is the id of a listed task
pub part_listed : (image rows ids later : List ℕ) (call : Result BoundsFound Refusal) (found : BoundsFound) → call ≡ Ok found → BoundCall image rows ids (bounds_told call) later → (k : ℕ) → k < length (take found.length later) → listed (tasks (records image)) (get_or (take found.length later) k 0) ≡ true
part_listed image rows ids later call found is made k h =
    let below : k < found.length = omega (arith, length-take found.length later) in
    let accepted = subst (λ (told : Result BoundsFound Refusal). BoundCall image rows ids (bounds_told told) later) is made in
    rw (get_or-take found.length later k 0 below) (shown_listed image rows ids (bounds_told (Ok found)) later accepted refl k below)
