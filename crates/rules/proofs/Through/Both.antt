-- A room call and a chain call for one task, on the same table and map: both say what the heaviest chain that contains the
-- task weighs, and there is one such weight.
use Prim.Native.Nat.{ℕ}
use mathlib.Core.List.{List}
use mathlib.Core.Path.{◌≡◌, ap, ◌∙◌}
use lib.ListN.{get_or}
use lib.IntN.{ℤ, pos, sub_ℕ}
use Rattle.rules.specs.declared.Verdict.{Verdict}
use Rattle.rules.specs.declared.Shown.{Shown}
use Rattle.rules.specs.Blocks.{records}
use Rattle.rules.specs.Records.{tasks, place_of}
use Rattle.rules.specs.Chains.{weight, size_at}
use Rattle.rules.specs.Calls.{RoomLeftCall, ThroughCall}
use Rattle.rules.proofs.Table.Listed.{place_below}
use Rattle.rules.proofs.FourBounds.Unique.{largest_unique}
use Rattle.rules.proofs.Through.Figures.{ChainThrough, room_figure}
use Rattle.rules.proofs.Through.Shown.{through_named, through_weight}

-- the entry that an accepted room call writes for a task is the reserve less the weight that an accepted chain call for that
-- task answers
pub figure_of_chain : (image rows : List ℕ) (reserve : ℕ) (room : List ℤ) (a : Verdict) (later : List ℤ) (id : ℕ) (ids : List ℕ) (b : Shown) (shown : List ℕ)
    → RoomLeftCall image rows reserve room a later → a.number ≡ 0 → ThroughCall image rows id ids b shown → b.number ≡ 0
    → get_or later (place_of (tasks (records image)) id) (pos 0) ≡ sub_ℕ reserve b.weight
figure_of_chain image rows reserve room a later id ids b shown left fine through taken =
    let place = place_of (tasks (records image)) id in
    let inside = place_below (tasks (records image)) id (through_named image rows id ids b shown through taken) in
    let (r, largest, entry) = room_figure image rows reserve room a later left fine place inside in
    entry
    ∙ ap (sub_ℕ reserve)
    (largest_unique (ChainThrough image rows place) (weight (size_at (records image))) r b.weight largest
    (through_weight image rows id ids b shown through taken))
