-- The loop keeps that the ids of the places passed are written over the start of the room.
use mathlib.Core.List.{map}
use mathlib.Core.Path.{◌≡◌}
use lib.ListN.{length, get_or, take}
use Rattle.rules.specs.Calls.{over}
use Rattle.stack.proofs.call.write_ids.Given as goal

abbrev pub invariant-loop-k : goal.invariant-loop-k
invariant-loop-k l = (length l.ids ≡ length l.initial.ids) × (l.ids ≡ over (map (λ i. get_or l.all i 0) (take l.k l.chain)) l.initial.ids)
