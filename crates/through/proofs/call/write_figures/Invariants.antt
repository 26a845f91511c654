-- The loop keeps that the figures of the places passed are written over the start of the room.
use mathlib.Core.Path.{◌≡◌}
use lib.IntN.{sub_ℕ}
use lib.ListN.{get_or}
use Rattle.rules.specs.Numbers.{up_to}
use Rattle.rules.specs.Calls.{over}
use Rattle.through.proofs.call.write_figures.Given as goal

abbrev pub invariant-loop-place : goal.invariant-loop-place
invariant-loop-place l = l.room ≡ over (up_to (λ i. sub_ℕ l.reserve (get_or l.weights i 0)) l.place) l.initial.room
