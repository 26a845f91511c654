-- The loop's invariant: the places passed have what any function that tells the answers says of them.
use Prim.Native.Nat.{ℕ}
use mathlib.Core.Path.{◌≡◌}
use Rattle.sets.specs.Bits.{filled}
use Rattle.sets.specs.Places.{Tells}
use Rattle.sets.proofs.places.by_place.Given as goal

abbrev pub invariant-loop-place : goal.invariant-loop-place
invariant-loop-place g l = (f : ℕ → _) → Tells l.count (goal.F-post g l.value) f → l.values ≡ filled l.fn.beyond l.place f
