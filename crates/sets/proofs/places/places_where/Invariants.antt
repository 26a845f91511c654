-- The loop's invariant: of the places passed the set holds those that any test which tells the answers chooses.
use Prim.Native.Nat.{ℕ}
use mathlib.Core.Bool.{Bool}
use Rattle.sets.specs.Places.{Tells}
use Rattle.sets.proofs.Choosing.{Chosen}
use Rattle.sets.proofs.places.places_where.Given as goal

abbrev pub invariant-loop-place : goal.invariant-loop-place
invariant-loop-place g l = (test : ℕ → Bool) → Tells l.count (goal.F-post g l.passes) test → Chosen test l.count l.place l.set
