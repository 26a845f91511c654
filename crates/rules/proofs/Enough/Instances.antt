-- Laws of what each instance of a run has, by recursion on the run.
use mathlib.Core.List.{List, [], ◌∷◌}
use mathlib.Core.Logic.{inl, inr}
use mathlib.Core.Path.{refl}
use Rattle.rules.specs.Execution.{Instance, ◌∈◌}

-- each instance of the run has the property
abbrev pub Each : (Instance → Type 0) → List Instance → Type 0
Each P [] = Unit {0}
Each P (v ∷ run) = P v × Each P run

-- what follows from what each has
pub each_then : {P Q : Instance → Type 0} → ((v : Instance) → P v → Q v) → (c : List Instance) → Each P c → Each Q c
each_then f [] h = tt
each_then f (v ∷ c) h = (f v h.0, each_then f c h.1)

-- and from two things that each has
pub each_with : {P Q R : Instance → Type 0} → ((v : Instance) → P v → Q v → R v) → (c : List Instance) → Each P c → Each Q c → Each R c
each_with f [] h k = tt
each_with f (v ∷ c) h k = (f v h.0 k.0, each_with f c h.1 k.1)

-- each is one of the run
pub each_one : (run : List Instance) → Each (λ v. v ∈ run) run
each_one [] = tt
each_one (v ∷ run) = (inl refl, each_then (λ w h. inr h) run (each_one run))

-- and what each has, any one of the run has
pub each_at : (P : Instance → Type 0) (run : List Instance) → Each P run → (v : Instance) → v ∈ run → P v
each_at P [] h v there = absurd there
each_at P (w ∷ run) h v (inl e) = rw e h.0
each_at P (w ∷ run) h v (inr there) = each_at P run h.1 v there

-- what each has with each, any two of the run have
pub each_two : (R : Instance → Instance → Type 0) (run : List Instance) → Each (λ v. Each (R v) run) run
    → (v w : Instance) → v ∈ run → w ∈ run → R v w
each_two R run h v w one other = each_at (R v) run (each_at (λ u. Each (R u) run) run h v one) w other
