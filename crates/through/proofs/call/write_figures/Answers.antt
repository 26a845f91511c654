use Prim.Native.Nat.{ℕ}
use mathlib.Core.List.{List}
use mathlib.Core.Path.{◌≡◌, ap, ◌∙◌}
use native.Mathlib.Omega.{arith}
use lib.IntN.{ℤ, sub_ℕ}
use lib.ListN.{get_or, set}
use mir.Syntax.{w64}
use mir.Val.{to_z, of_z}
use mir.Facts.{to_z-of_z}
use Rattle.through.proofs.Writing.{figures_none, figures_next}
use Rattle.through.proofs.call.write_figures.Goals as goal

pub loop-place-init : goal.loop-place-init
loop-place-init c = figures_none _ _

pub loop-place-preserved : goal.loop-place-preserved
loop-place-preserved c =
    let looped = c.loop-place in
    let figure : ℕ → ℤ = λ i. sub_ℕ c.args.reserve (get_or c.args.weights.now i 0) in
    let written : ℤ = to_z w64 (of_z w64 c.left_of.result) in
    let same : written ≡ figure looped.place = to_z-of_z {w = w64} (record { sfits = c.left_of.type_inv }) ∙ c.left_of.ensures in
    ap (λ (l : List ℤ). set l looped.place written) looped.invariant ∙ figures_next figure c.args.room.now looped.place written (omega (arith, c.requires.in_bounds)) same
