use Prim.Native.Nat.{ℕ}
use mathlib.Core.Path.{◌≡◌, ap, ◌∙◌}
use native.Mathlib.Omega.{arith}
use Rattle.sets.specs.Bits.{filled}
use Rattle.sets.proofs.Columns.{filled-none, filled_more}
use Rattle.sets.proofs.places.by_place.Goals as goal

pub loop-place-init : goal.loop-place-init
loop-place-init g c = λ f tells. filled-none c.args.beyond f

pub loop-place-preserved : goal.loop-place-preserved
loop-place-preserved g c =
    λ f tells.
    let told = tells _ _ (omega arith) c.value.ensures in
    rw (c.loop-place.invariant f tells, told) (filled_more c.args.beyond c.loop-place.place f (omega arith))

pub returns : goal.returns
returns g c =
    λ f tells.
    let end : c.loop-place.place ≡ c.args.count = omega arith in
    c.loop-place.invariant f tells ∙ ap (λ (n : ℕ). filled c.args.beyond n f) end
