use Rattle.rules.proofs.Numbers.{set_next}
use Prim.Native.Nat.{◌+◌}
use mathlib.Core.Path.{◌≡◌, refl, ap, ◌∙◌}
use lib.ListN.{length-set}
use Rattle.rules.specs.Blocks.{record_at}
use Rattle.rules.specs.Records.{number_of}
use native.Mathlib.Omega.{arith}
use Rattle.table.proofs.place.numbers_from.Goals as goal

pub loop-k-init : goal.loop-k-init
loop-k-init c = (refl, λ i h. absurd (omega arith))

pub loop-k-preserved : goal.loop-k-preserved
loop-k-preserved c =
    let a = c.args in
    let k = c.loop-k.k in
    let numbers = c.loop-k.numbers in
    let here : c.two_bytes.result ≡ number_of (record_at a.image.now (a.first + k)) = c.two_bytes.ensures.0 ∙ ap number_of c.record_at.ensures in
    (length-set numbers k c.two_bytes.result ∙ c.loop-k.invariant.0, set_next (λ i. number_of (record_at a.image.now (a.first + i))) numbers k c.two_bytes.result (omega (arith, c.loop-k.invariant.0)) c.loop-k.invariant.1 here)

pub returns : goal.returns
returns c =
    let end : c.loop-k.k ≡ c.args.count = omega arith in
    record { size = c.loop-k.invariant.0; right = λ i h. c.loop-k.invariant.1 i (omega arith) }
