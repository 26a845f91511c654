use Prim.Native.Nat.{ℕ}
use mathlib.Core.List.{List}
use mathlib.Core.Path.{ap, ◌∙◌}
use lib.ListN.{get_or, set, length-set}
use Rattle.stack.proofs.Writing.{mapped_next}
use native.Mathlib.Omega.{arith}
use Rattle.stack.proofs.call.write_ids.Goals as goal

pub loop-k-preserved : goal.loop-k-preserved
loop-k-preserved c =
    let a = c.args in
    let k = c.loop-k.k in
    let number : ℕ → ℕ = λ i. get_or a.all.now i 0 in
    let (long, so_far) = c.loop-k.invariant in
    (length-set c.loop-k.ids k (number c.from.result) ∙ long, ap (λ (l : List ℕ). set l k (number c.from.result)) so_far ∙ mapped_next number a.chain.now a.ids.now k (number c.from.result) (omega arith) (omega arith) (ap number c.from.ensures))
