-- One more place adds 1 where it is in the set, and 0 where it is not.
use mathlib.Core.Path.{sym}
use native.Mathlib.Omega.{arith}
use Rattle.rules.specs.Preempt.{bit_at}
use Rattle.rules.proofs.Numbers.{either, sum_to_zero, count_to_passes, count_to_fails, count_to_le}
use Rattle.patch.proofs.touched.count_places.Goals as goal

pub loop-i-init : goal.loop-i-init
loop-i-init c = sym (sum_to_zero _)

pub overflow_add-found : goal.overflow_add-found
overflow_add-found c =
    let few = count_to_le (bit_at c.args.set) c.loop-i.i in
    rw c.from-found.ensures (either c.is_set.result (λ t. rw t (omega (arith, c.loop-i.invariant))) (λ t. rw t (omega (arith, c.loop-i.invariant))))

pub loop-i-preserved : goal.loop-i-preserved
loop-i-preserved c =
    let i = c.loop-i.i in
    let test = bit_at c.args.set in
    rw (c.loop-i.invariant, c.from-found.ensures, c.is_set.ensures)
    (either (test i) (λ t. rw t (sym (count_to_passes test i t))) (λ t. rw t (omega (arith, count_to_fails test i t))))
