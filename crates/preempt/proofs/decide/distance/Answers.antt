-- In either case both offsets are below the period, and the laws of the two cases then say what the distance is.
use Prim.Native.Nat.{◌<◌}
use native.Mathlib.Omega.{arith}
use Rattle.rules.proofs.Distance.{distance_above, distance_below}
use Rattle.preempt.proofs.decide.distance.Goals as goal

pub overflow_sub-psi : goal.overflow_sub-psi
overflow_sub-psi c = omega (arith, c.if-o_j-t.true, c.from-t.ensures, c.from-o_j.ensures)

pub returns-then-o_j-t : goal.returns-then-o_j-t
returns-then-o_j-t c =
    let a = c.args in
    let t = c.from-t.ensures in
    let o_i = c.from-o_i.ensures in
    let o_j = c.from-o_j.ensures in
    let below : c.args.upper < c.args.period = omega (arith, c.if-o_j-t.true, c.from-t.ensures, c.from-o_j.ensures) in
    omega (arith, t, o_i, o_j, below, distance_below a.period a.lower a.upper (omega (arith, below, o_i, o_j)) below (omega (arith, o_i, o_j)))

pub returns-then-o_i-t : goal.returns-then-o_i-t
returns-then-o_i-t c =
    let a = c.args in
    let t = c.from-t.ensures in
    let o_i = c.from-o_i.ensures in
    let o_j = c.from-o_j.ensures in
    let below : c.args.lower < c.args.period = omega (arith, c.if-o_i-t.true, c.from-t.ensures, c.from-o_i.ensures) in
    omega (arith, t, o_i, o_j, distance_above a.period a.lower a.upper below (omega (arith, below, o_i, o_j)) (omega (arith, o_i, o_j)))
