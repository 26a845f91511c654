-- The loop keeps that the rows passed are written and the others are as they were.
use Prim.Native.Nat.{◌≤◌}
use mathlib.Core.List.{◌++◌}
use mathlib.Core.Path.{◌≡◌}
use lib.ListN.{length, take, drop}
use Rattle.preempt.proofs.map.write_rows.Given as goal

abbrev pub invariant-loop-i : goal.invariant-loop-i
invariant-loop-i l = (l.i ≤ 64) × (length l.lent ≡ length l.initial.lent) × (l.lent ≡ take l.i l.map ++ drop l.i l.initial.lent)
