-- Before each turn the first k bytes are those of the other part, and the rest is as it was.
use Prim.Native.Nat.{◌≤◌}
use mathlib.Core.List.{◌++◌}
use mathlib.Core.Path.{◌≡◌}
use lib.ListN.{length, take, drop}
use Rattle.image.proofs.write.copy_bytes.Given as goal

abbrev pub invariant-loop-k : goal.invariant-loop-k
invariant-loop-k l = (l.k ≤ length l.from) × (l.to ≡ take l.k l.from ++ drop l.k l.initial.to) × (length l.to ≡ length l.initial.to)
