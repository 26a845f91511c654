-- The loop keeps the rows of the paths that lead through places below k.
use Prim.Native.Nat.{◌≤◌}
use mathlib.Core.Path.{◌≡◌}
use Rattle.rules.specs.Preempt.{cell, map_from}
use Rattle.rules.specs.Reach.{reaches}
use Rattle.sets.proofs.closing.close_rows.Given as goal

abbrev pub invariant-loop-k : goal.invariant-loop-k
invariant-loop-k l = (l.k ≤ l.count) × (l.rows ≡ map_from l.count (reaches (cell l.initial.rows) (λ m. m) l.k))
