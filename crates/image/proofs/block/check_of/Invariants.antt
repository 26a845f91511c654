-- The loop keeps that the sums so far and the weighted bytes are together the last sum, once more than bytes are passed.
use Prim.Native.Nat.{ℕ, ◌+◌, ◌*◌, ◌≤◌}
use mathlib.Core.Path.{◌≡◌}
use mathlib.Core.List.{List}
use lib.ListN.{get_or}
use Rattle.rules.specs.Numbers.{sum_to}
use Rattle.image.proofs.block.check_of.Given as goal

abbrev pub term : List ℕ → ℕ → ℕ
term block i = (i + 1) * get_or block i 0

abbrev pub invariant-loop-byte : goal.invariant-loop-byte
invariant-loop-byte l =
    (l.sums + sum_to (term l.block) l.byte-index ≡ (l.byte-index + 1) * l.sum) × (l.sum ≤ 255 * l.byte-index) × (l.sums ≤ 130050 * l.byte-index)
