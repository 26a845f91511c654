-- The loop keeps the key of the record before, and that no record passed is out of order.
use Prim.Native.Nat.{◌-◌}
use mathlib.Core.Path.{◌≡◌}
use mathlib.Core.List.{[]}
use lib.ListN.{get_or}
use Rattle.rules.specs.Numbers.{lowest}
use Rattle.rules.specs.Blocks.{records}
use Rattle.rules.specs.Records.{image_key}
use Rattle.rules.specs.Refusals.{order_wrong}
use Rattle.table.proofs.order.first_wrong_order.Given as goal

abbrev pub invariant-loop-k : goal.invariant-loop-k
invariant-loop-k l = (l.before ≡ image_key (get_or (records l.image) (l.k - 1) [])) × (lowest (order_wrong (records l.image)) l.k ≡ l.k)
