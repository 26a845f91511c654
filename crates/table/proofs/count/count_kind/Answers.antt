-- The records of a kind are those from its start to the next kind's.
-- what the two starts say
use Prim.Native.Nat.{◌-◌, ◌≤◌}
use mathlib.Core.Path.{◌≡◌, sym}
use native.Mathlib.Omega.{arith}
use lib.ListN.{length}
use Rattle.rules.specs.Blocks.{records, record_at, record_count}
use Rattle.rules.specs.Records.{of_kind}
use Rattle.rules.proofs.Numbers.{length-up_to}
use Rattle.table.proofs.Counts.{kinds_grouped, kind_counted}
use Rattle.table.proofs.count.count_kind.Goals as goal

pub overflow_sub-result : goal.overflow_sub-result
overflow_sub-result c =
    let counted : (c.kind_start-2.result ≤ c.kind_start.result) × (length (of_kind c.args.kind (records c.args.image.now)) ≡ c.kind_start.result - c.kind_start-2.result) = kind_counted (records c.args.image.now) c.args.kind c.kind_start-2.result c.kind_start.result
    (kinds_grouped c.args.image.now (λ k. (c.type_inv.image k).fits) c.requires.sound)
    c.kind_start-2.ensures c.kind_start.ensures in
    omega (arith, counted.0)

pub returns : goal.returns
returns c =
    let counted : (c.kind_start-2.result ≤ c.kind_start.result) × (length (of_kind c.args.kind (records c.args.image.now)) ≡ c.kind_start.result - c.kind_start-2.result) = kind_counted (records c.args.image.now) c.args.kind c.kind_start-2.result c.kind_start.result
    (kinds_grouped c.args.image.now (λ k. (c.type_inv.image k).fits) c.requires.sound)
    c.kind_start-2.ensures c.kind_start.ensures in
    record { counted = sym counted.1; inside = omega (arith, c.kind_start.ensures.inside, length-up_to (record_at c.args.image.now) (record_count c.args.image.now)) }
