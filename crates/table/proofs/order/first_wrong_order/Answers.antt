use borrow.Author.Tests.{lt-ltb, le-leb, lt-leb}
use mathlib.Core.Bool.{true, false}
use Prim.Native.Nat.{ℕ, ◌+◌, ◌-◌, ◌<◌}
use mathlib.Core.Path.{◌≡◌, refl, sym, ap, ◌∙◌}
use mathlib.Core.List.{List, []}
use lib.ListN.{get_or}
use Rattle.rules.specs.Blocks.{records, record_at, record_count}
use Rattle.rules.specs.Records.{image_key}
use Rattle.rules.specs.Refusals.{order_wrong}
use Rattle.rules.proofs.Numbers.{lowest_more, lowest_here, lowest_zero, get_or-up_to}
use native.Mathlib.Omega.{arith}
use Rattle.table.proofs.Finding.{first_at, first_past}
use Rattle.table.proofs.order.first_wrong_order.Goals as goal

-- the key that is read is that of the record in the list
read : (image : List ℕ) (k key : ℕ) (fields : List ℕ) → k < record_count image → fields ≡ record_at image k → key ≡ image_key fields → key ≡ image_key (get_or (records image) k [])
read image k key fields h e b = b ∙ ap image_key (e ∙ sym (get_or-up_to (record_at image) (record_count image) k [] h))

pub loop-k-init : goal.loop-k-init
loop-k-init c =
    let image = c.args.image.now in
    (read image 0 c.image_key-before.result c.record_at.result.now (omega (arith, c.record_count-count.ensures)) c.record_at.ensures c.image_key-before.ensures, lowest_more (order_wrong (records image)) 0 (lowest_zero (order_wrong (records image))) refl)

pub returns-then-here-before : goal.returns-then-here-before
returns-then-here-before c =
    let image = c.args.image.now in
    let k = c.loop-k.k in
    let inside : k < record_count image = omega (arith, c.record_count-count.ensures) in
    let here = read image k c.image_key-here.result c.record_at-in-loop-k.result.now inside c.record_at-in-loop-k.ensures c.image_key-here.ensures in
    let wrong : order_wrong (records image) k ≡ true = rw (lt-ltb 0 k c.loop-k.auto.k, ← here, ← c.loop-k.invariant.0, le-leb c.image_key-here.result c.loop-k.before (omega arith)) in
    first_at (order_wrong (records image)) (record_count image) k (lowest_here (order_wrong (records image)) k (record_count image) c.loop-k.invariant.1 wrong inside) inside

pub loop-k-preserved : goal.loop-k-preserved
loop-k-preserved c =
    let image = c.args.image.now in
    let k = c.loop-k.k in
    let inside : k < record_count image = omega (arith, c.record_count-count.ensures) in
    let here = read image k c.image_key-here.result c.record_at-in-loop-k.result.now inside c.record_at-in-loop-k.ensures c.image_key-here.ensures in
    let right : order_wrong (records image) k ≡ false = rw (lt-ltb 0 k c.loop-k.auto.k, ← here, ← c.loop-k.invariant.0, lt-leb c.image_key-here.result c.loop-k.before (omega arith)) in
    let same : k + 1 - 1 ≡ k = omega arith in
    (rw same here, lowest_more (order_wrong (records image)) k c.loop-k.invariant.1 right)

pub returns : goal.returns
returns c =
    let image = c.args.image.now in
    let end : c.loop-k.k ≡ record_count image = omega (arith, c.record_count-count.ensures) in
    first_past (order_wrong (records image)) (record_count image) (rw end at c.loop-k.invariant.1)
