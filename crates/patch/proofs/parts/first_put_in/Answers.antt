-- All records before the first that is put in are taken out.
use Prim.Native.Nat.{◌<◌}
use mathlib.Core.Path.{◌≡◌, sym, ap, ◌∙◌}
use mathlib.Core.List.{[]}
use mathlib.Core.Bool.{not}
use native.Mathlib.Omega.{arith}
use borrow.Author.Tests.{ne_eqb, eq-eqb}
use lib.ListN.{get_or}
use Rattle.rules.specs.Numbers.{lowest}
use Rattle.rules.specs.Blocks.{records, record_at, record_count}
use Rattle.rules.specs.Records.{way_of}
use Rattle.rules.proofs.Numbers.{lowest_more, lowest_here, lowest_zero, get_or-up_to}
use Rattle.patch.specs.Parts.{is_put_in}
use Rattle.patch.proofs.parts.first_put_in.Goals as goal

pub loop-place-init : goal.loop-place-init
loop-place-init c = lowest_zero (is_put_in (records c.args.patch.now))

pub returns-then-byte_at-ne0 : goal.returns-then-byte_at-ne0
returns-then-byte_at-ne0 c =
    let patch = c.args.patch.now in
    let k = c.loop-place.place in
    let inside : k < record_count patch = omega (arith, c.record_count-count.ensures) in
    let way : way_of (get_or (records patch) k []) ≡ c.byte_at.result = ap way_of (get_or-up_to (record_at patch) (record_count patch) k [] inside ∙ sym c.record_at.ensures) ∙ sym c.byte_at.ensures.0 in
    sym (lowest_here (is_put_in (records patch)) k (record_count patch) c.loop-place.invariant (ap not (ne_eqb (way_of (get_or (records patch) k [])) 0 (λ e. c.if-byte_at-ne0.true (sym way ∙ e)))) inside)

pub loop-place-preserved : goal.loop-place-preserved
loop-place-preserved c =
    let patch = c.args.patch.now in
    let k = c.loop-place.place in
    let inside : k < record_count patch = omega (arith, c.record_count-count.ensures) in
    let way : way_of (get_or (records patch) k []) ≡ c.byte_at.result = ap way_of (get_or-up_to (record_at patch) (record_count patch) k [] inside ∙ sym c.record_at.ensures) ∙ sym c.byte_at.ensures.0 in
    lowest_more (is_put_in (records patch)) k c.loop-place.invariant (ap not (eq-eqb (way_of (get_or (records patch) k [])) 0 (way ∙ c.if-byte_at-ne0.false)))

pub returns : goal.returns
returns c =
    let patch = c.args.patch.now in
    let end : c.loop-place.place ≡ record_count patch = omega (arith, c.record_count-count.ensures) in
    c.record_count-count.ensures ∙ sym end ∙ sym c.loop-place.invariant ∙ ap (lowest (is_put_in (records patch))) end
