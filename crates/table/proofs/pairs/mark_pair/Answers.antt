-- Each of the two ids that the record names is found at its place.
use mathlib.Core.Path.{◌≡◌, ap, ◌∙◌}
use native.Mathlib.Omega.{arith}
use borrow.Author.Tests.{eq-eqb, ne_eqb}
use Rattle.rules.specs.Records.{number_of, second_of, sort_of}
use Rattle.table.specs.Numbers.{place_among}
use Rattle.table.proofs.pairs.mark_pair.Goals as goal

pub returns-then-byte_at-sort : goal.returns-then-byte_at-sort
returns-then-byte_at-sort c = rw (ne_eqb (sort_of c.args.fields.now) c.args.sort (λ e. omega (arith, c.byte_at.ensures.0)))

pub returns : goal.returns
returns c =
    let a = c.args in
    let first_place : c.in-Some.first ≡ place_among a.ids.now a.known (number_of a.fields.now) = c.in-Some.ensures.placed ∙ ap (place_among a.ids.now a.known) c.two_bytes.ensures.0 in
    let second_place : c.in-Some-place_of.second ≡ place_among a.ids.now a.known (second_of a.fields.now) = c.in-Some-place_of.ensures.placed ∙ ap (place_among a.ids.now a.known) c.two_bytes-2.ensures.0 in
    rw (eq-eqb (sort_of a.fields.now) a.sort (omega (arith, c.byte_at.ensures.0)), ← first_place, ← second_place) c.set_cell.ensures
