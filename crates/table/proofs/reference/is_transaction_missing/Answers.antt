-- Where the transaction has no place among the numbers it is not listed; the record at its place has its period.
use Prim.Native.Nat.{ℕ, ◌<◌}
use mathlib.Core.List.{[]}
use mathlib.Core.Path.{◌≡◌, ap, sym, ◌∙◌}
use native.Mathlib.Omega.{arith}
use Rattle.std.specs.Prelude.{Option, Some, None, unwrap_or, IfSome, is_some}
use lib.ListN.{length, get_or}
use Rattle.rules.specs.Blocks.{records, record_at, record_count}
use Rattle.rules.specs.Records.{second_of, period_of, period_in, transactions, listed, place_of}
use Rattle.rules.proofs.Numbers.{length-up_to}
use Rattle.rules.proofs.Table.Kinds.{length_split}
use Rattle.table.specs.declared.listing.Listing.{Listing}
use Rattle.table.specs.Numbers.{place_among}
use Rattle.table.proofs.Places.{found_listed, place_in, transaction_is, not_below, shape}
use Rattle.table.proofs.reference.is_transaction_missing.Goals as goal

-- what is found of a number among those of the transactions
module _ (t : Listing) (x : ℕ) (found : Option ℕ) (placed : unwrap_or found t.transactions ≡ place_among t.numbers t.transactions x) where
  here : unwrap_or found t.transactions ≡ place_of (transactions (records t.image.now)) x
  here = placed ∙ place_in (transactions (records t.image.now)) t.numbers t.transactions t.transactions_listed x

  is_listed : IfSome found (λ place. place < t.transactions) → listed (transactions (records t.image.now)) x ≡ is_some found
  is_listed inside = sym (found_listed (transactions (records t.image.now)) x t.transactions found here t.transactions_listed.counted inside)

pub record_at-requires : goal.record_at-requires
record_at-requires c =
    let t = c.args.listing.now in
    let s = shape t.image.now t.bytes t.sound in
    omega (arith, t.held, t.transactions_listed.counted, c.in-Some.ensures.inside, length_split (records t.image.now) s.split, length-up_to (record_at t.image.now) (record_count t.image.now))

pub returns-in-Some : goal.returns-in-Some
returns-in-Some c =
    let t = c.args.listing.now in
    let rs = records t.image.now in
    let x = second_of c.args.fields.now in
    let place = c.in-Some.place in
    let found = c.in-Some.ensures.placed ∙ ap (place_among t.numbers t.transactions) c.two_bytes.ensures.0 in
    let inside : place < length (transactions rs) = omega (arith, t.transactions_listed.counted, c.in-Some.ensures.inside) in
    let at : place ≡ place_of (transactions rs) x = here t x (Some place) found in
    let period : c.four_bytes.result ≡ period_in rs x = c.four_bytes.ensures ∙ ap period_of (c.record_at.ensures ∙ transaction_is t.image.now t.bytes t.sound place inside ∙ ap (λ (n : ℕ). get_or (transactions rs) n []) at) in
    rw (is_listed t x (Some place) found c.in-Some.ensures.inside, ← period, ← c.four_bytes-in-Some.ensures) (not_below _ _)

pub returns-in-None : goal.returns-in-None
returns-in-None c =
    let t = c.args.listing.now in
    let x = second_of c.args.fields.now in
    rw (is_listed t x None (c.in-None.ensures.placed ∙ ap (place_among t.numbers t.transactions) c.two_bytes.ensures.0) c.in-None.ensures.inside)
