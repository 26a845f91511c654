-- A record that refers to something not listed hides circles.
use Prim.Native.Nat.{ℕ}
use mathlib.Core.List.{[]}
use mathlib.Core.Bool.{Bool}
use mathlib.Core.Path.{◌≡◌}
use native.Mathlib.Omega.{arith}
use lib.ListN.{get_or}
use Rattle.rules.specs.Blocks.{records, record_at, record_count}
use Rattle.rules.specs.Records.{reference_wrong}
use Rattle.rules.specs.Refusals.{fine, reference_refusal}
use Rattle.rules.proofs.Numbers.{length-up_to}
use Rattle.rules.proofs.Table.Kinds.{length_split}
use Rattle.image.proofs.First.{first-lowest}
use Rattle.table.proofs.Finding.{refuse_at_record, refuse_at_no_record}
use Rattle.table.proofs.Places.{shape}
use Rattle.table.proofs.verdict.check_links.Goals as goal

pub overflow_cast-result : goal.overflow_cast-result
overflow_cast-result c =
    let t = c.args.listing.now in
    let rs = records t.image.now in
    let fault : ℕ → Bool = λ k. reference_wrong rs (get_or rs k []) in
    let s = shape t.image.now t.bytes t.sound in
    record { fits = omega (arith, (first-lowest fault (record_count t.image.now) c.in-Some.place c.in-Some.ensures).1, length_split rs s.split, length-up_to (record_at t.image.now) (record_count t.image.now), s.few_transactions, s.few_tasks, s.few_pairs) }

pub returns-in-Some : goal.returns-in-Some
returns-in-Some c =
    let told = refuse_at_record c.args.listing.now.image.now 8 _ c.in-Some.ensures in
    record { verdict = rw told; before = rw told }

pub check_circles-requires : goal.check_circles-requires
check_circles-requires c =
    let none : reference_refusal (records c.args.listing.now.image.now) ≡ fine = refuse_at_no_record c.args.listing.now.image.now 8 _ c.in_default.ensures in
    record { referring = rw none; blank = c.requires.blank }

pub returns : goal.returns
returns c =
    rw (refuse_at_no_record c.args.listing.now.image.now 8 _ c.in_default.ensures) c.check_circles.ensures
