use Prim.Native.Nat.{ℕ, ◌+◌, ◌-◌, ◌/◌, ◌≤◌, ◌<◌}
use mathlib.Core.Path.{◌≡◌, ap, sym, ◌∙◌}
use mathlib.Core.List.{List, []}
use mathlib.Core.Bool.{true}
use native.Mathlib.Omega.{arith}
use borrow.Author.Count.{below_more}
use lib.ListN.{get_or}
use Rattle.rules.specs.Blocks.{records, record_at, record_count}
use Rattle.rules.specs.Records.{kind_of}
use Rattle.rules.specs.Refusals.{accepted, records_verdict}
use Rattle.rules.specs.declared.Form.TheVariants.{Table}
use Rattle.rules.proofs.Table.Kinds.{Known}
use Rattle.rules.proofs.Table.Shape.{faultless_of, faultless_known}
use Rattle.rules.proofs.Numbers.{length-up_to, get_or-up_to}
use Rattle.table.proofs.Counts.{kinds_grouped}
use Rattle.table.proofs.count.kind_start.Invariants.{kind_at}
use Rattle.table.proofs.count.kind_start.Goals as goal

-- what is known of kinds
known : (image : List ℕ) → accepted (records_verdict Table (records image)) ≡ true → Known (records image)
known image right = faultless_known (records image) (faultless_of Table (records image) right)

-- the byte that is read is the kind of the record
read : (image : List ℕ) (k byte : ℕ) (fields : List ℕ) → k < record_count image → fields ≡ record_at image k → byte ≡ get_or fields 0 0 → byte ≡ kind_at image k
read image k byte fields h e b = b ∙ ap kind_of (e ∙ sym (get_or-up_to (record_at image) (record_count image) k [] h))

pub returns-then-kind-le1 : goal.returns-then-kind-le1
returns-then-kind-le1 c =
    let kinds = known c.args.image.now c.requires.sound in
    record { inside = omega arith; before = λ k h. absurd (omega arith); there = λ h. omega (arith, c.if-kind-le1.true, (kinds 0 h).0) }

pub returns-then-kind-gt3 : goal.returns-then-kind-gt3
returns-then-kind-gt3 c =
    let image = c.args.image.now in
    let kinds = known image c.requires.sound in
    let many = length-up_to (record_at image) (record_count image) in
    record {
      inside = omega (arith, c.record_count-count.ensures);
      before = λ k h. omega (arith, c.if-kind-gt3.true, (kinds k (omega (arith, c.record_count-count.ensures))).1);
      there = λ h. absurd (omega (arith, c.record_count-count.ensures));
    }

pub loop-low-init : goal.loop-low-init
loop-low-init c = (omega arith, omega (arith, c.record_count-count.ensures), λ k h. absurd (omega arith), λ h. absurd (omega (arith, c.record_count-count.ensures)))

pub loop-low-preserved-then-byte_at-kind : goal.loop-low-preserved-then-byte_at-kind
loop-low-preserved-then-byte_at-kind c =
    let image = c.args.image.now in
    let s = c.loop-low in
    let middle = s.low + (s.high - s.low) / 2 in
    let inside : middle < record_count image = omega (arith, s.invariant.1, c.loop-low-test.true) in
    let here = read image middle c.byte_at.result c.record_at.result.now inside c.record_at.ensures c.byte_at.ensures.0 in
    let lower : kind_at image middle < c.args.kind = omega (arith, here, c.if-byte_at-kind.true) in
    let grouped = kinds_grouped image (λ k. (c.type_inv.image k).fits) c.requires.sound in
    let many = length-up_to (record_at image) (record_count image) in
    (omega (arith, c.loop-low-test.true), s.invariant.1, below_more (λ k. kind_at image k < c.args.kind) middle (λ k h. omega (arith, grouped k middle h (omega arith))) lower, s.invariant.3)

pub loop-low-preserved : goal.loop-low-preserved
loop-low-preserved c =
    let image = c.args.image.now in
    let s = c.loop-low in
    let middle = s.low + (s.high - s.low) / 2 in
    let inside : middle < record_count image = omega (arith, s.invariant.1, c.loop-low-test.true) in
    let here = read image middle c.byte_at.result c.record_at.result.now inside c.record_at.ensures c.byte_at.ensures.0 in
    (omega (arith, c.loop-low-test.true), omega (arith, c.loop-low-test.true, s.invariant.1), s.invariant.2, λ h. omega (arith, here, c.if-byte_at-kind.false))

pub returns : goal.returns
returns c =
    let image = c.args.image.now in
    let s = c.loop-low in
    let same : s.high ≡ s.low = omega arith in
    let many = length-up_to (record_at image) (record_count image) in
    let there : s.low < record_count image → c.args.kind ≤ kind_at image s.low = rw same at s.invariant.3 in
    record { inside = omega arith; before = s.invariant.2; there = λ h. there (omega arith) }
