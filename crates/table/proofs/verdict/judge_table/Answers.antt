-- A refused frame or record list hides what comes after it.
use mathlib.Core.List.{List, []}
use Prim.Native.Nat.{ℕ}
use mathlib.Core.Bool.{true, false}
use mathlib.Core.Path.{◌≡◌}
use Rattle.rules.specs.declared.Form.TheVariants.{Table}
use Rattle.rules.specs.declared.Verdict.{Verdict}
use Rattle.rules.specs.Blocks.{records}
use Rattle.rules.specs.Refusals.{accepted, fine, or_else, frame_verdict, records_verdict, reference_refusal, link_refusal, table_verdict}
use Rattle.rules.proofs.Judged.{is_refused}
use Rattle.table.specs.Judged.{Judges, earlier_verdict}
use Rattle.table.proofs.Counts.{records_few, records_held}
use Rattle.table.proofs.Judging.{handed_on, judges_first}
use Rattle.table.proofs.verdict.judge_table.Goals as goal

module _ (image rows later : List ℕ) (told : Verdict) where
  -- the frame refuses
  by_frame : accepted (frame_verdict Table image) ≡ false → told ≡ frame_verdict Table image → Judges (table_verdict image) (earlier_verdict image) (records image) told rows rows
  unfolding table_verdict
  by_frame =
      let rs = records image in
      judges_first (frame_verdict Table image) (or_else (records_verdict Table rs) (link_refusal rs)) (or_else (records_verdict Table rs) (reference_refusal rs)) rs told rows

  -- it does not, and the records do
  by_records : fine ≡ frame_verdict Table image → accepted (records_verdict Table (records image)) ≡ false → told ≡ records_verdict Table (records image)
      → Judges (table_verdict image) (earlier_verdict image) (records image) told rows rows
  unfolding table_verdict
  by_records framed refuses same =
      let rs = records image in
      rw (← framed) (judges_first (records_verdict Table rs) (link_refusal rs) (reference_refusal rs) rs told rows refuses same)

  -- neither does
  by_links : fine ≡ frame_verdict Table image → fine ≡ records_verdict Table (records image) → Judges (link_refusal (records image)) (reference_refusal (records image)) (records image) told rows later
      → Judges (table_verdict image) (earlier_verdict image) (records image) told rows later
  unfolding table_verdict
  by_links framed formed links = rw (← framed, ← formed) links

pub returns-in_err-frame_verdict-clause-judges : goal.returns-in_err-frame_verdict-clause-judges
returns-in_err-frame_verdict-clause-judges c =
    let e = c.in_err-frame_verdict.field-0.0 in
    by_frame c.args.image.now c.args.before.now [] _ (rw (← c.in_err-frame_verdict.ensures) (is_refused e)) (handed_on c.from_residual.result e c.from_residual.ensures.1 c.in_err-frame_verdict.ensures)

pub check_records-requires : goal.check_records-requires
check_records-requires c =
    let image = c.args.image.now in
    let framed : accepted (frame_verdict Table image) ≡ true = rw (← c.in_ok-frame_verdict.ensures) in
    record { few = records_few Table image framed; held = records_held Table image framed }

pub returns-in_err-check_records-clause-judges : goal.returns-in_err-check_records-clause-judges
returns-in_err-check_records-clause-judges c =
    let e = c.in_err-check_records.field-0.0 in
    by_records c.args.image.now c.args.before.now [] _ c.in_ok-frame_verdict.ensures (rw (← c.in_err-check_records.ensures) (is_refused e))
    (handed_on c.from_residual-in_err-check_records.result e c.from_residual-in_err-check_records.ensures.1 c.in_err-check_records.ensures)

pub list_records-listing-requires : goal.list_records-listing-requires
list_records-listing-requires c =
    record { held = records_held Table c.args.image.now (rw (← c.in_ok-frame_verdict.ensures)); sound = rw (← c.in_ok-check_records.ensures) }

pub returns-in_err-check_links-clause-judges : goal.returns-in_err-check_links-clause-judges
returns-in_err-check_links-clause-judges c =
    let e = c.in_err-check_links.field-0.0 in
    let told = handed_on c.from_residual-in_err-check_links.result e c.from_residual-in_err-check_links.ensures.1 c.in_err-check_links.ensures.verdict in
    by_links c.args.image.now c.args.before.now c.check_links.new.before _ c.in_ok-frame_verdict.ensures c.in_ok-check_records.ensures
    (rw (← c.list_records-listing.ensures) (record { verdict = told; before = c.check_links.ensures.before }))

pub returns-clause-judges : goal.returns-clause-judges
returns-clause-judges c =
    by_links c.args.image.now c.args.before.now c.check_links.new.before _ c.in_ok-frame_verdict.ensures c.in_ok-check_records.ensures
    (rw (← c.list_records-listing.ensures) (record { verdict = c.in_ok-check_links.ensures.verdict; before = c.check_links.ensures.before }))

pub invariant_of-result : goal.invariant_of-result
unfolding table_verdict
invariant_of-result c =
    let listing = c.list_records-listing.result in
    let same = c.list_records-listing.ensures in
    let linked : fine ≡ link_refusal (records c.args.image.now) = rw (← same) c.in_ok-check_links.ensures.verdict in
    record {
      bytes = λ k. (c.type_inv.image k).fits;
      accepted = rw (← c.in_ok-frame_verdict.ensures, ← c.in_ok-check_records.ensures, ← linked);
      transactions_counted = rw (← same) listing.transactions_listed.counted;
      tasks_counted = rw (← same) listing.tasks_listed.counted;
      pairs_counted = rw (← same) listing.pairs_counted;
    }
