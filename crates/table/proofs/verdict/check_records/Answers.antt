-- Each check that finds a fault answers its refusal, and one that finds none leaves the answer to the next.
use native.Mathlib.Omega.{arith}
use Rattle.rules.specs.Refusals.{numbered, records_verdict}
use Rattle.rules.proofs.Refusals.{or_else-refusal, numbered-some}
use Rattle.table.proofs.Finding.{refuse_at_record, refuse_at_no_record}
use Rattle.table.proofs.verdict.check_records.Goals as goal

pub returns-in-Some : goal.returns-in-Some
unfolding records_verdict
returns-in-Some c =
    let form = c.args.form in
    rw (refuse_at_record c.args.image.now (numbered form 4) _ c.in-Some.ensures, or_else-refusal (numbered form 4) c.in-Some.place _ (numbered-some form 4 (omega arith)))

pub returns-in-Some-first_wrong_order : goal.returns-in-Some-first_wrong_order
unfolding records_verdict
returns-in-Some-first_wrong_order c =
    let form = c.args.form in
    let image = c.args.image.now in
    rw (
      refuse_at_no_record image (numbered form 4) _ c.in_default.ensures,
      refuse_at_record image (numbered form 5) _ c.in-Some-first_wrong_order.ensures,
      or_else-refusal (numbered form 5) c.in-Some-first_wrong_order.place _ (numbered-some form 5 (omega arith)),
    )

pub returns-in-Some-first_wrong_range : goal.returns-in-Some-first_wrong_range
unfolding records_verdict
returns-in-Some-first_wrong_range c =
    let form = c.args.form in
    let image = c.args.image.now in
    rw (
      refuse_at_no_record image (numbered form 4) _ c.in_default.ensures,
      refuse_at_no_record image (numbered form 5) _ c.in_default-first_wrong_order.ensures,
      refuse_at_record image (numbered form 6) _ c.in-Some-first_wrong_range.ensures,
      or_else-refusal (numbered form 6) c.in-Some-first_wrong_range.place _ (numbered-some form 6 (omega arith)),
    )

pub returns : goal.returns
unfolding records_verdict
returns c =
    let form = c.args.form in
    let image = c.args.image.now in
    rw (
      refuse_at_no_record image (numbered form 4) _ c.in_default.ensures,
      refuse_at_no_record image (numbered form 5) _ c.in_default-first_wrong_order.ensures,
      refuse_at_no_record image (numbered form 6) _ c.in_default-first_wrong_range.ensures,
    )
    c.check_counts.ensures
