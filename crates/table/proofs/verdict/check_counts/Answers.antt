-- Each test is that of the definition.
use Rattle.rules.specs.Blocks.{records}
use Rattle.rules.specs.Refusals.{numbered}
use Rattle.rules.proofs.Refusals.{or_else-refusal, numbered-some}
use native.Mathlib.Omega.{arith}
use Rattle.table.proofs.verdict.check_counts.Goals as goal

pub returns-then-has_too_many : goal.returns-then-has_too_many
returns-then-has_too_many c =
    let form = c.args.form in
    let rs = records c.args.image.now in
    let tallied = c.tally-counts.ensures in
    rw (← c.has_too_many.ensures rs tallied, c.if-has_too_many.true, or_else-refusal (numbered form 7) 1 _ (numbered-some form 7 (omega arith)))

pub returns-then-has_too_many-2 : goal.returns-then-has_too_many-2
returns-then-has_too_many-2 c =
    let form = c.args.form in
    let rs = records c.args.image.now in
    let tallied = c.tally-counts.ensures in
    rw (← c.has_too_many.ensures rs tallied, c.if-has_too_many.false, ← c.has_too_many-2.ensures rs tallied, c.if-has_too_many-2.true, or_else-refusal (numbered form 7) 2 _ (numbered-some form 7 (omega arith)))

pub returns-then-has_too_many-3 : goal.returns-then-has_too_many-3
returns-then-has_too_many-3 c =
    let rs = records c.args.image.now in
    let tallied = c.tally-counts.ensures in
    rw (← c.has_too_many.ensures rs tallied, c.if-has_too_many.false, ← c.has_too_many-2.ensures rs tallied, c.if-has_too_many-2.false, ← c.has_too_many-3.ensures rs tallied, c.if-has_too_many-3.true)

pub returns : goal.returns
returns c =
    let rs = records c.args.image.now in
    let tallied = c.tally-counts.ensures in
    rw (← c.has_too_many.ensures rs tallied, c.if-has_too_many.false, ← c.has_too_many-2.ensures rs tallied, c.if-has_too_many-2.false, ← c.has_too_many-3.ensures rs tallied, c.if-has_too_many-3.false)
