-- The verdict of the checks that need no outcome decides, and the part starts where the record at its place does.
use native.Mathlib.Omega.{arith}
use Rattle.std.proofs.Common.{rules}
use Rattle.rules.specs.Told.{judged}
use Rattle.siodlomil.proofs.Calls.{stands_offends}
use Rattle.siodlomil.proofs.siodlomil_offending.Goals as goal

pub returns-in-Err-Absent : goal.returns-in-Err-Absent
returns-in-Err-Absent c = stands_offends _ _ (judged c.verdict_of_both.result) c.verdict_of_both.ensures.told _ (search rules)

pub returns-in_default : goal.returns-in_default
returns-in_default c = stands_offends _ _ (judged c.verdict_of_both.result) c.verdict_of_both.ensures.told _ (grind arith)

pub returns-in_default-2 : goal.returns-in_default-2
returns-in_default-2 c = stands_offends _ _ (judged c.verdict_of_both.result) c.verdict_of_both.ensures.told _ (search rules)
