-- Each kind has its ranges.
use native.Mathlib.Omega.{arith}
use Rattle.rules.specs.Records.{range_wrong}
use Rattle.table.proofs.KindsRead.{kind_is, kind_none}
use Rattle.table.proofs.range.is_range_wrong.Goals as goal

pub returns-in_default : goal.returns-in_default
unfolding range_wrong
returns-in_default c =
    let none = kind_none c.byte_at.ensures.0 c.in_default.ensures.1 in
    rw (none 1 (omega arith) (omega arith), none 2 (omega arith) (omega arith), c.is_pair_right.ensures)

pub returns-in-Transaction : goal.returns-in-Transaction
unfolding range_wrong
returns-in-Transaction c =
    rw (kind_is c.byte_at.ensures.0 c.in-Ok.ensures c.in-Transaction.is, c.is_transaction_right.ensures)

pub returns-in-Task : goal.returns-in-Task
unfolding range_wrong
returns-in-Task c =
    rw (kind_is c.byte_at.ensures.0 c.in-Ok.ensures c.in-Task.is, c.is_task_right.ensures)

pub returns-in-Pair : goal.returns-in-Pair
unfolding range_wrong
returns-in-Pair c =
    rw (kind_is c.byte_at.ensures.0 c.in-Ok.ensures c.in-Pair.is, c.is_pair_right-in-Pair.ensures)
