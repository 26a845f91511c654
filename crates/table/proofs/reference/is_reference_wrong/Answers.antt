-- Tasks and pairs refer to something, each in its way.
use native.Mathlib.Omega.{arith}
use Rattle.rules.specs.Records.{reference_wrong}
use Rattle.table.proofs.KindsRead.{kind_is, kind_none}
use Rattle.table.proofs.reference.is_reference_wrong.Goals as goal

pub returns-in_default : goal.returns-in_default
unfolding reference_wrong
returns-in_default c =
    let none = kind_none c.byte_at.ensures.0 c.in_default.ensures.1 in
    rw (none 2 (omega arith) (omega arith), none 3 (omega arith) (omega arith))

pub returns-in-Transaction : goal.returns-in-Transaction
unfolding reference_wrong
returns-in-Transaction c =
    rw (kind_is c.byte_at.ensures.0 c.in-Ok.ensures c.in-Transaction.is)

pub returns-in-Task : goal.returns-in-Task
unfolding reference_wrong
returns-in-Task c =
    rw (kind_is c.byte_at.ensures.0 c.in-Ok.ensures c.in-Task.is, c.is_transaction_missing.ensures)

pub returns-then-is_unlisted : goal.returns-then-is_unlisted
unfolding reference_wrong
returns-then-is_unlisted c =
    rw (kind_is c.byte_at.ensures.0 c.in-Ok.ensures c.in-Pair.is, ← c.two_bytes.ensures.0, ← c.is_unlisted.ensures, c.if-is_unlisted.true)

pub returns-else-is_unlisted : goal.returns-else-is_unlisted
unfolding reference_wrong
returns-else-is_unlisted c =
    rw (kind_is c.byte_at.ensures.0 c.in-Ok.ensures c.in-Pair.is, ← c.two_bytes.ensures.0, ← c.is_unlisted.ensures, c.if-is_unlisted.false, ← c.two_bytes-else-is_unlisted.ensures.0, ← c.is_unlisted-else-is_unlisted.ensures)
