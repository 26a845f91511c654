-- One digit more says with the rest what it said before it, and where it is none, all of them say none.
use Rattle.std.proofs.Common.{sym, ◌∙◌}
use Rattle.room.proofs.Digits.{none_from}
use Rattle.room.proofs.argument.number_of.Goals as goal

pub returns-in_err-number : goal.returns-in_err-number
returns-in_err-number c =
    let l = c.loop-digit in
    rw c.from_residual.ensures (sym (none_from l.number l.digit-index c.args.digits.now c.loop-digit-test.true c.in_err-number.ensures) ∙ l.invariant.said_by_all)
