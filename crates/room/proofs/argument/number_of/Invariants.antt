-- What the digits that are left say behind the number is what all of them say.
use Rattle.std.proofs.Common.{◌≡◌, ◌<◌, drop}
use Rattle.room.specs.Digits.{none, said_behind, said}
use Rattle.room.proofs.argument.number_of.Given as goal

abbrev pub invariant-loop-digit : goal.invariant-loop-digit
invariant-loop-digit l = record { is_reserve : l.number < none; said_by_all : said_behind l.number (drop l.digit-index l.digits) ≡ said l.digits }
