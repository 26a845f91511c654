-- The loop keeps that what is met so far, and of the records that are left, is what is met of all.
use Rattle.std.proofs.Common.{◌≡◌}
use Rattle.rules.specs.Blocks.{record_count, records}
use Rattle.image.specs.InTurn.{records_left, met_among}
use Rattle.image.proofs.InTurn.{met_from}
use Rattle.image.proofs.reader.met_among.Given as goal

abbrev pub invariant-loop-fields : goal.invariant-loop-fields
invariant-loop-fields l =
    met_from (records l.other) (records_left l.fields-iterator.image.now l.fields-iterator.next l.fields-iterator.count) l.met
    ≡ met_among (records l.image) (records l.other) (record_count l.image)
