-- The loop keeps that the records passed stand behind the bytes that were written, each with the byte 31 that is asked for.
use Rattle.rules.specs.Blocks.{records}
use Rattle.patch.specs.Parts.{way_number}
use Rattle.reverse.proofs.Growing.{Growing}
use Rattle.reverse.proofs.turned.write_part.Given as goal

abbrev pub invariant-loop-place : goal.invariant-loop-place
invariant-loop-place l = Growing (records l.patch.image.now) (way_number l.way) l.from l.to l.before l.place l.written l.initial.flat l.flat
