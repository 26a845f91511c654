-- The check is that of the 510 bytes which the body is.
use Rattle.image.proofs.Writes.{block_written}
use native.Mathlib.Omega.{arith}
use Rattle.image.proofs.write.write_block.Goals as goal

pub returns : goal.returns
returns c =
    block_written c.args.header.now c.args.records.now (omega arith) c.requires.few_records
    c.args.block.now c.write_body.new.block c.write_check.new.block c.write_body.ensures c.write_check.ensures
