-- Header, records and zeros are written one after another, each where the one before it ends.
use Rattle.image.proofs.Writes.{body_written, over_all}
use mathlib.Core.Path.{◌∙◌}
use native.Mathlib.Omega.{arith}
use Rattle.std.proofs.Common.{rules}
use Rattle.image.proofs.write.write_body.Goals as goal

pub returns : goal.returns
returns c =
    body_written c.args.header.now c.args.records.now (omega arith) c.requires.few_records
    c.args.block.now c.write_front.new.block c.copy_bytes.new.to c.fill.new.self
    c.requires.one_block c.write_front.ensures (c.copy_bytes.ensures ∙ over_all c.args.records.now _ (search rules)) (c.fill.ensures.after (λ y same. same))
