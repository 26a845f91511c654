-- The two bytes are the low and the high byte of the check, and nothing follows them.
use Rattle.image.proofs.Writes.{check_stored}
use Rattle.image.proofs.write.write_check.Goals as goal

pub returns : goal.returns
returns c =
    check_stored c.args.block.now c.to_le_bytes.result c.check_of-check.result c.requires
    c.check_of-check.ensures.right c.check_of-check.ensures.in_two_bytes c.to_le_bytes.ensures
