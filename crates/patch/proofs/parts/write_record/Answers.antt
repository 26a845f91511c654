-- The record is copied over the part of 32 bytes behind those written.
use mathlib.Core.Path.{ap, ◌∙◌}
use Prim.Native.Nat.{◌+◌, ◌-◌}
use borrow.Rule.Slice.PartMut.{put_mid}
use Rattle.patch.proofs.Flat.{record_written}
use Rattle.patch.proofs.parts.write_record.Goals as goal

pub returns : goal.returns
returns c =
    let a = c.args in
    ap (put_mid a.written (a.written + 32 - a.written) a.flat.now) c.copy_bytes.ensures
    ∙ record_written a.fields.now a.flat.now a.written c.requires.0 c.requires.1
