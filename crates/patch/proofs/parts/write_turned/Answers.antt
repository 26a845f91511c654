-- The record is written, and then its byte 31 where it lies.
use mathlib.Core.Path.{ap, ◌∙◌}
use mathlib.Core.List.{List}
use Prim.Native.Nat.{ℕ, ◌+◌}
use lib.ListN.{set}
use Rattle.patch.proofs.Flat.{way_written}
use Rattle.patch.proofs.parts.write_turned.Goals as goal

pub returns : goal.returns
returns c =
    let a = c.args in
    ap (λ (l : List ℕ). set l (a.written + 31) a.way) c.write_record.ensures
    ∙ way_written a.fields.now a.flat.now a.written a.way c.requires.0 c.requires.1
