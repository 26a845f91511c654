-- What with_bit answers is put in.
use Prim.Native.Nat.{ℕ}
use mathlib.Core.Path.{ap}
use lib.ListN.{set}
use Rattle.sets.proofs.rows.set_cell.Goals as goal

pub returns : goal.returns
returns c = ap (λ (row : ℕ). set c.args.rows.now c.args.i row) c.with_bit.ensures
