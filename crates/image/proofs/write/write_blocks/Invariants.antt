-- Before each turn the room starts with the first b blocks of the image, and the rest is as it was.
use Prim.Native.Nat.{◌≤◌}
use mathlib.Core.Path.{◌≡◌}
use lib.ListN.{length}
use Rattle.rules.specs.Numbers.{up_to}
use Rattle.rules.specs.Blocks.{joined, block_of}
use Rattle.rules.specs.Calls.{over, cut}
use Rattle.image.proofs.write.write_blocks.Given as goal

abbrev pub invariant-loop-b : goal.invariant-loop-b
invariant-loop-b l =
    (l.b ≤ l.total) × (l.room ≡ over (joined (up_to (block_of l.form (cut l.records)) l.b)) l.initial.room) × (length l.room ≡ length l.initial.room)
