-- Laws of blocks: what a right length gives.
use Prim.Native.Nat.{ℕ, ◌*◌, ◌%◌, ◌≤◌, ◌<◌}
use mathlib.Core.List.{List}
use mathlib.Core.Bool.{false, not}
use mathlib.Core.Path.{◌≡◌}
use native.Mathlib.Omega.{arith}
use borrow.Author.Tests.{ltb-false, eqb-false}
use lib.ListN.{length}
use lib.Dec.{eqb}
use Rattle.rules.specs.declared.Form.{Form}
use Rattle.rules.specs.declared.Form.TheVariants.{Table, Patch}
use Rattle.rules.proofs.Tests.{neither_first, neither_second, same_numbers}
use Rattle.rules.specs.Blocks.{most_blocks, block_count, length_wrong}

-- no image has more blocks than a patch may
pub most_blocks_most : (form : Form) → most_blocks form ≤ 45
most_blocks_most Table = omega arith
most_blocks_most Patch = omega arith

pub record LengthRight (form : Form) (image : List ℕ) : Type 0 where
  pub some_block : 0 < block_count image
  pub whole : length image ≡ 512 * block_count image
  pub few : block_count image ≤ most_blocks form
  pub few_at_all : block_count image ≤ 45

pub length_right : (form : Form) (image : List ℕ) → length_wrong form image ≡ false → LengthRight form image
length_right form image e =
    let rest = neither_second (eqb (length image) 0) _ e in
    let some = eqb-false (length image) 0 (neither_first (eqb (length image) 0) _ e) in
    let whole = same_numbers (length image % 512) 0 (neither_first _ _ rest) in
    let few = ltb-false (most_blocks form) (block_count image) (neither_second (not (eqb (length image % 512) 0)) _ rest) in
    record {
      some_block = omega arith;
      whole = omega arith;
      few = few;
      few_at_all = omega (arith, most_blocks_most form);
    }
