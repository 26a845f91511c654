use Prim.Native.Nat.{ℕ, ◌+◌, ◌*◌, ◌/◌, ◌<◌, min}
use mathlib.Core.List.{List}
use mathlib.Core.Path.{◌≡◌, refl, ◌∙◌}
use lib.ListN.{length, take, drop}
use Rattle.rules.specs.Numbers.{up_to}
use Rattle.rules.specs.Blocks.{joined, block_of}
use Rattle.rules.specs.Calls.{over, cut, blocks_of}
use Rattle.rules.proofs.Numbers.{length-up_to}
use Rattle.image.proofs.Writes.{block_cut, blocks_more}
use native.Mathlib.Omega.{arith}
use Rattle.image.proofs.write.write_blocks.Goals as goal

-- no block is written yet
none : (block : ℕ → List ℕ) (room : List ℕ) → room ≡ over (joined (up_to block 0)) room
unfolding up_to
none block room = refl

pub loop-b-init : goal.loop-b-init
loop-b-init c = (omega arith, none (block_of c.args.form (cut c.args.records.now)) c.args.room.now, refl)

pub loop-b-preserved : goal.loop-b-preserved
loop-b-preserved c =
    let loop = c.loop-b in
    let written = c.write_block in
    let form = c.args.form in
    let flat = c.args.records.now in
    let inside : loop.b < blocks_of flat = omega arith in
    let last : c.min-to.result ≡ min (480 * loop.b + 480) (length flat) = omega (arith, c.min-to.ensures) in
    let block : written.new.block ≡ block_of form (cut flat) loop.b = written.ensures ∙ rw (c.header-front.ensures, last, c.requires.all_blocks) (block_cut form flat loop.b c.requires.whole_records inside) in
    (omega arith, rw (block, loop.invariant.1) (blocks_more form flat c.args.room.now loop.b), omega arith)

pub returns : goal.returns
returns c =
    let form = c.args.form in
    let flat = c.args.records.now in
    let end : c.loop-b.b ≡ blocks_of flat = omega arith in
    c.loop-b.invariant.1 ∙ rw (end, length-up_to (λ k. take 32 (drop (32 * k) flat)) (length flat / 32))
