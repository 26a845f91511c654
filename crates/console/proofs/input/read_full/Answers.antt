-- A read puts its bytes behind those that stand there already, and takes them from the input.
use Rattle.std.proofs.Common.{rules, length, ◌-◌, subst}
use Rattle.std.specs.Io.KnownBytes.{Consumes}
use Rattle.std.proofs.KnownBytes.{Consumes-trans}
use Rattle.console.proofs.Filled.{filled}
use Rattle.console.proofs.input.read_full.Goals as goal

pub loop-done-preserved : goal.loop-done-preserved
loop-done-preserved g c =
    let (same, within, taken) = c.loop-done.invariant in
    let at = c.loop-done.done in
    let joined = filled at (length c.loop-done.space - at) c.in_ok-got.got c.loop-done.space c.read_some.new.space within c.in_ok-got.ensures.length_in_bounds.0 in
    (search rules, search rules, subst (Consumes _ _) joined (Consumes-trans _ _ _ _ _ taken c.in_ok-got.ensures.bytes.0))
