-- The checks in their order: the patch, then the room.
use mathlib.Core.Path.{◌∙◌}
use native.Mathlib.Omega.{arith}
use Rattle.std.proofs.lemmas.Result.{err_from_is_err_and}
use Rattle.rules.proofs.Judged.{is_refused}
use Rattle.reverse.proofs.Reversing.{patch_long}
use Rattle.reverse.proofs.Calling.{reverse_refused, reverse_short, reverse_done}
use Rattle.reverse.proofs.call.reverse_patch.Goals as goal

pub returns-in_err-patch : goal.returns-in_err-patch
returns-in_err-patch c =
    let a = c.args in
    let p = err_from_is_err_and c.from_residual.result c.from_residual.ensures.1 in
    let e = c.in_err-patch.field-0.0 in
    let told = c.in_err-patch.ensures.told in
    let call = reverse_refused a.patch.now a.room.now (rw told at (is_refused e)) in
    record { told = rw (p.1, p.2, told) call.0; room_after = call.1 }

pub returns-then-room-patch : goal.returns-then-room-patch
returns-then-room-patch c =
    let a = c.args in
    let patch = c.in_ok-patch.patch in
    let call = reverse_short a.patch.now a.room.now (rw c.in_ok-patch.ensures.of_image at patch.accepted) (rw (← c.in_ok-patch.ensures.of_image) (omega arith)) in
    record { told = call.0; room_after = call.1 }

pub overflow_cast-result : goal.overflow_cast-result
overflow_cast-result c = omega (arith, patch_long c.in_ok-patch.patch)

pub returns : goal.returns
returns c =
    let a = c.args in
    let patch = c.in_ok-patch.patch in
    let of = c.in_ok-patch.ensures.of_image in
    let call = reverse_done a.patch.now a.room.now (rw of at patch.accepted) (rw (← of) (omega arith)) in
    record { told = rw of call.0; room_after = c.write_reverse.ensures ∙ rw of call.1 }
