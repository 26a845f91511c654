-- One case for each way out: an outcome that is no table, too short a map or room, and accepted.
use Prim.Native.Nat.{ℕ}
use mathlib.Core.Bool.{true, false, ◌||◌}
use mathlib.Core.Path.{◌≡◌, sym, ◌∙◌}
use borrow.Author.Tests.{ltb-false}
use lib.Dec.{ltb}
use lib.ListN.{length}
use Rattle.std.proofs.lemmas.Result.{err_from_is_err_and}
use Rattle.rules.proofs.Tests.{neither_first, neither_second}
use Rattle.patch.proofs.Accepted.{table_long}
use Rattle.patch.proofs.Calling.{is_short, change_broken, change_short, change_applied, image-records, image-length}
use Rattle.patch.proofs.call.apply_in.Goals as goal

pub returns-in_default : goal.returns-in_default
returns-in_default c = change_broken c.args.change.now c.args.map.now c.args.room.now c.args.carried.now c.in_default.ensures

pub returns-in_err-outcome : goal.returns-in_err-outcome
returns-in_err-outcome c =
    let p = err_from_is_err_and c.from_residual.result c.from_residual.ensures.1 in
    let e = c.in_err-outcome.ensures.refused in
    rw (p.1, p.2, e.0) (change_broken c.args.change.now c.args.map.now c.args.room.now c.args.carried.now (rw c.in-Some.ensures.1 at e.1))

pub returns-then-is_short : goal.returns-then-is_short
returns-then-is_short c =
    let a = c.args in
    let outcome = c.in_ok-outcome.outcome in
    let made = c.in_ok-outcome.ensures.table.0 ∙ c.in-Some.ensures.1 in
    let short : is_short a.change.now.base.image.now a.change.now.patch.image.now a.map.now a.room.now a.carried.now ≡ true = rw (← image-length a.change.now outcome.image.now made) (sym c.is_short.ensures ∙ c.if-is_short.true) in
    change_short a.change.now a.map.now a.room.now a.carried.now (rw made at outcome.accepted) short

pub carry_map-found-requires : goal.carry_map-found-requires
carry_map-found-requires c =
    let of = c.in_ok-outcome.ensures.table in
    record { of_change = image-records c.args.change.now c.in_ok-outcome.outcome.image.now (of.0 ∙ c.in-Some.ensures.1); before_known = rw of.0 of.1 }

pub write_rooms-requires : goal.write_rooms-requires
write_rooms-requires c =
    let outcome = c.in_ok-outcome.outcome in
    let long : ℕ = length c.args.room.now in
    let enough : (ltb (length c.args.map.now) 64 || (ltb (length c.args.carried.now) 64 || ltb long (length outcome.image.now))) ≡ false = sym c.is_short.ensures ∙ c.if-is_short.false in
    let rooms = neither_second (ltb (length c.args.map.now) 64) _ enough in
    (table_long outcome, ltb-false long (length outcome.image.now) (neither_second (ltb (length c.args.carried.now) 64) _ rooms), ltb-false (length c.args.carried.now) 64 (neither_first (ltb (length c.args.carried.now) 64) _ rooms))

pub returns : goal.returns
returns c =
    let a = c.args in
    let outcome = c.in_ok-outcome.outcome in
    let made = c.in_ok-outcome.ensures.table.0 ∙ c.in-Some.ensures.1 in
    let long = image-length a.change.now outcome.image.now made in
    let enough : is_short a.change.now.base.image.now a.change.now.patch.image.now a.map.now a.room.now a.carried.now ≡ false = rw (← long) (sym c.is_short.ensures ∙ c.if-is_short.false) in
    let call = change_applied a.change.now outcome.image.now made a.map.now a.room.now a.carried.now outcome.accepted enough in
    let found = c.carry_map-found.ensures in
    let written = c.write_rooms.ensures in
    rw (written.told.0, written.told.1, written.image_written, written.map_written, found.touched, found.map) call
