-- Each way out is one of the three answers of a room call.
use Rattle.std.proofs.Common.{ℕ, get_or, ◌≡◌, ap, ◌∙◌}
use lib.IntN.{sub_ℕ}
use Rattle.rules.specs.Numbers.{up_to}
use Rattle.rules.specs.Calls.{over}
use Rattle.table.specs.declared.accepted.Table.{Table}
use Rattle.through.proofs.Calling.{room_by_table, room_by_short, room_answered}
use Rattle.through.proofs.call.room_left.Goals as goal

pub returns-in_err-table : goal.returns-in_err-table
returns-in_err-table c =
    room_by_table c.args.image.now c.args.map.now c.args.reserve c.args.room.now c.from_residual.result c.in_err-table.field-0.0 c.from_residual.ensures.1 c.in_err-table.ensures.told

pub returns-then-map-lt64 : goal.returns-then-map-lt64
returns-then-map-lt64 c =
    rw c.in_ok-table.ensures.of_image at (room_by_short c.in_ok-table.table c.args.map.now c.args.reserve c.args.room.now c.then-map-lt64.either)

pub returns : goal.returns
returns c =
    let tasks = c.read_tasks.result in
    let rising = c.related_tasks-rising in
    let weights = c.weights_through-weights in
    let same : tasks.table.image.now ≡ c.args.image.now = ap (λ (t : Table). t.image.now) c.read_tasks.ensures.of_table ∙ c.in_ok-table.ensures.of_image in
    let written = ap (λ (n : ℕ). over (up_to (λ i. sub_ℕ c.args.reserve (get_or weights.result i 0)) n) c.args.room.now) rising.ensures.count in
    rw same at
    (room_answered tasks c.args.map.now rising.result.rows rising.ensures.related c.args.reserve c.args.room.now c.write_figures.new.room weights.result c.if-map-lt64.false c.if-room-lt64.false
    (rw (rising.ensures.count, rising.ensures.sizes) at weights.ensures) (c.write_figures.ensures ∙ written))
