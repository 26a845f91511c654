-- A table that is not refused is an accepted one.
use mathlib.Core.Path.{refl}
use Rattle.rules.proofs.Through.Figures.{room_table}
use Rattle.room.proofs.figures.report.Goals as goal

pub of-requires : goal.of-requires
of-requires g c = room_table _ _ _ _ _ _ c.in-Ok.ensures.room_left_call refl
