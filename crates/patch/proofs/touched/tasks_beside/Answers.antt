-- An id that is found leads to its row.
use mathlib.Core.Path.{sym}
use Rattle.patch.proofs.Touching.{marks_beside, marks_beside-none}
use Rattle.patch.proofs.touched.tasks_beside.Goals as goal

pub returns-in-Some : goal.returns-in-Some
returns-in-Some c = marks_beside c.args.related.now c.args.id c.in-Some.place c.in-Some.ensures.placed c.in-Some.ensures.inside

pub returns-in-None : goal.returns-in-None
returns-in-None c = marks_beside-none c.args.related.now c.args.id (sym c.in-None.ensures.placed)
