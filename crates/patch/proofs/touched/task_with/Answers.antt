-- The ids rise, so that one that is found stands at its place alone.
use mathlib.Core.Path.{sym}
use Rattle.patch.proofs.Touching.{marks_place, marks_absent}
use Rattle.patch.proofs.touched.task_with.Goals as goal

pub returns-in-Some : goal.returns-in-Some
returns-in-Some c = rw c.power.ensures (marks_place c.args.tasks.now c.args.id c.in-Some.place c.in-Some.ensures.placed c.in-Some.ensures.inside)

pub returns-in-None : goal.returns-in-None
returns-in-None c = marks_absent c.args.tasks.now c.args.id (sym c.in-None.ensures.placed)
