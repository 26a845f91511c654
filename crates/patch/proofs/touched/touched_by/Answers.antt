-- The tasks that the record concerns, and those along its paths.
use Rattle.patch.specs.Touched.{concerns_at, along_in}
use Rattle.patch.proofs.Touching.{marks_either}
use Rattle.patch.proofs.touched.touched_by.Goals as goal

pub returns : goal.returns
returns c =
    let r = c.args.related.now in
    rw c.union.ensures
    (marks_either r.tasks (concerns_at r.tasks c.args.fields.now) (along_in r c.args.fields.now) c.concerned.result c.tasks_along.result c.concerned.ensures c.tasks_along.ensures)
