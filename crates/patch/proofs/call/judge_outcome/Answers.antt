-- A table that is accepted is answered with what comes before what in it.
use Rattle.patch.proofs.Calling.{judged_table}
use Rattle.patch.proofs.call.judge_outcome.Goals as goal

pub returns-in-Ok-clause-table : goal.returns-in-Ok-clause-table
returns-in-Ok-clause-table c = (c.in-Ok.ensures.of_image, judged_table _ _ _ c.in-Ok.ensures.judges)
