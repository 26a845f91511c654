-- Each call has one step less to answer.
use Rattle.answers.proofs.runs.+answer_steps.Given as goal

abbrev pub decreases-answer_steps : goal.decreases-answer_steps
decreases-answer_steps g l = l.left
