-- Rows and order are made from the columns of priorities and thresholds.
use borrow.Author.Rules.{rules}
use Rattle.stack.proofs.call.prepare.Goals as goal

pub returns : goal.returns
returns c = record { related = c.related_rows.ensures; falling = c.by_falling_priority.ensures; order_count = search rules }
