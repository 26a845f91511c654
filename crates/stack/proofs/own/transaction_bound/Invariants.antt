-- The loop keeps the bounds of the transactions passed and their sum, which is never above what all tasks weigh.
use Rattle.rules.specs.Blocks.{records}
use Rattle.rules.specs.Records.{transactions as Records·transactions}
use Rattle.stack.specs.Figures.{OwnPaths}
use Rattle.stack.proofs.own.transaction_bound.Given as goal

abbrev pub invariant-loop-t : goal.invariant-loop-t
invariant-loop-t l =
    OwnPaths l.ordered.count l.ordered.rows l.ordered.sizes l.numbers (Records·transactions (records l.table.image.now)) l.t l.total
