use mathlib.Core.Path.{sym, ◌∙◌}
use native.Mathlib.Omega.{arith}
use Rattle.rules.specs.Preempt.{cell}
use Rattle.sets.proofs.Paths.{leading_none, leading_more, leading_all, through_none, empty_row}
use Rattle.sets.proofs.closing.lead_over.Goals as goal
use Rattle.sets.proofs.closing.lead_over.Goals.{then-is_set, else-is_set}

pub returns-then-further-eq0 : goal.returns-then-further-eq0
returns-then-further-eq0 c =
    let a = c.args in
    let given = c.requires in
    given.map ∙ sym (through_none a.count (cell a.rows.now) a.k (λ j l. empty_row a.rows.now a.k c.if-further-eq0.true j))

pub loop-i-init : goal.loop-i-init
loop-i-init c = leading_none c.requires.map

pub loop-i-preserved : goal.loop-i-preserved
loop-i-preserved c =
    let s = c.loop-i in
    leading_more s.invariant c.requires.count_bound.0 c.requires.map (omega arith) c.requires.count_bound.1
    (elim c.if-is_set.branch [
      | then-is_set w ↦ rw (← c.is_set.ensures, w.if-is_set.true) (w.rows-is ∙ w.union.ensures)
      | else-is_set w ↦ rw (← c.is_set.ensures, w.if-is_set.false) w.rows-is
    ])

pub returns : goal.returns
returns c = leading_all c.loop-i.invariant (omega arith)
