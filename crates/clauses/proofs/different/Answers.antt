-- `clauses::different` meets its contract.
use mathlib.Core.Path.{sym, ◌∙◌}
use Rattle.clauses.proofs.Laws.{apart_first}
use Rattle.clauses.proofs.different.Goals as goal

pub returns-then-not-absent_from : goal.returns-then-not-absent_from
returns-then-not-absent_from c =
    let e = apart_first c.loop-left.left.now c.in-len1-up.len_at_least c.if-p.false c.absent_from.ensures in
    sym (c.loop-left.invariant ∙ e ∙ rw c.if-not-absent_from.true)

pub loop-left-preserved : goal.loop-left-preserved
loop-left-preserved c =
    let e = apart_first c.loop-left.left.now c.in-len1-up.len_at_least c.if-p.false c.absent_from.ensures in
    c.loop-left.invariant ∙ e ∙ rw c.if-not-absent_from.false
