-- `rule_units::unit` meets its contract.
use Rattle.rule_units.proofs.Laws.{unit_or, unit_and}
use Rattle.rule_claims.proofs.Laws.{stated_four}
use borrow.Author.Tests.{ne_eqb}
use Rattle.rule_units.proofs.unit.Goals as goal

pub returns-then-p-eq-OR : goal.returns-then-p-eq-OR
returns-then-p-eq-OR c =
    let t = c.term_at-p.ensures in
    rw (c.unit_at-f.ensures, c.connected-o.ensures, c.after_first-y.ensures, stated_four, t)
    (unit_or _ _ _ _ _ (rw t at c.if-p-eq-OR.true))

pub returns : goal.returns
returns c =
    let t = c.term_at-p.ensures in
    rw (c.unit_at-t.ensures, c.connected-a.ensures, c.after_first-y.ensures, stated_four, t)
    (unit_and _ _ _ _ _ (ne_eqb _ _ (rw t at c.if-p-eq-OR.false)))
