-- `rule_deep::connected` meets its contract.
use borrow.Author.Tests.{eq-eqb, ne_eqb}
use Rattle.rule_deep.proofs.connected.Goals as goal

pub returns-then-h-eq-NOT : goal.returns-then-h-eq-NOT
returns-then-h-eq-NOT c = rw (eq-eqb _ _ c.if-h-eq-NOT.true)

pub returns-then-h-eq-AND : goal.returns-then-h-eq-AND
returns-then-h-eq-AND c = rw (ne_eqb _ _ c.if-h-eq-NOT.false, eq-eqb _ _ c.if-h-eq-AND.true)

pub returns-else-h-eq-AND : goal.returns-else-h-eq-AND
returns-else-h-eq-AND c = rw (ne_eqb _ _ c.if-h-eq-NOT.false, ne_eqb _ _ c.if-h-eq-AND.false)
