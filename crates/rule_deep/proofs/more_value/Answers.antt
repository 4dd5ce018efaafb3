-- `rule_deep::more_value` meets its contract.
use Rattle.rule_deep.proofs.Bits.{value_end, value_first, value_later}
use Rattle.rule_deep.proofs.more_value.Goals as goal

pub returns-then-p-eq-BLANK : goal.returns-then-p-eq-BLANK
returns-then-p-eq-BLANK c ps e = value_end _ ps _ c.if-p-eq-BLANK.true

pub returns-then-p-t : goal.returns-then-p-t
returns-then-p-t c ps e = value_first _ ps _ c.if-p-eq-BLANK.false c.if-p-t.true

pub returns-else-p-t : goal.returns-else-p-t
returns-else-p-t c ps e = value_later _ ps _ _ c.if-p-eq-BLANK.false c.if-p-t.false e
