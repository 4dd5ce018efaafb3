-- `rule_deep::within` meets its contract.
use Rattle.rule_deep.proofs.Numbers.{within_yes, within_no}
use Rattle.rule_deep.proofs.within.Goals as goal

pub returns-then-c-left : goal.returns-then-c-left
returns-then-c-left c = within_yes _ _ c.if-c-left.true

pub returns-else-c-left : goal.returns-else-c-left
returns-else-c-left c = within_no _ _ c.if-c-left.false
