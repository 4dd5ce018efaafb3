-- `rule_deep::said` meets its contract.
use Rattle.rule_deep.proofs.Numbers.{says_none, says_it}
use Rattle.rule_deep.proofs.said.Goals as goal

pub returns-then-last-eq0 : goal.returns-then-last-eq0
returns-then-last-eq0 c = says_none _ _ c.if-last-eq0.true

pub packed-requires : goal.packed-requires
packed-requires c = c.requires c.if-last-eq0.false

pub returns : goal.returns
returns c = says_it _ _ c.if-last-eq0.false c.packed.ensures
