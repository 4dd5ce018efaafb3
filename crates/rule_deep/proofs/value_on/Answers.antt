-- `rule_deep::value_on` meets its contract.
use Rattle.rule_deep.proofs.Bits.{value_nil}
use Rattle.rule_deep.proofs.value_on.Goals as goal

pub returns : goal.returns
returns c =
    c.more_value.ensures _ (c.more_value-b.ensures _ (c.more_value-c.ensures _ (c.more_value-d.ensures _ (
    c.more_value-e.ensures _ (value_nil _)))))
