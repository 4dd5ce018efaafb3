-- `rule_deep::unpacked` meets its contract.
use Rattle.rule_deep.proofs.Numbers.{unpacked_is}
use Rattle.rule_deep.proofs.unpacked.Goals as goal

pub returns : goal.returns
returns c = unpacked_is _
