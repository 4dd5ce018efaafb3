-- `needs::arguments` meets its contract.
use Rattle.needs.proofs.Listed.{arguments_listed}
use Rattle.needs.proofs.arguments.Goals as goal

pub returns : goal.returns
returns c = search arguments_listed
