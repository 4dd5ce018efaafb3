-- `needs::equalities` meets its contract.
use Rattle.needs.proofs.Listed.{equations_listed}
use Rattle.needs.proofs.equalities.Goals as goal

pub returns : goal.returns
returns c = search equations_listed
