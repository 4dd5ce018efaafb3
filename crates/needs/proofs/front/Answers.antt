-- `needs::front` meets its contract.
use Rattle.needs.proofs.Listed.{front_lists}
use Rattle.needs.proofs.front.Goals as goal

pub returns : goal.returns
returns c = search front_lists
