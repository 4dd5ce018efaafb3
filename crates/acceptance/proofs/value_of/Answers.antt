-- `acceptance::value_of` meets its contract. Assumes nothing.
use Rattle.acceptance.proofs.Laws.{value_other}
use Rattle.acceptance.proofs.value_of.Goals as goal

pub returns : goal.returns
returns c = search value_other
