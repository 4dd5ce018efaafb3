-- `acceptance::misfits` meets its contract. Assumes nothing.
use Rattle.acceptance.proofs.Laws.{misfits_told}
use Rattle.acceptance.proofs.misfits.Goals as goal

pub returns : goal.returns
returns c = search misfits_told
