-- `places::laid_over` meets its contract.
use Rattle.places.proofs.Laid.{over_listed}
use Rattle.places.proofs.laid_over.Goals as goal

pub returns : goal.returns
returns c = search over_listed
