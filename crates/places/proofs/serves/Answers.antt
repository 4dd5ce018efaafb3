-- `places::serves` meets its contract.
use Rattle.places.proofs.Laid.{serves_fits}
use Rattle.places.proofs.serves.Goals as goal

pub returns : goal.returns
returns c = search serves_fits
