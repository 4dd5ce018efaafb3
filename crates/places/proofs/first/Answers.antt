-- `places::first` meets its contract.
use Rattle.places.proofs.Claimed.{first_listed}
use Rattle.places.proofs.first.Goals as goal

pub returns : goal.returns
returns c = search first_listed
