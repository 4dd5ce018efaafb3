-- `places::begun` meets its contract.
use Rattle.places.proofs.Beginning.{begun_follows}
use Rattle.places.proofs.begun.Goals as goal

pub returns : goal.returns
returns c = search begun_follows
