-- `places::all_rows` meets its contract.
use Rattle.places.proofs.Laid.{rows_listed}
use Rattle.places.proofs.all_rows.Goals as goal

pub returns : goal.returns
returns c = search rows_listed
