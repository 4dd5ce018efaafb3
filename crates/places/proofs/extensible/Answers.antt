-- `places::extensible` meets its contract.
use Rattle.places.proofs.Search.{extensible_known, extensible_yes, extensible_no}
use Rattle.places.proofs.extensible.Goals as goal

pub returns-then-known-ne0 : goal.returns-then-known-ne0
returns-then-known-ne0 c = search extensible_known

pub returns-then-begun : goal.returns-then-begun
returns-then-begun c = search extensible_yes

pub returns : goal.returns
returns c = search extensible_no
