-- `places::followed` meets its contract.
use Rattle.places.proofs.Search.{followed_yes, followed_no}
use Rattle.places.proofs.followed.Goals as goal

pub returns-then-serves : goal.returns-then-serves
returns-then-serves c = search followed_yes

pub returns : goal.returns
returns c = search followed_no
