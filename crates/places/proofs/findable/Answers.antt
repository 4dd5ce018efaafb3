-- `places::findable` meets its contract.
use Rattle.places.proofs.Search.{findable_term, findable_blank, findable_open}
use Rattle.places.proofs.findable.Goals as goal

pub returns-then-c-lt4 : goal.returns-then-c-lt4
returns-then-c-lt4 c = search findable_term

pub returns-then-count-m : goal.returns-then-count-m
returns-then-count-m c = search findable_blank

pub returns : goal.returns
returns c = search findable_open
