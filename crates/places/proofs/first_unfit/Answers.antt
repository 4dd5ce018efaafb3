-- `places::first_unfit` meets its contract.
use Rattle.places.proofs.Search.{all_found_yet, all_found_more, unfit_found, unfit_none}
use Rattle.places.proofs.first_unfit.Goals as goal

pub loop-j-init : goal.loop-j-init
loop-j-init c = search all_found_yet

pub returns-then-not-findable : goal.returns-then-not-findable
returns-then-not-findable c = search unfit_found

pub loop-j-preserved : goal.loop-j-preserved
loop-j-preserved c = search all_found_more

pub returns : goal.returns
returns c = search unfit_none
