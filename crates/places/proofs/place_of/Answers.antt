-- `places::place_of` meets its contract.
use Rattle.places.proofs.Place.{not_at_term, place_deep, place_other}
use Rattle.places.proofs.place_of.Goals as goal

pub first_unfit-requires : goal.first_unfit-requires
first_unfit-requires c = (c.requires, not_at_term c.args.k c.in_default.not-Deep)

pub returns-in-Deep : goal.returns-in-Deep
returns-in-Deep c = search place_deep

pub returns-in_default : goal.returns-in_default
returns-in_default c = place_other _ _ _ _ _ c.in_default.not-Deep c.first_unfit.ensures
