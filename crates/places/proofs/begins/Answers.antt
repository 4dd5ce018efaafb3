-- `places::begins` meets its contract.
use Rattle.places.proofs.Beginning.{begins_trans, begins_pred}
use Rattle.places.proofs.begins.Goals as goal

pub returns-in-Transitivity : goal.returns-in-Transitivity
returns-in-Transitivity c = search begins_trans

pub returns-in-Predicate : goal.returns-in-Predicate
returns-in-Predicate c = search begins_pred
