-- `places::first_unfit` meets its contract.
use Rattle.places.proofs.Search.{AllFound}
use Rattle.places.proofs.first_unfit.Given as goal

abbrev pub invariant-loop-j : goal.invariant-loop-j
invariant-loop-j l = AllFound l.terms l.k l.x l.j
