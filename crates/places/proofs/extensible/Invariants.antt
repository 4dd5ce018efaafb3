-- `places::extensible` meets its contract.
use Rattle.places.proofs.Search.{NoRow}
use Rattle.places.proofs.extensible.Given as goal

abbrev pub invariant-loop-r : goal.invariant-loop-r
invariant-loop-r l = NoRow l.terms l.k l.l.0 l.v l.r
