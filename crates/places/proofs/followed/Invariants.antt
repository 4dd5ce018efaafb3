-- `places::followed` meets its contract.
use Rattle.places.proofs.Search.{NoWay}
use Rattle.places.proofs.followed.Given as goal

abbrev pub invariant-loop-i : goal.invariant-loop-i
invariant-loop-i l = NoWay l.terms l.k l.l.0 l.v l.known l.f l.i
