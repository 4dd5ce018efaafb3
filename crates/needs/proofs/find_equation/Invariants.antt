-- `needs::find_equation` meets its contract.
use Rattle.needs.proofs.Rules.{NoneBefore}
use Rattle.needs.proofs.find_equation.Given as goal

abbrev pub invariant-loop-e : goal.invariant-loop-e
invariant-loop-e l = NoneBefore l.terms l.a.0 l.b.0 l.e
