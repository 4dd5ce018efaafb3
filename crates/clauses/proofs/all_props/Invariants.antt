-- `clauses::all_props` meets its contract. The rows passed are props. Assumes nothing.
use Rattle.calculus.specs.Lists.{all}
use Rattle.calculus.specs.Terms.{prop, filled}
use Rattle.calculus.proofs.Walks.{Passed}
use Rattle.clauses.proofs.all_props.Given as goal

abbrev pub invariant-loop-p : goal.invariant-loop-p
invariant-loop-p l = Passed (prop l.terms) (all (prop l.terms) (filled l.ps)) l.ps l.p-index
