-- `clauses::absent_from` meets its contract. The rows passed are others than x. Assumes nothing.
use mathlib.Core.Bool.{not}
use lib.Dec.{eqb}
use Rattle.calculus.specs.Lists.{all}
use Rattle.calculus.specs.Terms.{filled}
use Rattle.calculus.proofs.Walks.{Passed}
use Rattle.clauses.proofs.absent_from.Given as goal

abbrev pub invariant-loop-p : goal.invariant-loop-p
invariant-loop-p l = Passed (λ y. not (eqb l.x y)) (all (λ y. not (eqb l.x y)) (filled l.ps)) l.ps l.p-index
