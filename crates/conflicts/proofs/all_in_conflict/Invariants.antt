-- `conflicts::all_in_conflict` meets its contract. The rows passed are in the conflict, and those that are left are rows. Assumes nothing.
use mathlib.Core.Bool.{true}
use lib.Dec.{ltb}
use Rattle.calculus.specs.Lists.{all}
use Rattle.calculus.specs.Terms.{filled}
use Rattle.calculus.proofs.Walks.{Passed}
use Rattle.moves.specs.Post.{conflict_in}
use Rattle.conflicts.proofs.all_in_conflict.Given as goal

abbrev pub invariant-loop-p : goal.invariant-loop-p
invariant-loop-p l = Passed (conflict_in l.w l.n l.work) (all (conflict_in l.w l.n l.work) (filled l.ps)) l.ps l.p-index × Passed (λ p. ltb p l.n) true l.ps l.p-index
