-- `clauses::different` meets its contract. What stands before is named once.
use Rattle.std.proofs.Common.{◌≡◌, length}
use Rattle.calculus.specs.Clauses.{different}
use Rattle.calculus.specs.Terms.{filled}
use Rattle.clauses.proofs.different.Given as goal

abbrev pub invariant-loop-left : goal.invariant-loop-left
invariant-loop-left l = different (filled l.ps) ≡ different (filled l.left)

abbrev pub decreases-loop-left : goal.decreases-loop-left
decreases-loop-left l = length l.left
