-- `premises::all_on` meets its contract: the columns passed stand on the trail.
use Rattle.calculus.specs.Lists.{all}
use Rattle.calculus.specs.Terms.{filled}
use Rattle.calculus.specs.Trail.{on}
use Rattle.calculus.proofs.Walks.{Passed}
use Rattle.trail.specs.Words.{trail_in}
use Rattle.premises.proofs.all_on.Given as goal

abbrev pub invariant-loop-p : goal.invariant-loop-p
invariant-loop-p l = Passed (on (trail_in l.w l.n l.work l.count)) (all (on (trail_in l.w l.n l.work l.count)) (filled l.p-items)) l.p-items l.p-index
