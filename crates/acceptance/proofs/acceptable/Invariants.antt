-- `acceptance::acceptable` meets its contract. No entry passed opposes the decision. Assumes nothing.
use Prim.Native.Nat.{◌-◌}
use Rattle.calculus.specs.Steps.{opposes}
use Rattle.acceptance.specs.Added.{added}
use Rattle.acceptance.proofs.Laws.{Passed}
use Rattle.acceptance.proofs.acceptable.Given as goal

abbrev pub invariant-loop-i : goal.invariant-loop-i
invariant-loop-i l = Passed l.w l.n l.work l.count l.i (opposes l.terms (added l.w l.n l.work l.count l.t.0 l.v) l.t.0)

abbrev pub decreases-loop-i : goal.decreases-loop-i
decreases-loop-i l = l.count - l.i
