-- `decisions::word_holds` meets its contract. No member that is taken off is such a decision. Assumes nothing.
use Rattle.calculus.specs.Trail.{first_order}
use Rattle.trail.specs.Words.{trail_in}
use Rattle.decisions.proofs.Laws.{Walked}
use Rattle.decisions.proofs.word_holds.Given as goal

abbrev pub invariant-loop-rest : goal.invariant-loop-rest
invariant-loop-rest l = Walked (trail_in l.w l.terms l.work l.n) l.k l.x l.rest (first_order l.sheet l.m.0)

abbrev pub decreases-loop-rest : goal.decreases-loop-rest
decreases-loop-rest l = l.rest
