-- `levels::word_level` meets its contract. The greatest level so far is that of the members that are taken off. Assumes nothing.
use Rattle.trail.specs.Words.{trail_in}
use Rattle.levels.proofs.Laws.{Walked}
use Rattle.levels.proofs.word_level.Given as goal

abbrev pub invariant-loop-rest : goal.invariant-loop-rest
invariant-loop-rest l = Walked (trail_in l.w l.terms l.work l.n) l.k l.x l.initial.most.0 l.rest l.most.0

abbrev pub decreases-loop-rest : goal.decreases-loop-rest
decreases-loop-rest l = l.rest
