-- `levels::level_by` meets its contract. The greatest level so far is that of the members in the words passed. Assumes nothing.
use Rattle.trail.specs.Words.{trail_in}
use Rattle.levels.proofs.Laws.{Levels}
use Rattle.levels.proofs.level_by.Given as goal

abbrev pub invariant-loop-k : goal.invariant-loop-k
invariant-loop-k g l = Levels (trail_in l.w l.terms l.work l.n) g.s l.w l.k l.top.0
