-- `premises::level` meets its contract: the level so far is that of the columns passed.
use Rattle.trail.specs.Words.{trail_in}
use Rattle.premises.proofs.Laws.{Levelled}
use Rattle.premises.proofs.level.Given as goal

abbrev pub invariant-loop-p : goal.invariant-loop-p
invariant-loop-p l = Levelled (trail_in l.w l.n l.work l.count) l.p-items l.m.0 l.p-index
