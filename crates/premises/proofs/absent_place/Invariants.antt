-- `premises::absent_place` meets its contract: the columns passed are blank or stand on the trail.
use Rattle.trail.specs.Words.{trail_in}
use Rattle.premises.proofs.Laws.{Present}
use Rattle.premises.proofs.absent_place.Given as goal

abbrev pub invariant-loop-k : goal.invariant-loop-k
invariant-loop-k l = Present (trail_in l.w l.n l.work l.count) 5 l.p-items l.k
