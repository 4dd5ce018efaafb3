-- `trail_changes::base` meets its contract. The base is not among the entries passed. Assumes nothing.
use Rattle.trail_changes.proofs.Bases.{Seeking}
use Rattle.trail_changes.proofs.base.Given as goal

abbrev pub invariant-loop-i : goal.invariant-loop-i
invariant-loop-i l = Seeking l.w l.terms l.work l.n l.m.0 l.i
