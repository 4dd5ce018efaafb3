-- `trail_changes::cut` meets its contract. The entries passed are kept to the level, and the kinds of the others among them are 0. Assumes nothing.
use Rattle.trail_changes.proofs.Cuts.{Cutting}
use Rattle.trail_changes.proofs.cut.Given as goal

abbrev pub invariant-loop-i : goal.invariant-loop-i
invariant-loop-i l = Cutting l.w l.terms l.initial.work l.work l.n l.m.0 l.j l.i l.top.0
