-- `trail_sheet::write` meets its contract. The entries passed are written, and what follows is as it was. Assumes nothing.
use Rattle.trail_sheet.proofs.Numbers.{Writing}
use Rattle.trail_sheet.proofs.write.Given as goal

abbrev pub invariant-loop-i : goal.invariant-loop-i
invariant-loop-i l = Writing l.w l.terms l.work l.initial.out l.out l.n l.i
