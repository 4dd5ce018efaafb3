-- `acceptance::skip` meets its contract. No entry passed has t as an argument. Assumes nothing.
use Prim.Native.Nat.{◌-◌}
use Rattle.acceptance.specs.Added.{Skipped}
use Rattle.acceptance.proofs.skip.Given as goal

abbrev pub invariant-loop-i : goal.invariant-loop-i
invariant-loop-i l = Skipped l.w l.n l.terms l.work l.count l.t.0 l.from l.i

abbrev pub decreases-loop-i : goal.decreases-loop-i
decreases-loop-i l = l.count - l.i
