-- `decisions::share_first_order` meets its contract. No word passed has such a decision in both sets. Assumes nothing.
use Rattle.bitset.specs.Windows.{set_at}
use Rattle.calculus.specs.Trail.{intersection, first_order}
use Rattle.trail.specs.Words.{trail_in}
use Rattle.decisions.proofs.Laws.{Passed}
use Rattle.decisions.proofs.share_first_order.Given as goal

abbrev pub invariant-loop-k : goal.invariant-loop-k
invariant-loop-k l = Passed (trail_in l.w l.terms l.work l.n) (intersection (set_at l.work l.e l.w) (set_at l.work l.f l.w)) l.w l.k (first_order l.sheet l.m.0)
