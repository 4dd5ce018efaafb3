-- `term_search::first_repeat` meets its contract.
use mathlib.Core.Path.{◌≡◌}
use mathlib.Core.Bool.{true, cond}
use Prim.Native.Nat.{suc, ◌-◌, ◌≤◌}
use lib.Dec.{ltb}
use Rattle.calculus.specs.Lists.{below}
use Rattle.calculus.specs.Terms.{fresh}
use Rattle.term_search.specs.Found.{Chained, mix, agree}
use Rattle.term_search.proofs.Laws.{Passed}
use Rattle.term_search.proofs.first_repeat.Given as goal

abbrev pub invariant-loop-k : goal.invariant-loop-k
invariant-loop-k l = (l.u ≡ l.initial.u) × (below l.k (agree l.terms l.t l.u) ≡ true)

abbrev pub invariant-pairs : goal.invariant-pairs
invariant-pairs l = Passed l.terms l.t l.u

abbrev pub decreases-pairs : goal.decreases-pairs
decreases-pairs l = cond (ltb l.u l.t) (suc l.u) 0

abbrev pub invariant-rows : goal.invariant-rows
invariant-rows l = (l.t ≤ l.n) × (below l.t (fresh l.terms) ≡ true) × Chained (mix l.terms) l.t l.lasts l.backs

abbrev pub decreases-rows : goal.decreases-rows
decreases-rows l = l.n - l.t
