-- `term_search::first_use` meets its contract.
use mathlib.Core.Path.{◌≡◌}
use mathlib.Core.Bool.{true}
use Rattle.calculus.specs.Lists.{below}
use Rattle.term_search.specs.Found.{other_head}
use Rattle.term_search.proofs.first_use.Given as goal

abbrev pub invariant-loop-u : goal.invariant-loop-u
invariant-loop-u l = below l.u (other_head l.terms l.t.0) ≡ true
