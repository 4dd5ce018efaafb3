-- `acceptance::has_side` meets its contract. Assumes nothing.
use native.Mathlib.Omega.{arith}
use Rattle.calculus.specs.Terms.{cells, arg}
use Rattle.acceptance.proofs.Laws.{row_there}
use Rattle.acceptance.proofs.has_side.Goals as goal

pub bounds-terms-k : goal.bounds-terms-k
bounds-terms-k c = omega (arith, row_there _ _ _ _ _ _ _ c.requires c.row_at-l.ensures)

pub bounds-terms-k-2 : goal.bounds-terms-k-2
bounds-terms-k-2 c = omega (arith, row_there _ _ _ _ _ _ _ c.requires c.row_at-l.ensures)

pub returns : goal.returns
unfolding arg cells
returns c = rw (← c.row_at-l.ensures)
