-- `trail::row_at` meets its contract. Assumes nothing.
use native.Mathlib.Omega.{arith}
use Rattle.trail.proofs.Laws.{row_fits}
use Rattle.trail.proofs.row_at.Goals as goal

pub overflow_add-result-2 : goal.overflow_add-result-2
overflow_add-result-2 c = omega (arith, row_fits _ _ _ _ _ c.requires)

pub offset_bounds-work-terms : goal.offset_bounds-work-terms
offset_bounds-work-terms c = omega (arith, row_fits _ _ _ _ _ c.requires)

pub bounds-work-terms : goal.bounds-work-terms
bounds-work-terms c = (row_fits _ _ _ _ _ c.requires).0

pub overflow_cast-result : goal.overflow_cast-result
overflow_cast-result c = omega (arith, row_fits _ _ _ _ _ c.requires)
