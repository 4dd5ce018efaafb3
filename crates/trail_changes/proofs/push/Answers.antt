-- `trail_changes::push` meets its contract. Assumes nothing.
use native.Mathlib.Omega.{arith}
use lib.ListN.{length-set}
use Rattle.trail.proofs.Laws.{room_one}
use Rattle.trail_changes.proofs.Pushes.{pushed}
use Rattle.trail_changes.proofs.push.Goals as goal

pub overflow_add-work-8 : goal.overflow_add-work-8
overflow_add-work-8 c = omega (arith, room_one _ _ _ _ _ c.requires.0 c.requires.1 c.requires.2)

pub offset_bounds-work-b-4 : goal.offset_bounds-work-b-4
offset_bounds-work-b-4 c = omega (arith, room_one _ _ _ _ _ c.requires.0 c.requires.1 c.requires.2)

pub bounds-work-b-4 : goal.bounds-work-b-4
bounds-work-b-4 c = simp length-set (omega (arith, room_one _ _ _ _ _ c.requires.0 c.requires.1 c.requires.2))

pub returns : goal.returns
returns c = rw (c.from.ensures, c.from-2.ensures) (pushed _ _ _ _ _ _ _ _ (omega arith) c.requires.0 c.requires.1 c.requires.2)
