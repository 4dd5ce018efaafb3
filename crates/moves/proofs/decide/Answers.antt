-- `moves::decide` meets its contract. Assumes nothing.
use mathlib.Core.Path.{refl}
use native.Mathlib.Omega.{arith}
use Rattle.trail.proofs.Laws.{room_one}
use Rattle.moves.proofs.Laws.{decided_stands}
use Rattle.moves.proofs.decide.Goals as goal

pub overflow_add-result : goal.overflow_add-result
overflow_add-result c =
    let p = c.requires in
    omega (arith, room_one _ _ _ _ _ p.0 p.1 p.2)

pub returns : goal.returns
returns c = decided_stands _ _ _ _ _ _ _ _ _ refl c.requires.3 c.push.ensures
