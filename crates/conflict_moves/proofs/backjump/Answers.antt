-- `conflict_moves::backjump` meets its contract. Assumes nothing.
use mathlib.Core.Path.{ap, ◌∙◌}
use native.Mathlib.Omega.{arith}
use Rattle.calculus.specs.Trail.{top_level}
use Rattle.trail.proofs.Laws.{room_one}
use Rattle.conflict_moves.proofs.Laws.{readied, landed}
use Rattle.conflict_moves.proofs.backjump.Goals as goal

pub push-requires : goal.push-requires
push-requires c =
    let to = c.requires in
    let r = readied to _ _ _ _ c.cut-kept.ensures (rw c.conflict_place-e.ensures at c.copy_without.ensures) in
    (r.laid, to.row, r.off)

pub overflow_add-result : goal.overflow_add-result
overflow_add-result c =
    let to = c.requires in
    let r = readied to _ _ _ _ c.cut-kept.ensures (rw c.conflict_place-e.ensures at c.copy_without.ensures) in
    omega (arith, room_one _ _ _ _ _ r.laid to.row r.off)

pub returns : goal.returns
returns c =
    let to = c.requires in
    let r = readied to _ _ _ _ c.cut-kept.ensures (rw c.conflict_place-e.ensures at c.copy_without.ensures) in
    let top = c.cut-kept.ensures.greatest ∙ ap top_level c.cut-kept.ensures.trail in
    rw c.larger.ensures (landed to _ _ _ _ _ r top c.push.ensures)
