-- `moves::propagate` meets its contract. Assumes nothing.
use native.Mathlib.Omega.{arith}
use Rattle.trail.proofs.Laws.{why_in_lem, room_one}
use Rattle.trail.proofs.Frames.{built}
use Rattle.moves.proofs.Laws.{rows_in, justified_stands}
use Rattle.moves.proofs.propagate.Goals as goal

pub gather-requires : goal.gather-requires
gather-requires c = (
  omega (arith, why_in_lem c.args.w _ _ c.requires.1, c.requires.0.enough),
  rows_in _ _ _ _ _ c.requires.0 c.requires.4,
)

pub push-requires : goal.push-requires
push-requires c =
    let p = c.requires in
    let a = built _ _ _ _ _ _ p.0 p.1 p.2 c.gather.ensures.only in
    (a.laid, p.1, rw a.trail p.2)

pub overflow_add-result : goal.overflow_add-result
overflow_add-result c =
    let p = c.requires in
    omega (arith, room_one _ _ _ _ _ p.0 p.1 p.2)

pub returns : goal.returns
returns c =
    let p = c.requires in
    let g = c.gather.ensures in
    let a = built _ _ _ _ _ _ p.0 p.1 p.2 g.only in
    rw c.larger.ensures (justified_stands _ _ _ _ _ _ _ _ _ _ _ a.trail p.3 g.set p.5 c.push.ensures)
