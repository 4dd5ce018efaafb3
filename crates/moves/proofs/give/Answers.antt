-- `moves::give` meets its contract. Assumes nothing.
use Rattle.trail.proofs.Frames.{built}
use Rattle.moves.proofs.Laws.{given_stands}
use Rattle.moves.proofs.give.Goals as goal

pub push-requires : goal.push-requires
push-requires c =
    let p = c.requires in
    let a = built _ _ _ _ _ _ p.0 p.1 p.2 c.clear.ensures.only in
    (a.laid, p.1, rw a.trail p.2)

pub returns : goal.returns
returns c =
    let p = c.requires in
    let a = built _ _ _ _ _ _ p.0 p.1 p.2 c.clear.ensures.only in
    given_stands _ _ _ _ _ _ _ _ a.trail p.3 c.clear.ensures.set c.push.ensures
