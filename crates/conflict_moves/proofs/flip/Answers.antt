-- `conflict_moves::flip` meets its contract. Assumes nothing.
use native.Mathlib.Omega.{arith}
use Rattle.conflict_moves.proofs.Laws.{gone_after, top_after}
use Rattle.conflict_moves.proofs.flip.Goals as goal

pub decide-requires : goal.decide-requires
decide-requires c =
    let p = c.requires in
    let cut = c.cut-kept.ensures in (
      cut.laid,
      p.0.row,
      gone_after _ _ _ _ _ _ _ _ _ p.0.laid cut (omega (arith, c.lower-m.ensures, p.2, p.0.above)),
      cut.greatest,
      top_after _ _ _ _ _ _ _ _ cut p.1,
    )
