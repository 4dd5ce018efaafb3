-- `moves::conflict` meets its contract. Assumes nothing.
use Rattle.calculus.specs.Terms.{filled}
use native.Mathlib.Omega.{arith}
use Rattle.moves.proofs.Laws.{rows_in, conflict_clash}
use Rattle.moves.proofs.conflict.Goals as goal

pub gather-requires : goal.gather-requires
gather-requires c = (omega (arith, c.requires.0.enough), rows_in _ _ _ _ _ c.requires.0 c.requires.2)

pub returns : goal.returns
returns c =
    let at = c.conflict_place-e.ensures in
    conflict_clash _ _ _ _ _ _ _ (filled c.args.ps.now) c.requires.0 (rw at at c.gather.ensures) (rw at at c.insert.ensures)
