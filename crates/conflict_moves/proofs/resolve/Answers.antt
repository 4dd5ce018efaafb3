-- `conflict_moves::resolve` meets its contract. Assumes nothing.
use Rattle.conflict_moves.proofs.Laws.{resolved}
use Rattle.conflict_moves.proofs.resolve.Goals as goal

pub returns : goal.returns
returns c = resolved _ _ _ _ _ _ _ c.requires (rw c.conflict_place-e.ensures at c.union_into.ensures) (rw c.conflict_place-e.ensures at c.remove.ensures)
