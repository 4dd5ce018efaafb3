-- `conflict_moves::jump` meets its contract. Assumes nothing.
use Rattle.conflict_moves.proofs.Laws.{jump_back}
use Rattle.conflict_moves.proofs.jump.Goals as goal

pub backjump-requires : goal.backjump-requires
backjump-requires c = jump_back _ _ _ _ _ _ c.requires
