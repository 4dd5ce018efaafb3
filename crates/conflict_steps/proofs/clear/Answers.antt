-- `conflict_steps::clear` meets its contract.
use Rattle.std.proofs.Common.{rules}
use Rattle.conflicts.proofs.Laws.{found}
use Rattle.conflict_steps.proofs.Laws.{to_clear}
use Rattle.conflict_steps.proofs.clear.Goals as goal

pub clear_refusal-requires : goal.clear_refusal-requires
clear_refusal-requires c = search (rules, found)

pub clear-requires : goal.clear-requires
clear-requires c = to_clear _ _ _ _ _ _ c.requires c.in_ok-clear_refusal.ensures.number
