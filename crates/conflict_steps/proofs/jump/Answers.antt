-- `conflict_steps::jump` meets its contract.
use Rattle.std.proofs.Common.{rules}
use Rattle.conflicts.proofs.Laws.{found}
use Rattle.conflict_steps.proofs.Laws.{to_jump}
use Rattle.conflict_steps.proofs.jump.Goals as goal

pub rest_level-m-requires : goal.rest_level-m-requires
rest_level-m-requires c = search found

pub jump_refusal-requires : goal.jump_refusal-requires
jump_refusal-requires c = search (rules, found)

pub jump-requires : goal.jump-requires
jump-requires c = (to_jump _ _ _ _ _ _ c.requires c.in_ok-jump_refusal.ensures.number, search rules)
