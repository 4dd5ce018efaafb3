-- `conflict_steps::flip` meets its contract.
use Rattle.std.proofs.Common.{rules}
use Rattle.conflicts.proofs.Laws.{found}
use Rattle.conflict_steps.proofs.Laws.{to_flip, flip_small}
use Rattle.conflict_steps.proofs.flip.Goals as goal

pub conflict_level-m-requires : goal.conflict_level-m-requires
conflict_level-m-requires c = search found

pub flip_refusal-requires : goal.flip_refusal-requires
flip_refusal-requires c = search (rules, found)

pub flip-requires : goal.flip-requires
flip-requires c =
    let e = c.in_ok-flip_refusal.ensures.number in
    (to_flip _ _ _ _ _ _ _ c.requires.0 e, flip_small _ _ _ _ _ _ _ c.requires.0 e, search rules)
