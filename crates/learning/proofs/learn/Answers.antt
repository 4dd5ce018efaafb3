-- `learning::learn` meets its contract.
use mathlib.Core.Path.{refl}
use Rattle.conflicts.proofs.Laws.{found}
use Rattle.learning.proofs.Laws.{learn_back}
use Rattle.learning.proofs.learn.Goals as goal

pub level_of_rest-rest-requires : goal.level_of_rest-rest-requires
level_of_rest-rest-requires c = found _ _ _ _ _ c.requires.conflicted

pub learn_refusal-requires : goal.learn_refusal-requires
learn_refusal-requires c =
    record {
      found = found _ _ _ _ _ c.requires.conflicted;
      known = c.requires.known;
      four = c.requires.four;
      columns = refl;
      level = c.level_of_rest-rest.ensures;
    }

pub backjump-requires : goal.backjump-requires
backjump-requires c = learn_back _ _ _ _ _ _ _ c.requires c.in_ok-learn_refusal.ensures.number c.level_of_rest-rest.ensures
