-- `rule_evaluation::late_and` meets its contract.
use mathlib.Core.List.{[]}
use Rattle.rule_evaluation.proofs.Laws.{stated_none}
use Rattle.rule_evaluation.proofs.late_and.Goals as goal

pub returns : goal.returns
returns c =
    let t = c.more_and-t.ensures [] (rw stated_none) in
    c.more_and.ensures _ (c.more_and-s.ensures _ t)
