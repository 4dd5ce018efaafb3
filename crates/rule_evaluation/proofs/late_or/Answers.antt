-- `rule_evaluation::late_or` meets its contract.
use mathlib.Core.List.{[]}
use Rattle.rule_evaluation.proofs.Laws.{stated_none}
use Rattle.rule_evaluation.proofs.late_or.Goals as goal

pub returns : goal.returns
returns c =
    let t = c.more_or-t.ensures [] (rw stated_none) in
    c.more_or.ensures _ (c.more_or-s.ensures _ t)
