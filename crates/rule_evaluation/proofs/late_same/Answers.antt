-- `rule_evaluation::late_same` meets its contract.
use mathlib.Core.Path.{sym}
use mathlib.Core.List.{[], ◌∷◌}
use Rattle.rule_evaluation.proofs.Laws.{same_none, same_blank}
use Rattle.rule_evaluation.proofs.late_same.Goals as goal

pub returns-then-x-eq-BLANK : goal.returns-then-x-eq-BLANK
returns-then-x-eq-BLANK c = search same_blank

pub returns : goal.returns
returns c =
    let e = c.args.e in
    c.more_same.ensures _ (e.d ∷ []) (c.more_same-d.ensures _ [] (sym (same_none _ [])))
