-- `rule_evaluation::same_rows` meets its contract.
use mathlib.Core.List.{[], ◌∷◌}
use Rattle.rule_evaluation.proofs.same_rows.Goals as goal

pub returns : goal.returns
returns c =
    let e = c.args.e in
    let b = c.more_same-b.ensures _ (e.c ∷ e.d ∷ []) c.late_same-c.ensures in
    c.more_same.ensures _ (e.b ∷ e.c ∷ e.d ∷ []) b
