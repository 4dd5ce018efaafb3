-- `rule_connectives::has_arg` meets its contract.
use mathlib.Core.Path.{refl}
use mathlib.Core.List.{[], ◌∷◌}
use Rattle.rule_connectives.proofs.has_arg.Goals as goal

pub returns : goal.returns
returns c =
    let e = c.args.e in
    let d = c.more_has-d.ensures [] refl in
    let k = c.more_has-c.ensures (e.d ∷ []) d in
    let b = c.more_has-b.ensures (e.c ∷ e.d ∷ []) k in
    c.more_has.ensures (e.b ∷ e.c ∷ e.d ∷ []) b
