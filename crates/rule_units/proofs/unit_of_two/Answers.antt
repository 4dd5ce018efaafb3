-- `rule_units::unit_of_two` meets its contract.
use mathlib.Core.List.{[], ◌∷◌}
use Rattle.rule_units.proofs.Laws.{others_blank, unit_blank}
use Rattle.rule_units.proofs.unit_of_two.Goals as goal

pub returns : goal.returns
returns c =
    let y = c.args in
    let e = y.e in
    let two = c.requires in
    let last = others_blank y.w _ (e.d ∷ []) _ _ two in
    let ob = c.more_other-ob.ensures (e.c ∷ e.d ∷ []) _ last in
    let ub = c.more_unit-ub.ensures (e.c ∷ e.d ∷ []) _ last (unit_blank y.w y.l.0 _ (e.d ∷ []) _ two) in
    c.more_unit.ensures (e.b ∷ e.c ∷ e.d ∷ []) _ ob ub
