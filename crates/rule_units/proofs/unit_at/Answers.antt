-- `rule_units::unit_at` meets its contract.
use mathlib.Core.Path.{sym}
use Rattle.calculus.proofs.Forms.{unit_none}
use mathlib.Core.List.{[], ◌∷◌}
use Rattle.rule_units.proofs.Laws.{others_none}
use Rattle.rule_units.proofs.unit_at.Goals as goal

pub returns : goal.returns
returns c =
    let y = c.args in
    let e = y.e in
    let x = y.x in
    let none = sym (others_none y.w x.s (x.t ∷ [])) in
    let od = c.more_other-od.ensures [] (x.s ∷ x.t ∷ []) none in
    let oc = c.more_other-oc.ensures (e.d ∷ []) (x.r ∷ x.s ∷ x.t ∷ []) od in
    let ob = c.more_other-ob.ensures (e.c ∷ e.d ∷ []) (x.q ∷ x.r ∷ x.s ∷ x.t ∷ []) oc in
    let ud = c.more_unit-ud.ensures [] (x.t ∷ []) none (sym (unit_none y.w y.l.0 _)) in
    let uc = c.more_unit-uc.ensures (e.d ∷ []) (x.s ∷ x.t ∷ []) od ud in
    let ub = c.more_unit-ub.ensures (e.c ∷ e.d ∷ []) (x.r ∷ x.s ∷ x.t ∷ []) oc uc in
    c.more_unit.ensures (e.b ∷ e.c ∷ e.d ∷ []) (x.q ∷ x.r ∷ x.s ∷ x.t ∷ []) ob ub
