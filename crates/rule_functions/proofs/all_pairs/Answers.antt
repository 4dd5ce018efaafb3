-- `rule_functions::all_pairs` meets its contract.
use mathlib.Core.Path.{sym}
use mathlib.Core.List.{[], ◌∷◌}
use Rattle.rule_functions.proofs.Laws.{pairs_none}
use Rattle.rule_functions.proofs.all_pairs.Goals as goal

pub returns : goal.returns
returns c =
    let y = c.args in
    let f = y.f in
    let g = y.g in
    let x = y.x in
    let d = c.more_pair-d.ensures [] [] (x.t ∷ []) (sym (pairs_none y.terms.now x.t [])) in
    let k = c.more_pair-c.ensures (f.d ∷ []) (g.d ∷ []) (x.s ∷ x.t ∷ []) d in
    let b = c.more_pair-b.ensures (f.c ∷ f.d ∷ []) (g.c ∷ g.d ∷ []) (x.r ∷ x.s ∷ x.t ∷ []) k in
    c.more_pair.ensures (f.b ∷ f.c ∷ f.d ∷ []) (g.b ∷ g.c ∷ g.d ∷ []) (x.q ∷ x.r ∷ x.s ∷ x.t ∷ []) b
