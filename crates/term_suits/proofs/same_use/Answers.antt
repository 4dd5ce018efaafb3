-- `term_suits::same_use` meets its contract.
use Rattle.calculus.specs.Terms.{same_use, args, cells}
use mathlib.Core.List.{[], ◌∷◌}
use mathlib.Core.Path.{refl}
use Rattle.term_suits.proofs.same_use.Goals as goal

pub returns : goal.returns
unfolding same_use args cells
returns c =
    let e = c.whole_term_at-e.result in
    let g = c.args.g in
    let d = c.more_sort-d.ensures [] [] refl in
    let b = c.more_sort-c.ensures (e.d ∷ []) (g.d ∷ []) d in
    let a = c.more_sort-b.ensures (e.c ∷ e.d ∷ []) (g.c ∷ g.d ∷ []) b in
    rw (c.more_sort-a.ensures (e.b ∷ e.c ∷ e.d ∷ []) (g.b ∷ g.c ∷ g.d ∷ []) a, c.requires.0, c.whole_term_at-e.ensures)
