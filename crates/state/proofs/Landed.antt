-- Answers of allowed steps: the state that the words hold.
use mathlib.Core.Path.{◌≡◌, sym, ap, ◌∙◌}
use mathlib.Core.Bool.{true, false}
use mathlib.Core.List.{List}
use Prim.Native.Nat.{ℕ}
use Rattle.calculus.specs.Sheets.{term_rows}
use Rattle.calculus.specs.Trail.{Set, Trail, top_level}
use Rattle.calculus.specs.Steps as calculus
use Rattle.moves.specs.Post.{Stands, Conflicts}
use Rattle.state.specs.declared.Status.{Status}
use Rattle.std.specs.Prelude.{Ok}
use Rattle.state.specs.declared.Next.TheVariants.{On}
use Rattle.state.specs.States.{Answers}
use Rattle.state.proofs.States.{in_search, in_conflict_lem}

-- a search state in the words answers with it
pub landed : (w n : ℕ) (ts ws vs : List ℕ) (at : ℕ → ℕ) (st : Status) {tr : Trail} {a : calculus.Answer} → st.conflict ≡ false → n ≡ term_rows ts
    → Stands w n vs st.count st.top.0 tr → a ≡ calculus.allowed (calculus.searching tr)
    → Answers w n ts ws vs at a (Ok (On st))
unfolding Answers
landed w n ts ws vs at st e r s q = (
  q ∙ ap (λ t. calculus.allowed (calculus.searching t)) (sym s.trail) ∙ ap calculus.allowed (sym (in_search w n vs st e)),
  record { rows = r; laid = s.laid; top = s.greatest ∙ ap top_level (sym s.trail) },
)

-- and so does a conflict
pub opened : (w n : ℕ) (ts ws vs : List ℕ) (at : ℕ → ℕ) (st : Status) {tr : Trail} {E : Set} {a : calculus.Answer} → st.conflict ≡ true → n ≡ term_rows ts
    → st.top.0 ≡ top_level tr → Conflicts w n vs st.count tr E → a ≡ calculus.allowed (calculus.conflict tr E)
    → Answers w n ts ws vs at a (Ok (On st))
unfolding Answers
opened w n ts ws vs at st {tr} {E} e r l s q = (
  q ∙ (λ i. calculus.allowed (calculus.conflict (sym s.trail i) (sym s.conflict i))) ∙ ap calculus.allowed (sym (in_conflict_lem w n vs st e)),
  record { rows = r; laid = s.laid; top = l ∙ ap top_level (sym s.trail) },
)
