-- What the place of number 13 is, where the rule alone does not put it at the term: the first column, from the term on, after which the row
-- cannot be completed.
use Rattle.std.specs.Prelude.{◌≡◌, false, not, List, ℕ, ◌<◌, ◌≤◌, length, T}
use Rattle.calculus.specs.declared.Premise.{Premise}
use Rattle.calculus.specs.declared.Rule.{Rule}
use Rattle.calculus.specs.Rules.{fits}
use Rattle.calculus.specs.Place.{term_column, last_column, at_term, completable, unfit_place}

module _ (ts : List ℕ) (k : Rule) (l v : ℕ) (ps : List Premise) where
  pub record FirstUnfit (c : ℕ) : Type 0 where
    pub low : term_column ≤ c
    pub high : c ≤ last_column
    pub before : (d : ℕ) → term_column ≤ d → d < c → T (completable ts k l v ps d)
    pub none : T (not (completable ts k l v ps c))

-- the claim: wherever the rule does not fit, the place is that column
abbrev pub PlacesAreFirst : Type 0
PlacesAreFirst =
    (ts : List ℕ) (k : Rule) (l v : ℕ) (ps : List Premise) → at_term k ≡ false → length ps ≤ 5 → fits ts k l v ps ≡ false
    → FirstUnfit ts k l v ps (unfit_place ts k l v ps)
