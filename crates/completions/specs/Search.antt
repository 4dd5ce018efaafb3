-- Whether a row can be completed, by a search among the rows of the term sheet, and the place that the search finds.
use Rattle.std.specs.Prelude.{◌≡◌, Bool, false, not, ◌&&◌, ◌||◌, cond, List, [], ◌∷◌, ℕ, ◌+◌, ◌-◌, ◌≤◌, length, take, T, ltb}
use Rattle.calculus.specs.declared.Premise.{Premise}
use Rattle.calculus.specs.declared.Rule.{Rule}
use Rattle.calculus.specs.Lists.{all, somewhere, first_where}
use Rattle.calculus.specs.Sheets.{term_rows}
use Rattle.calculus.specs.Rules.{fits}
use Rattle.calculus.specs.Place.{term_column, value_column, free_values, at_term, with, unfit_place}
use Rattle.completions.specs.Needs.{searched, ways, needs}

-- qs, and in the columns after them what ps has there
abbrev pub over : List Premise → List Premise → List Premise
over [] ps = ps
over (q ∷ qs) [] = q ∷ qs
over (q ∷ qs) (p ∷ ps) = q ∷ over qs ps

-- the premise's value is one that a column can have
abbrev pub small : Premise → Bool
small p = ltb p.value free_values

module _ (ts : List ℕ) where
  -- the premise is a row of the term sheet
  abbrev pub is_row : Premise → Bool
  is_row p = ltb p.row (term_rows ts)

  -- ps are rows, and give l the value v
  abbrev pub serves : Rule → ℕ → ℕ → List Premise → Bool
  serves k l v ps = all is_row ps && fits ts k l v ps

  -- the first premise being f, some way completes qs
  unfoldable pub followed : Rule → ℕ → ℕ → List Premise → Premise → Bool
  followed k l v qs f = somewhere (ways k) (λ i. serves k l v (over qs (needs ts k l v f i)))

  -- how many rows are tried as the first premise where none is known
  abbrev pub tried : Rule → ℕ
  tried k = cond (searched k) (term_rows ts) 1

  -- the known premises can be completed
  unfoldable pub extensible : Rule → ℕ → ℕ → List Premise → Bool
  extensible k l v [] = somewhere (tried k) (λ r. followed k l v [] (with 0 r))
  extensible k l v (q ∷ qs) = followed k l v (q ∷ qs) q

  -- the columns up to c can be completed; after a blank the row stands as it is
  unfoldable pub findable : Rule → ℕ → ℕ → List Premise → ℕ → Bool
  findable k l v ps c =
      cond (ltb c value_column)
      (extensible k l 0 [] || extensible k l 1 [])
      (cond (ltb (length ps) (c - value_column)) (fits ts k l v ps) (extensible k l v (take (c - value_column) ps)))

  -- the first column, from the term on, where this fails
  unfoldable pub found_place : Rule → ℕ → ℕ → List Premise → ℕ
  found_place k l v ps = term_column + first_where 7 (λ j. not (findable k l v ps (term_column + j)))

  -- what the numbers before 13 leave of a row's value and premises
  pub record Legible (v : ℕ) (ps : List Premise) : Type 0 where
    pub rows : T (all is_row ps)
    pub values : T (all small ps)
    pub truth : v ≤ 1

-- the claim: the search finds the place that document 02 means, wherever it is not the term by the rule alone
abbrev pub SearchFindsPlaces : Type 0
SearchFindsPlaces =
    (ts : List ℕ) (k : Rule) (l v : ℕ) (ps : List Premise) → at_term k ≡ false → Legible ts v ps → unfit_place ts k l v ps ≡ found_place ts k l v ps
