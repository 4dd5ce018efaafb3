-- The premises that a rule needs: what is still open follows from the term, its value and the first premise.
-- Deep is not searched: it goes wrong at the term, whatever stands to its right. What is said of it here is never asked.
use Rattle.std.specs.Prelude.{Bool, true, false, List, [], ◌∷◌, map, ℕ}
use Rattle.calculus.specs.declared.Premise.{Premise}
use Rattle.calculus.specs.declared.Rule.{Rule}
use Rattle.calculus.specs.declared.Rule.TheVariants.{Same, Differ, Reflexivity, Symmetry, Transitivity, Negated, Part, Unit, Evaluation, Congruence, Predicate, Read, Skip, Deep, Unlisted}
use Rattle.calculus.specs.Lists.{opposite, first_where}
use Rattle.calculus.specs.Sheets.{term_rows}
use Rattle.calculus.specs.Terms.{args, arg}
use Rattle.calculus.specs.Rules.{is_eq, all_but}
use Rattle.calculus.specs.Place.{with}

-- the rules whose first premise the term and its value do not settle
abbrev pub searched : Rule → Bool
searched Same = false
searched Differ = false
searched Reflexivity = false
searched Symmetry = false
searched Transitivity = true
searched Negated = true
searched Part = true
searched Unit = true
searched Evaluation = false
searched Congruence = false
searched Predicate = true
searched Read = false
searched Skip = false
searched Deep = false
searched Unlisted = false

-- in how many ways the premises may follow: unit's by the position of the term, eval's with all arguments false or all true
abbrev pub ways : Rule → ℕ
ways Same = 1
ways Differ = 1
ways Reflexivity = 1
ways Symmetry = 1
ways Transitivity = 1
ways Negated = 1
ways Part = 1
ways Unit = 4
ways Evaluation = 2
ways Congruence = 1
ways Predicate = 1
ways Read = 1
ways Skip = 1
ways Deep = 1
ways Unlisted = 1

module _ (ts : List ℕ) where
  -- the first row that is a = b; past the last row if there is none
  unfoldable pub equation : ℕ → ℕ → ℕ
  equation a b = first_where (term_rows ts) (λ e. is_eq ts e a b)

  -- the true equalities between xs and ys
  abbrev pub equations : List ℕ → List ℕ → List Premise
  equations [] ys = []
  equations (a ∷ xs) [] = []
  equations (a ∷ xs) (b ∷ ys) = with 1 (equation a b) ∷ equations xs ys

  -- the premises from which the rule gives l the value v in the i-th way; f has the row of a first premise that is searched, and tells free values
  unfoldable pub needs : Rule → ℕ → ℕ → Premise → ℕ → List Premise
  needs Same l v f i = with f.value (arg ts l 0) ∷ with f.value (arg ts l 1) ∷ []
  needs Differ l v f i = with f.value (arg ts l 0) ∷ with (opposite f.value) (arg ts l 1) ∷ []
  needs Reflexivity l v f i = []
  needs Symmetry l v f i = with 1 (equation (arg ts l 1) (arg ts l 0)) ∷ []
  needs Transitivity l v f i = with 1 f.row ∷ with 1 (equation (arg ts f.row 1) (arg ts l 1)) ∷ []
  needs Negated l v f i = with (opposite v) f.row ∷ []
  needs Part l v f i = with v f.row ∷ []
  needs Unit l v f i = with v f.row ∷ map (with (opposite v)) (all_but i (args ts f.row))
  needs Evaluation l v f i = map (with i) (args ts l)
  needs Congruence l v f i = equations (args ts (arg ts l 0)) (args ts (arg ts l 1))
  needs Predicate l v f i = with v f.row ∷ equations (args ts f.row) (args ts l)
  needs Read l v f i = []
  needs Skip l v f i = with 0 (equation (arg ts (arg ts (arg ts l 0) 0) 1) (arg ts (arg ts l 0) 1)) ∷ []
  needs Deep l v f i = []
  needs Unlisted l v f i = []
