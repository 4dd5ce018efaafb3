-- Where a refused row went wrong: its place, a column counted from 1 at "step", given with the numbers 11, 12 and 13.
use Rattle.std.specs.Prelude.{Bool, true, false, not, ◌&&◌, ◌||◌, cond, List, [], ◌∷◌, ◌++◌, ℕ, zero, suc, ◌+◌, ◌-◌, length, take, eqb, ltb}
use Rattle.calculus.specs.declared.Premise.{Premise}
use Rattle.calculus.specs.declared.Rule.{Rule}
use Rattle.calculus.specs.declared.Rule.TheVariants.{Same, Differ, Reflexivity, Symmetry, Transitivity, Negated, Part, Unit, Evaluation, Congruence, Predicate, Read, Skip, Deep, Unlisted}
use Rattle.calculus.specs.declared.Step.{Step}
use Rattle.calculus.specs.Lists.{somewhere, first_where}
use Rattle.calculus.specs.Sheets.{term_rows}
use Rattle.calculus.specs.Trail.{Trail, on, premises_at}
use Rattle.calculus.specs.Rules.{fits, rule_of}
use Rattle.calculus.specs.Steps.{is_filled, premise_cells, premises}

-- the columns of a row: step 1, rule 2, term 3, value 4, p to t 5 to 9
abbrev pub term_column : ℕ
term_column = 3

abbrev pub value_column : ℕ
value_column = 4

abbrev pub last_column : ℕ
last_column = 9

-- ---- numbers 11 and 12: the first column that has the fault

-- the column of the first of the cells that is filled and has the fault, where the cells stand from column c on
abbrev pub first_fault : (ℕ → Bool) → ℕ → List ℕ → ℕ
first_fault fault c [] = c
first_fault fault c (x ∷ xs) = cond (is_filled x && fault x) c (first_fault fault (suc c) xs)

-- the first of p to t that has it
abbrev pub premise_fault : (ℕ → Bool) → Step → ℕ
premise_fault fault x = first_fault fault (suc value_column) (premise_cells x)

-- number 11: the term or a premise is no row
unfoldable pub strange_place : List ℕ → Step → ℕ
strange_place ts x =
    cond (ltb x.term (term_rows ts)) (premise_fault (λ p. not (ltb p (term_rows ts))) x) term_column

-- number 12: a premise is not on the trail
unfoldable pub absent_place : Trail → Step → ℕ
absent_place tr x = premise_fault (λ p. not (on tr p)) x

-- ---- number 13: the first column, from the term on, after which no value, rows and blanks to its right fit the rule

-- the rules that go wrong at the term, whatever stands to its right
abbrev pub at_term : Rule → Bool
at_term Same = false
at_term Differ = false
at_term Reflexivity = false
at_term Symmetry = false
at_term Transitivity = false
at_term Negated = false
at_term Part = false
at_term Unit = false
at_term Evaluation = false
at_term Congruence = false
at_term Predicate = false
at_term Read = false
at_term Skip = false
at_term Deep = true
at_term Unlisted = false

-- row a with value w, as a premise
abbrev pub with : ℕ → ℕ → Premise
with w a = record { row = a; value = w }

-- the values that a column can have
unfoldable pub free_values : ℕ
free_values = 65536

-- how many columns to the right of column c are open to rows: after a blank there are blanks only
abbrev pub open_after : List Premise → ℕ → ℕ
open_after ps c = cond (ltb (length ps) (c - value_column)) 0 (last_column - c)

module _ (ts : List ℕ) (k : Rule) (l : ℕ) where
  -- the rule gives l the value v from the premises ps and, in the n columns to their right, rows of the term sheet and then blanks;
  -- each of these rows has a free value
  unfoldable pub completes : ℕ → ℕ → List Premise → Bool
  completes zero v ps = fits ts k l v ps
  completes (suc n) v ps =
      fits ts k l v ps || somewhere (term_rows ts) (λ a. somewhere free_values (λ w. completes n v (ps ++ with w a ∷ [])))

  -- the row with value v and premises ps can be completed, where the columns up to c stand; at the term the value is open, 0 or 1
  unfoldable pub completable : ℕ → List Premise → ℕ → Bool
  completable v ps c =
      cond (ltb c value_column)
      (completes 5 0 [] || completes 5 1 [])
      (completes (open_after ps c) v (take (c - value_column) ps))

  unfoldable pub first_unfit : ℕ → List Premise → ℕ
  first_unfit v ps = term_column + first_where 7 (λ j. not (completable v ps (term_column + j)))

  unfoldable pub unfit_place : ℕ → List Premise → ℕ
  unfit_place v ps = cond (at_term k) term_column (first_unfit v ps)

-- ---- the place of number n in row x, at the trail tr; 0 with every other number

unfoldable pub place_of : List ℕ → Trail → Step → ℕ → ℕ
place_of ts tr x n =
    cond (eqb n 11) (strange_place ts x) (
    cond (eqb n 12) (absent_place tr x) (
    cond (eqb n 13) (unfit_place ts (rule_of x.rule) x.term x.value (premises_at tr (premises x))) 0))
