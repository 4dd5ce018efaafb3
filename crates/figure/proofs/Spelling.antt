-- A row's shape by the definitions is what the row spells.
use mathlib.Core.Path.{◌≡◌, refl, sym, subst, ◌∙◌}
use mathlib.Core.Logic.{◌≢◌}
use mathlib.Core.Bool.{Bool, true, false, cond}
use mathlib.Core.List.{List, [], ◌∷◌}
use Prim.Native.Nat.{ℕ, ◌<◌}
use native.Mathlib.Omega.{arith}
use native.Mathlib.Decide.{dec_lt}
use lib.ListN.{length, get_or-eq_default}
use lib.Dec.{T, eqb, eqb→eq, lt→ltb}
use Rattle.calculus.specs.declared.Step.{Step}
use Rattle.calculus.specs.declared.Rule.{Rule}
use Rattle.calculus.specs.declared.Rule.TheVariants.{Same, Differ, Reflexivity, Symmetry, Transitivity, Negated, Part, Unit, Evaluation}
use Rattle.calculus.specs.declared.Rule.TheVariants.{Congruence, Predicate, Read, Skip, Deep, Unlisted}
use Rattle.calculus.specs.Lists.{all}
use Rattle.calculus.specs.Sheets.{blank}
use Rattle.calculus.specs.Terms.{filled, left_filled}
use Rattle.calculus.specs.Rules.{rules, rule_of, rule_listed}
use Rattle.calculus.specs.Steps.{premise_cells, is_blank}
use Rattle.calculus.proofs.Facts.{eqb_of, neqb_of, and_l, and_r, and_both, T_true, T_false, true_T}
use Rattle.figure.specs.Spelling.{FromLeft, no_column, blank_column, filled_column}

-- ---- premises from the left

all_blank : (cs : List ℕ) → T (all is_blank cs) → FromLeft cs []
all_blank [] h = no_column
all_blank (c ∷ cs) h = blank_column (eqb→eq c blank (and_l (is_blank c) _ h)) (all_blank cs (and_r (is_blank c) _ h))

pub from_left : (cs : List ℕ) → T (left_filled cs) → FromLeft cs (filled cs)
from_left [] h = no_column
from_left (c ∷ cs) h = go (λ k. from_left cs k) (eqb c blank) refl h
  where
    go : (T (left_filled cs) → FromLeft cs (filled cs)) → (b : Bool) → eqb c blank ≡ b → T (cond b (all is_blank cs) (left_filled cs))
        → FromLeft (c ∷ cs) (cond b [] (c ∷ filled cs))
    go f true e h = blank_column (eqb→eq c blank (true_T _ e)) (all_blank cs h)
    go f false e h = filled_column (refl, λ q. subst T e (eqb_of q)) (f h)

pub blanks_of : {cs : List ℕ} → FromLeft cs [] → T (all is_blank cs)
blanks_of no_column = tt
blanks_of (blank_column {c = c} e r) = and_both (is_blank c) _ (eqb_of e) (blanks_of r)

pub filled_of : {cs ps : List ℕ} → FromLeft cs ps → filled cs ≡ ps
filled_of no_column = refl
filled_of (blank_column {c = c} e r) = rw (T_true (eqb c blank) (eqb_of e))
filled_of (filled_column {c = c} (e) r) = rw (T_false (eqb c blank) (neqb_of (λ q. e.1 (sym e.0 ∙ q)))) (λ i. e.0 i ∷ filled_of r i)

pub left_of : {cs ps : List ℕ} → FromLeft cs ps → T (left_filled cs)
left_of no_column = tt
left_of (blank_column {c = c} e r) = rw (T_true (eqb c blank) (eqb_of e)) (blanks_of r)
left_of (filled_column {c = c} (e) r) = rw (T_false (eqb c blank) (neqb_of (λ q. e.1 (sym e.0 ∙ q)))) (left_of r)

-- no premise, and one
pub no_premise : (x : Step) → T (all is_blank (premise_cells x)) → FromLeft (premise_cells x) []
no_premise x h = all_blank (premise_cells x) h

-- ---- rules by number

-- a number that names a rule is listed
pub listed : (n : ℕ) → rule_of n ≢ Unlisted → T (rule_listed n)
unfolding rule_of
listed n h = go (dec_lt n (length rules))
  where
    go : Dec (n < length rules) → T (rule_listed n)
    go (yes l) = lt→ltb n (length rules) l
    go (no l) = absurd (h (get_or-eq_default rules Unlisted {n = n} (omega arith)))

-- every rule has its number
pub rule_number : (r : Rule) → (n : ℕ) × (rule_of n ≡ r) × (n < blank)
unfolding rule_of
rule_number Same = (0, refl, omega arith)
rule_number Differ = (1, refl, omega arith)
rule_number Reflexivity = (2, refl, omega arith)
rule_number Symmetry = (3, refl, omega arith)
rule_number Transitivity = (4, refl, omega arith)
rule_number Negated = (5, refl, omega arith)
rule_number Part = (6, refl, omega arith)
rule_number Unit = (7, refl, omega arith)
rule_number Evaluation = (8, refl, omega arith)
rule_number Congruence = (9, refl, omega arith)
rule_number Predicate = (10, refl, omega arith)
rule_number Read = (11, refl, omega arith)
rule_number Skip = (12, refl, omega arith)
rule_number Deep = (13, refl, omega arith)
rule_number Unlisted = (14, refl, omega arith)
