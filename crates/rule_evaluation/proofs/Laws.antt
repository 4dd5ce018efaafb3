-- What one more premise in front makes of the lists of eval, as a test without branches.
use mathlib.Core.Path.{◌≡◌, refl, sym, ◌∙◌}
use mathlib.Core.Bool.{Bool, true, false, not, ◌&&◌, ◌||◌, cond}
use mathlib.Core.List.{List, [], ◌∷◌, map}
use Prim.Native.Nat.{ℕ}
use lib.Dec.{eqb}
use borrow.Author.Tests.{eqb-true, eqb-false, eq-eqb, ne_eqb}
use Rattle.calculus.specs.declared.Premise.{Premise}
use Rattle.calculus.specs.Lists.{eq_list, is_true}
use Rattle.calculus.specs.Sheets.{blank}
use Rattle.calculus.specs.Terms.{filled}
use Rattle.calculus.specs.Rules.{row_of, value_of, not_of, and_of, or_of}
use Rattle.rule_claims.specs.Claims.{gap, stated}

-- no premise
pub stated_none : stated [] ≡ []
unfolding stated
stated_none = refl

pub and_more : (p : Premise) (ps : List Premise) → and_of (map value_of (stated (p ∷ ps))) ≡ (gap p || (is_true p.value && and_of (map value_of (stated ps))))
unfolding stated
and_more p ps = go (gap p)
  where
    go : (g : Bool) → and_of (map value_of (cond g [] (p ∷ stated ps))) ≡ (g || (is_true p.value && and_of (map value_of (stated ps))))
    go true = refl
    go false = refl

pub or_more : (p : Premise) (ps : List Premise) → or_of (map value_of (stated (p ∷ ps)))
    ≡ (not (gap p) && (is_true p.value || or_of (map value_of (stated ps))))
unfolding stated
or_more p ps = go (gap p)
  where
    go : (g : Bool) → or_of (map value_of (cond g [] (p ∷ stated ps))) ≡ (not g && (is_true p.value || or_of (map value_of (stated ps))))
    go true = refl
    go false = refl

pub not_first : (p : Premise) (ps : List Premise) → not_of (map value_of (stated (p ∷ ps))) ≡ not (not (gap p) && is_true p.value)
unfolding stated
not_first p ps = go (gap p)
  where
    go : (g : Bool) → not_of (map value_of (cond g [] (p ∷ stated ps))) ≡ not (not g && is_true p.value)
    go true = refl
    go false = refl

pub same_more : (p : Premise) (ps : List Premise) (y : ℕ) (ys : List ℕ)
    → eq_list (map row_of (stated (p ∷ ps))) (filled (y ∷ ys)) ≡ (eqb p.row y && (gap p || eq_list (map row_of (stated ps)) (filled ys)))
unfolding stated
same_more p ps y ys = go (gap p) (eqb y blank) refl refl
  where
    go : (g h : Bool) → gap p ≡ g → eqb y blank ≡ h
        → eq_list (map row_of (cond g [] (p ∷ stated ps))) (cond h [] (y ∷ filled ys)) ≡ (eqb p.row y && (g || eq_list (map row_of (stated ps)) (filled ys)))
    go true true a b = rw (eq-eqb p.row y (eqb-true _ _ a ∙ sym (eqb-true _ _ b)))
    go true false a b = rw (ne_eqb p.row y (λ e. eqb-false _ _ b (sym e ∙ eqb-true _ _ a)))
    go false true a b = rw (ne_eqb p.row y (λ e. eqb-false _ _ a (e ∙ eqb-true _ _ b)))
    go false false a b = refl

pub same_none : (p : Premise) (ps : List Premise) → eq_list (map row_of (stated (p ∷ ps))) [] ≡ gap p
unfolding stated
same_none p ps = go (gap p)
  where
    go : (g : Bool) → eq_list (map row_of (cond g [] (p ∷ stated ps))) [] ≡ g
    go true = refl
    go false = refl

-- no premise, where the first column is blank
pub same_blank : (p : Premise) (ps : List Premise) (y : ℕ) (ys : List ℕ) → p.row ≡ blank
    → eqb y blank ≡ eq_list (map row_of (stated (p ∷ ps))) (filled (y ∷ ys))
unfolding stated
same_blank p ps y ys e = rw (eq-eqb _ _ e) (go (eqb y blank))
  where
    go : (g : Bool) → g ≡ eq_list [] (cond g [] (y ∷ filled ys))
    go true = refl
    go false = refl

-- what the check cites
pub ruleset laws = (same_more, same_blank, and_more, or_more, not_first)
