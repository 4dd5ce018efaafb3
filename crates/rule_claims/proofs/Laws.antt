-- How many premises a claim has; and a claim's premises as those of a step row, with their values.
use mathlib.Core.Path.{◌≡◌, refl, ap, ◌∙◌}
use mathlib.Core.Bool.{Bool, true, false, not, ◌&&◌, cond}
use mathlib.Core.List.{List, [], ◌∷◌, map}
use Prim.Native.Nat.{ℕ}
use Rattle.calculus.specs.declared.Premise.{Premise}
use Rattle.calculus.specs.declared.Step.{Step}
use Rattle.calculus.specs.Lists.{all}
use Rattle.calculus.specs.Terms.{filled}
use Rattle.calculus.specs.Rules.{row_of, bare, single, double, leading}
use Rattle.calculus.specs.Steps.{premises}
use Rattle.calculus.proofs.Facts.{both_true}
use Rattle.rule_claims.specs.Claims.{gap, stated, no_premise, valued, Looked}

pub bare_flat : (p : Premise) (ps : List Premise) (b : Bool) → bare (stated (p ∷ ps)) b ≡ (gap p && b)
unfolding bare stated
bare_flat p ps b = go (gap p)
  where
    go : (g : Bool) → bare (cond g [] (p ∷ stated ps)) b ≡ (g && b)
    go true = refl
    go false = refl

pub single_flat : (p q : Premise) (ps : List Premise) (f : Premise → Bool) → single (stated (p ∷ q ∷ ps)) f ≡ ((not (gap p) && gap q) && f p)
unfolding single stated
single_flat p q ps f = go (gap p) (gap q)
  where
    go : (g h : Bool) → single (cond g [] (p ∷ cond h [] (q ∷ stated ps))) f ≡ ((not g && h) && f p)
    go true h = refl
    go false true = refl
    go false false = refl

pub double_flat : (p q r : Premise) (ps : List Premise) (f : Premise → Premise → Bool)
    → double (stated (p ∷ q ∷ r ∷ ps)) f ≡ ((not (gap p) && (not (gap q) && gap r)) && f p q)
unfolding double stated
double_flat p q r ps f = go (gap p) (gap q) (gap r)
  where
    go : (g h i : Bool) → double (cond g [] (p ∷ cond h [] (q ∷ cond i [] (r ∷ stated ps)))) f ≡ ((not g && (not h && i)) && f p q)
    go true h i = refl
    go false true i = refl
    go false false true = refl
    go false false false = refl

pub leading_flat : (p : Premise) (ps : List Premise) (f : Premise → List Premise → Bool) → leading (stated (p ∷ ps)) f ≡ (not (gap p) && f p (stated ps))
unfolding leading stated
leading_flat p ps f = go (gap p)
  where
    go : (g : Bool) → leading (cond g [] (p ∷ stated ps)) f ≡ (not g && f p (stated ps))
    go true = refl
    go false = refl

-- the fifth column is blank where the first premise is taken off
pub stated_four : (p q r s : Premise) → stated (p ∷ q ∷ r ∷ s ∷ no_premise ∷ []) ≡ stated (p ∷ q ∷ r ∷ s ∷ [])
unfolding stated
stated_four p q r s = refl

-- what the rules' tests cite
pub ruleset counted = (bare_flat, single_flat, double_flat, leading_flat, stated_four)

-- ---- a claim's premises are those of its step row, with their values, where a value is known of a row that passes a test

abbrev pub AllLooked : (ℕ → Bool) → (ℕ → ℕ) → List Premise → Type 0
AllLooked here val [] = Unit {0}
AllLooked here val (p ∷ ps) = Looked here val p × AllLooked here val ps

pub stated_looked : (here : ℕ → Bool) (val : ℕ → ℕ) (ps : List Premise) → AllLooked here val ps → all here (filled (map row_of ps)) ≡ true
    → stated ps ≡ map (valued val) (filled (map row_of ps))
unfolding stated
stated_looked here val [] k h = refl
stated_looked here val (p ∷ ps) k h = go (gap p) (stated_looked here val ps k.1) h
  where
    go : (g : Bool) → (all here (filled (map row_of ps)) ≡ true → stated ps ≡ map (valued val) (filled (map row_of ps)))
        → all here (cond g [] (p.row ∷ filled (map row_of ps))) ≡ true
        → cond g [] (p ∷ stated ps) ≡ map (valued val) (cond g [] (p.row ∷ filled (map row_of ps)))
    go true f e = refl
    go false f e =
        let b = both_true _ _ e in
        rw (f b.1) (ap (λ (v : ℕ). record { row = p.row; value = v } ∷ map (valued val) (filled (map row_of ps))) (k.0 b.0))

-- the five columns of a step row whose filled premises all pass the test
pub premises_looked : (here : ℕ → Bool) (val : ℕ → ℕ) (x : Step) (p q r s t : Premise)
    → p.row ≡ x.p → q.row ≡ x.q → r.row ≡ x.r → s.row ≡ x.s → t.row ≡ x.t
    → AllLooked here val (p ∷ q ∷ r ∷ s ∷ t ∷ []) → all here (premises x) ≡ true
    → stated (p ∷ q ∷ r ∷ s ∷ t ∷ []) ≡ map (valued val) (premises x)
unfolding premises
premises_looked here val x p q r s t a b c d e k h =
    let same : map row_of (p ∷ q ∷ r ∷ s ∷ t ∷ []) ≡ x.p ∷ x.q ∷ x.r ∷ x.s ∷ x.t ∷ [] = rw (a, b, c, d, e) in
    let h' : all here (filled (map row_of (p ∷ q ∷ r ∷ s ∷ t ∷ []))) ≡ true = ap (λ (xs : List ℕ). all here (filled xs)) same ∙ h in
    stated_looked here val (p ∷ q ∷ r ∷ s ∷ t ∷ []) k h' ∙ ap (λ (xs : List ℕ). map (valued val) (filled xs)) same
