-- What one more position makes of the equalities between two rows of arguments.
use mathlib.Core.Path.{◌≡◌, refl, ◌∙◌}
use mathlib.Core.Bool.{Bool, true, false, not, ◌&&◌, ◌||◌, cond}
use mathlib.Core.List.{List, [], ◌∷◌}
use Prim.Native.Nat.{ℕ}
use lib.Dec.{eqb}
use borrow.Author.Tests.{eq-eqb, ne_eqb}
use Rattle.calculus.specs.declared.Premise.{Premise}
use Rattle.calculus.specs.Sheets.{blank}
use Rattle.calculus.specs.Terms.{filled}
use Rattle.calculus.specs.Rules.{equates, pairs}
use Rattle.rule_claims.specs.Claims.{gap, stated}
use Rattle.rule_claims.proofs.Laws.{counted}

pub pairs_none : (ts : List ℕ) (p : Premise) (ps : List Premise) → pairs ts [] [] (stated (p ∷ ps)) ≡ gap p
unfolding stated
pairs_none ts p ps = go (gap p)
  where
    go : (g : Bool) → pairs ts [] [] (cond g [] (p ∷ stated ps)) ≡ g
    go true = refl
    go false = refl

-- as a test without branches
pub pairs_more : (ts : List ℕ) (a b : ℕ) (xs ys : List ℕ) (p : Premise) (ps : List Premise)
    → pairs ts (filled (a ∷ xs)) (filled (b ∷ ys)) (stated (p ∷ ps))
    ≡ ((eqb a blank && (eqb b blank && gap p))
    || (not (eqb a blank) && (not (eqb b blank) && (not (gap p) && (equates ts a b 1 p && pairs ts (filled xs) (filled ys) (stated ps))))))
unfolding stated
pairs_more ts a b xs ys p ps = go (eqb a blank) (eqb b blank) (gap p)
  where
    go : (f g h : Bool) → pairs ts (cond f [] (a ∷ filled xs)) (cond g [] (b ∷ filled ys)) (cond h [] (p ∷ stated ps))
        ≡ ((f && (g && h)) || (not f && (not g && (not h && (equates ts a b 1 p && pairs ts (filled xs) (filled ys) (stated ps))))))
    go true true true = refl
    go true true false = refl
    go true false h = refl
    go false true h = refl
    go false false true = refl
    go false false false = refl

-- past the last premise
pub pairs_gap : (ts : List ℕ) (a b : ℕ) (xs ys : List ℕ) (p : Premise) (ps : List Premise) → gap p ≡ true
    → pairs ts (filled (a ∷ xs)) (filled (b ∷ ys)) (stated (p ∷ ps)) ≡ (eqb a blank && eqb b blank)
pairs_gap ts a b xs ys p ps e =
    pairs_more ts a b xs ys p ps ∙ rw e (go (eqb a blank) (eqb b blank) (equates ts a b 1 p && pairs ts (filled xs) (filled ys) (stated ps)))
  where
    go : (f g r : Bool) → ((f && (g && true)) || (not f && (not g && (not true && r)))) ≡ (f && g)
    go true true r = refl
    go true false r = refl
    go false true r = refl
    go false false r = refl

-- ---- the same as the code tests it: the premise's row first

-- past the last premise
pub pairs_past : (ts : List ℕ) (a b : ℕ) (xs ys : List ℕ) (p : Premise) (ps : List Premise) → p.row ≡ blank
    → (eqb a blank && eqb b blank) ≡ pairs ts (filled (a ∷ xs)) (filled (b ∷ ys)) (stated (p ∷ ps))
unfolding stated
pairs_past ts a b xs ys p ps e = rw (eq-eqb p.row blank e) (go (eqb a blank) (eqb b blank))
  where
    go : (f g : Bool) → (f && g) ≡ pairs ts (cond f [] (a ∷ filled xs)) (cond g [] (b ∷ filled ys)) []
    go true true = refl
    go true false = refl
    go false true = refl
    go false false = refl

-- before it
pub pairs_before : (ts : List ℕ) (a b : ℕ) (xs ys : List ℕ) (p : Premise) (ps : List Premise) → (p.row ≡ blank → ⊥)
    → (not (eqb a blank) && (not (eqb b blank) && (equates ts a b 1 p && pairs ts (filled xs) (filled ys) (stated ps))))
    ≡ pairs ts (filled (a ∷ xs)) (filled (b ∷ ys)) (stated (p ∷ ps))
unfolding stated
pairs_before ts a b xs ys p ps e = rw (ne_eqb p.row blank e) (go (eqb a blank) (eqb b blank))
  where
    go : (f g : Bool) → (not f && (not g && (equates ts a b 1 p && pairs ts (filled xs) (filled ys) (stated ps))))
        ≡ pairs ts (cond f [] (a ∷ filled xs)) (cond g [] (b ∷ filled ys)) (p ∷ stated ps)
    go true true = refl
    go true false = refl
    go false true = refl
    go false false = refl

-- what the check cites
pub ruleset laws = (counted, pairs_before, pairs_past)
