-- What one more argument and one more premise in front make of the lists of unit, as a test without branches.
use mathlib.Core.Path.{◌≡◌, refl, sym, ◌∙◌}
use mathlib.Core.Bool.{Bool, true, false, not, ◌&&◌, ◌||◌, cond, or-false}
use mathlib.Core.List.{List, [], ◌∷◌}
use Prim.Native.Nat.{ℕ}
use lib.Dec.{eqb}
use borrow.Author.Tests.{eq-eqb}
use Rattle.calculus.specs.declared.Premise.{Premise}
use Rattle.calculus.specs.declared.Rule.TheVariants as rule
use Rattle.calculus.specs.Sheets.{blank}
use Rattle.calculus.specs.Terms.{filled, cells, args, args_of, term_at, and_head, or_head}
use Rattle.calculus.specs.Rules.{fits, gives, others, unit_at}
use Rattle.calculus.proofs.Forms.{unit_none, unit_last, unit_front}
use Rattle.rule_claims.specs.Claims.{gap, stated}
use Rattle.rule_claims.proofs.Laws.{counted, leading_flat}

-- unit, where the first premise is an or
pub unit_or : (ts : List ℕ) (l v : ℕ) (p : Premise) (ps : List Premise) → (term_at ts p.row).head ≡ or_head
    → (not (gap p) && ((eqb (term_at ts p.row).head or_head && (eqb p.value 1 && eqb v 1)) && unit_at 0 l (args_of (term_at ts p.row)) (stated ps)))
    ≡ fits ts rule.Unit l v (stated (p ∷ ps))
unfolding fits cells args
unit_or ts l v p ps e = rw (leading_flat, e, or-false)

-- unit, where it is none
pub unit_and : (ts : List ℕ) (l v : ℕ) (p : Premise) (ps : List Premise) → eqb (term_at ts p.row).head or_head ≡ false
    → (not (gap p) && ((eqb (term_at ts p.row).head and_head && (eqb p.value 0 && eqb v 0)) && unit_at 1 l (args_of (term_at ts p.row)) (stated ps)))
    ≡ fits ts rule.Unit l v (stated (p ∷ ps))
unfolding fits cells args
unit_and ts l v p ps e = rw (leading_flat, e)

pub others_none : (w : ℕ) (p : Premise) (ps : List Premise) → others w [] (stated (p ∷ ps)) ≡ gap p
unfolding stated
others_none w p ps = go (gap p)
  where
    go : (g : Bool) → others w [] (cond g [] (p ∷ stated ps)) ≡ g
    go true = refl
    go false = refl

-- no argument, where the first column is blank
pub others_blank : (w x : ℕ) (xs : List ℕ) (p : Premise) (ps : List Premise) → x ≡ blank → gap p ≡ others w (filled (x ∷ xs)) (stated (p ∷ ps))
others_blank w x xs p ps e = rw (eq-eqb _ _ e, others_none w p ps)

pub unit_blank : (w l x : ℕ) (xs : List ℕ) (ps : List Premise) → x ≡ blank → false ≡ unit_at w l (filled (x ∷ xs)) ps
unit_blank w l x xs ps e = rw (eq-eqb _ _ e, unit_none w l ps)

pub others_more : (w x : ℕ) (xs : List ℕ) (p : Premise) (ps : List Premise)
    → others w (filled (x ∷ xs)) (stated (p ∷ ps))
    ≡ ((eqb x blank && gap p) || (not (eqb x blank) && (not (gap p) && (gives x w p && others w (filled xs) (stated ps)))))
unfolding stated
others_more w x xs p ps = go (eqb x blank) (gap p)
  where
    go : (g h : Bool) → others w (cond g [] (x ∷ filled xs)) (cond h [] (p ∷ stated ps))
        ≡ ((g && h) || (not g && (not h && (gives x w p && others w (filled xs) (stated ps)))))
    go true true = refl
    go true false = refl
    go false true = refl
    go false false = refl

pub unit_more : (w l x : ℕ) (xs : List ℕ) (p : Premise) (ps : List Premise)
    → unit_at w l (filled (x ∷ xs)) (stated (p ∷ ps))
    ≡ (not (eqb x blank) && ((eqb x l && others w (filled xs) (stated (p ∷ ps))) || (not (gap p) && (gives x w p && unit_at w l (filled xs) (stated ps)))))
unfolding stated
unit_more w l x xs p ps = go (eqb x blank) (gap p)
  where
    go : (g h : Bool) → unit_at w l (cond g [] (x ∷ filled xs)) (cond h [] (p ∷ stated ps))
        ≡ (not g && ((eqb x l && others w (filled xs) (cond h [] (p ∷ stated ps))) || (not h && (gives x w p && unit_at w l (filled xs) (stated ps)))))
    go true h = unit_none w l _
    go false true = unit_last w l x (filled xs) ∙ sym (or-false (eqb x l && others w (filled xs) []))
    go false false = unit_front w l x (filled xs) p (stated ps)

-- what the check cites
pub ruleset laws = (counted, others_more, unit_more)
