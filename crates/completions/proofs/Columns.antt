-- The place of number 13 is the first column, from 3 to 9, after which the row cannot be completed.
use mathlib.Core.Path.{◌≡◌, refl, sym, ap, subst, ◌∙◌}
use mathlib.Core.Bool.{Bool, true, false, not, cond}
use mathlib.Core.List.{List, [], ◌∷◌}
use Prim.Native.Nat.{ℕ, zero, suc, ◌+◌, ◌-◌, ◌≤◌, ◌<◌}
use native.Mathlib.Omega.{arith}
use lib.ListN.{length, take}
use lib.Dec.{T, eqb, ltb, eqb_refl, lt→ltb, T_not}
use Rattle.calculus.specs.declared.Premise.{Premise}
use Rattle.calculus.specs.declared.Rule.{Rule}
use Rattle.calculus.specs.declared.Rule.TheVariants.{Deep}
use Rattle.calculus.specs.Lists.{all, first_where}
use Rattle.calculus.specs.Sheets.{term_rows}
use Rattle.calculus.specs.Rules.{layers, is_premise, premise_value, grounded, comes_to, fits}
use Rattle.calculus.specs.Place.{term_column, last_column, free_values, with, completes, completable, first_unfit}
use Rattle.calculus.proofs.Facts.{and_both, or_l, eqb_of, T_true, false_T}
use Rattle.calculus.proofs.Deep.{grounded_here, value_here, comes_here}
use Rattle.completions.specs.First.{FirstUnfit, PlacesAreFirst}
use Rattle.completions.proofs.First.{First, first_is, first_below}
use Rattle.completions.proofs.Completion.{completes_of}
use Rattle.completions.proofs.Needed.{low_small}
use Rattle.completions.proofs.Theorem.{take_all, unfit_first}

-- with nothing to its right that is open, the last column can be completed only where the rule fits
last_is : (ts : List ℕ) (k : Rule) (l v : ℕ) (ps : List Premise) → length ps ≤ 5 → completable ts k l v ps last_column ≡ fits ts k l v ps
unfolding completable completes
last_is ts k l v ps short = go (ltb (length ps) 5) ∙ ap (fits ts k l v) (take_all 5 ps short)
  where
    go : (b : Bool) → completes ts k l (cond b 0 0) v (take 5 ps) ≡ fits ts k l v (take 5 ps)
    go true = refl
    go false = refl

twice_not : (b : Bool) → T (not (not b)) → T b
twice_not true h = tt
twice_not false h = absurd h

first_unfit_lem : (ts : List ℕ) (k : Rule) (l v : ℕ) (ps : List Premise) → length ps ≤ 5 → fits ts k l v ps ≡ false
    → FirstUnfit ts k l v ps (first_unfit ts k l v ps)
unfolding first_unfit
first_unfit_lem ts k l v ps short unfit =
    let p : ℕ → Bool = λ j. not (completable ts k l v ps (term_column + j)) in
    let f = first_is 7 p in
    let m : first_where 7 p < 7 = first_below 7 p 6 (omega arith) (false_T _ (last_is ts k l v ps short ∙ unfit)) in
    record {
      low = omega arith;
      high = omega arith;
      before = λ d a b.
          let j = d - term_column in
          let e : term_column + j ≡ d = omega arith in
          subst (λ c. T (completable ts k l v ps c)) e (twice_not (completable ts k l v ps (term_column + j)) (f.before j (omega arith)));
      none = f.found m;
    }

pub places_are_first : PlacesAreFirst
places_are_first ts k l v ps e short unfit = subst (FirstUnfit ts k l v ps) (sym (unfit_first ts k l v ps e)) (first_unfit_lem ts k l v ps short unfit)

-- ---- deep

module _ (ts : List ℕ) (l : ℕ) where
  -- it gives the term the value that the term has as a premise
  deep_itself : (v : ℕ) → T (fits ts Deep l v (with v l ∷ []))
  unfolding fits
  deep_itself v =
      let ps = with v l ∷ [] in
      let h : T (is_premise ps l) = or_l (eqb l l) _ (eqb_refl l) in
      let c = comes_here ts ps layers l in
      let e : premise_value ps l ≡ v = rw (T_true (eqb l l) (eqb_refl l)) in
      and_both (grounded ts ps layers l) _ (grounded_here ts ps layers l h)
      (and_both (all (λ p. comes_to ts ps layers p.row l) ps) _ (and_both (comes_to ts ps layers l l) _ c tt)
      (eqb_of (sym (value_here ts ps layers l h ∙ e))))

  -- so that up to the term every row can be completed
  term_open : (v : ℕ) (ps : List Premise) → l < term_rows ts → T (completable ts Deep l v ps term_column)
  unfolding completable
  term_open v ps low =
      let r = and_both (ltb l (term_rows ts)) true (lt→ltb _ _ low) tt in
      let s = and_both (ltb 0 free_values) true (low_small 0 (omega arith)) tt in
      or_l (completes ts Deep l 5 0 []) _ (completes_of ts Deep l 0 5 [] (with 0 l ∷ []) (omega arith) r s (deep_itself 0))

  -- and the first column after which it cannot is never the term
  pub deep_later : (v : ℕ) (ps : List Premise) → l < term_rows ts → term_column < first_unfit ts Deep l v ps
  unfolding first_unfit
  deep_later v ps low = go _ (first_is 7 lost)
    where
      lost : ℕ → Bool
      lost j = not (completable ts Deep l v ps (term_column + j))

      go : (r : ℕ) → First 7 lost r → term_column < term_column + r
      go zero f = absurd (T_not (completable ts Deep l v ps term_column) (f.found (omega arith)) (term_open v ps low))
      go (suc r) f = omega arith
