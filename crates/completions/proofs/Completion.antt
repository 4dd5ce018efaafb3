-- What `completes` says: there are rows, with values, that complete the premises.
use mathlib.Core.Path.{◌≡◌, refl, sym, ap, subst}
use mathlib.Core.Logic.{◌⊎◌, inl, inr}
use mathlib.Core.Bool.{Bool}
use mathlib.Core.List.{List, [], ◌∷◌, ◌++◌}
use Prim.Native.Nat.{ℕ, zero, suc, ◌≤◌}
use native.Mathlib.Omega.{arith}
use lib.ListN.{length}
use lib.Dec.{T, ltb→lt, lt→ltb}
use Rattle.calculus.specs.declared.Premise.{Premise}
use Rattle.calculus.specs.declared.Rule.{Rule}
use Rattle.calculus.specs.Lists.{all, somewhere}
use Rattle.calculus.specs.Sheets.{term_rows}
use Rattle.calculus.specs.Rules.{fits}
use Rattle.calculus.specs.Place.{with, free_values, completes}
use Rattle.calculus.proofs.Facts.{and_l, and_r, and_both, or_cases, or_l, or_r}
use Rattle.completions.specs.Search.{small, is_row}
use Rattle.completions.proofs.First.{somewhere_of, somewhere_at}

pub append_nil : (ps : List Premise) → ps ++ [] ≡ ps
append_nil [] = refl
append_nil (p ∷ ps) = ap (λ qs. p ∷ qs) (append_nil ps)

append_one : (ps : List Premise) (q : Premise) (rs : List Premise) → (ps ++ q ∷ []) ++ rs ≡ ps ++ q ∷ rs
append_one [] q rs = refl
append_one (p ∷ ps) q rs = ap (λ qs. p ∷ qs) (append_one ps q rs)

module _ (ts : List ℕ) (k : Rule) (l v : ℕ) where
  -- at most n rows to the right of qs, with which the rule gives l the value v
  pub record Completion (n : ℕ) (qs : List Premise) : Type 0 where
    pub rest : List Premise
    pub short : length rest ≤ n
    pub rows : T (all (is_row ts) rest)
    pub values : T (all small rest)
    pub fit : T (fits ts k l v (qs ++ rest))

  -- some row with some value is the next
  abbrev next : ℕ → List Premise → Bool
  next n qs = somewhere (term_rows ts) (λ a. somewhere free_values (λ w. completes ts k l n v (qs ++ with w a ∷ [])))

  -- blanks only
  nothing_more : (n : ℕ) (qs : List Premise) → T (fits ts k l v qs) → Completion n qs
  nothing_more n qs h =
      record { rest = []; short = omega arith; rows = tt; values = tt; fit = subst (λ ps. T (fits ts k l v ps)) (sym (append_nil qs)) h }

  -- p, and then what completes
  one_more : (n : ℕ) (qs : List Premise) (p : Premise) → T (is_row ts p) → T (small p) → Completion n (qs ++ p ∷ []) → Completion (suc n) qs
  one_more n qs p r s x =
      record {
        rest = p ∷ x.rest;
        short = omega (arith, x.short);
        rows = and_both (is_row ts p) _ r x.rows;
        values = and_both (small p) _ s x.values;
        fit = subst (λ ps. T (fits ts k l v ps)) (append_one qs p x.rest) x.fit;
      }

  pub completes_at : (n : ℕ) (qs : List Premise) → T (completes ts k l n v qs) → Completion n qs
  unfolding completes
  completes_at zero qs h = nothing_more 0 qs h
  completes_at (suc n) qs h = go (λ ps t. completes_at n ps t) (or_cases (fits ts k l v qs) _ h)
    where
      go : ((ps : List Premise) → T (completes ts k l n v ps) → Completion n ps) → T (fits ts k l v qs) ⊎ T (next n qs) → Completion (suc n) qs
      go r (inl t) = nothing_more (suc n) qs t
      go r (inr t) =
          let x = somewhere_at (term_rows ts) _ t in
          let y = somewhere_at free_values (λ w. completes ts k l n v (qs ++ with w x.0 ∷ [])) x.2 in
          one_more n qs (with y.0 x.0) (lt→ltb _ _ x.1) (lt→ltb _ _ y.1) (r _ y.2)

  pub completes_of : (n : ℕ) (qs rs : List Premise) → length rs ≤ n → T (all (is_row ts) rs) → T (all small rs) → T (fits ts k l v (qs ++ rs))
      → T (completes ts k l n v qs)
  unfolding completes
  completes_of zero qs [] n R S h = subst (λ ps. T (fits ts k l v ps)) (append_nil qs) h
  completes_of zero qs (r ∷ rs) n R S h = absurd (omega arith)
  completes_of (suc m) qs [] n R S h = or_l (fits ts k l v qs) _ (subst (λ ps. T (fits ts k l v ps)) (append_nil qs) h)
  completes_of (suc m) qs (r ∷ rs) n R S h =
      let t = completes_of m (qs ++ r ∷ []) rs (omega arith) (and_r (is_row ts r) _ R) (and_r (small r) _ S)
      (subst (λ ps. T (fits ts k l v ps)) (sym (append_one qs r rs)) h) in
      or_r (fits ts k l v qs) _ (
      somewhere_of (term_rows ts) (λ a. somewhere free_values (λ w. completes ts k l m v (qs ++ with w a ∷ []))) r.row (ltb→lt _ _ (and_l (is_row ts r) _ R)) (
      somewhere_of free_values (λ w. completes ts k l m v (qs ++ with w r.row ∷ [])) r.value (ltb→lt _ _ (and_l (small r) _ S)) t))
