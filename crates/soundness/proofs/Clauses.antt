-- Clausal forms: where a clause has not its value, all the assignments that it is a clausal form of hold.
use mathlib.Core.Path.{◌≡◌, refl, sym, ap, ◌∙◌}
use mathlib.Core.Logic.{◌≢◌, ◌⊎◌, inl, inr}
use mathlib.Core.Bool.{Bool, true, false, not, ◌&&◌, cond}
use mathlib.Core.List.Memᴰ
use mathlib.Core.List.{List, [], ◌∷◌, ◌++◌, Memᴰ}
use Prim.Native.Nat.{ℕ, zero, suc, ◌-◌, ◌≤◌, ◌<◌}
use native.Mathlib.Omega.{arith}
use lib.Dec.{T, eqb, eqb→eq}
use Rattle.calculus.specs.declared.Head.TheVariants.{Conjunction, Disjunction}
use Rattle.calculus.specs.declared.Premise.{Premise}
use Rattle.calculus.specs.Lists.{num, is_true}
use Rattle.calculus.specs.Sheets.{term_rows}
use Rattle.calculus.specs.Terms.{head, sort, args, arg, head_of, not_head, and_head, or_head}
use Rattle.calculus.specs.Rules.{is_head}
use Rattle.calculus.specs.Clauses.{is_clause, clause_value, is_not, literal, paired, clausal}
use Rattle.calculus.proofs.Facts.{and_l, and_r, or_cases, false_T, neq, facts}
use Rattle.calculus.proofs.WellSorted.{WellSorted, row_args}
use Rattle.calculus.proofs.Clauses.{rest_in, in_middle, Taken, taken}
use Rattle.soundness.specs.Interpretation.{Interpretation, value}
use Rattle.calculus.proofs.Rows.{is_connective_lem}
use Rattle.soundness.proofs.Values.{not_value, prop_le}
use Rattle.soundness.proofs.Inferences.{and_neutral, or_neutral}

-- every assignment appears as one of the terms
paired_in : (ts : List ℕ) (v : ℕ) (ps : List Premise) (xs : List ℕ) → T (paired ts v ps xs)
    → (p : Premise) → Memᴰ p ps → (x : ℕ) × Memᴰ x xs × T (literal ts v p x)
unfolding paired
paired_in ts v [] xs h p m = absurd (Memᴰ.not-nil m)
paired_in ts v (q ∷ ps) xs h p m =
    let t = taken xs (λ x rest. literal ts v q x && paired ts v ps rest) h in
    go t (λ k. paired_in ts v ps (t.before ++ t.after) (and_r (literal ts v q t.one) _ t.test) p k) (Memᴰ.cases_cons m)
  where
    go : (t : Taken xs (λ x rest. literal ts v q x && paired ts v ps rest))
        → (Memᴰ p ps → (x : ℕ) × Memᴰ x (t.before ++ t.after) × T (literal ts v p x))
        → (p ≡ q) ⊎ Memᴰ p ps → (x : ℕ) × Memᴰ x xs × T (literal ts v p x)
    go t r (inl e) =
        (t.one, rw t.here (in_middle t.before t.after), rw e (and_l (literal ts v q t.one) _ t.test))
    go t r (inr k) = let y = r k in (y.0, rw t.here (rest_in t.one t.before t.after y.1), y.2)

negated_holds : (x y v : ℕ) → y ≤ 1 → v ≤ 1 → x ≡ num (not (is_true y)) → x ≡ 1 - v → y ≡ v
negated_holds x zero v l m e q = omega arith
negated_holds x (suc zero) v l m e q = omega arith
negated_holds x (suc (suc y)) v l m e q = absurd (omega arith)

module _ {ss ts : List ℕ} (W : WellSorted ss ts) where
  -- a clause is a prop
  pub clause_prop : (t : ℕ) → t < term_rows ts → T (is_clause ts t) → sort ts t ≡ 0
  clause_prop t l c = go (or_cases (is_head ts t or_head) _ c)
    where
      go : T (is_head ts t or_head) ⊎ T (is_head ts t and_head) → sort ts t ≡ 0
      go (inl u) = let e : head ts t ≡ or_head = eqb→eq _ _ u in (is_connective_lem W t Disjunction l (ap head_of e) tt).is_prop
      go (inr u) = let e : head ts t ≡ and_head = eqb→eq _ _ u in (is_connective_lem W t Conjunction l (ap head_of e) tt).is_prop

module _ {ss ts : List ℕ} (W : WellSorted ss ts) (M : Interpretation ss ts) where
  -- a row of sort prop with a truth value
  abbrev pub Truth : Premise → Type 0
  Truth p = (p.row < term_rows ts) × (sort ts p.row ≡ 0) × (p.value ≤ 1)

  -- an assignment holds where the term that it appears as has the value that the clause has not
  literal_holds : (v : ℕ) (p : Premise) (x : ℕ) → v ≤ 1 → Truth p → x < term_rows ts → T (literal ts v p x) → value M x ≡ 1 - v
      → value M p.row ≡ p.value
  unfolding literal
  literal_holds v p x small b l h e = go (eqb p.value v) refl h
    where
      go : (c : Bool) → eqb p.value v ≡ c → T (cond c (is_not ts x p.row) (eqb x p.row)) → value M p.row ≡ p.value
      go true q t =
          let d : head ts x ≡ not_head = search facts in
          let a : arg ts x 0 ≡ p.row = search facts in
          let y : p.value ≡ v = eqb→eq _ _ (rw q tt) in
          negated_holds (value M x) (value M p.row) v (prop_le W M p.row b.0 b.1) small
          (not_value W M x l (ap head_of d) ∙ (λ i. num (not (is_true (value M (a i)))))) e
          ∙ sym y
      go false q t =
          let a : x ≡ p.row = eqb→eq _ _ t in
          let y : p.value ≢ v = neq _ _ (false_T _ q) in
          let z : value M p.row ≡ 1 - v = ap (value M) (sym a) ∙ e in
          omega (arith, b.2)

  -- where the clause has not its value, every assignment holds
  pub clause_holds : (t : ℕ) (ps : List Premise) → t < term_rows ts → T (is_clause ts t) → T (clausal ts t ps)
      → ((p : Premise) → Memᴰ p ps → Truth p) → value M t ≢ clause_value ts t
      → (p : Premise) → Memᴰ p ps → value M p.row ≡ p.value
  clause_holds t ps l c h b n p m =
      let f = paired_in ts (clause_value ts t) ps (args ts t) h p m in
      go f.0 f.1 f.2 (or_cases (is_head ts t or_head) _ c)
    where
      below : (x : ℕ) → Memᴰ x (args ts t) → x < term_rows ts
      below x j = let q : x < t = row_args W t l x j in omega arith

      go : (x : ℕ) → Memᴰ x (args ts t) → T (literal ts (clause_value ts t) p x) → T (is_head ts t or_head) ⊎ T (is_head ts t and_head)
          → value M p.row ≡ p.value
      go x j f (inl u) =
          let e : head ts t ≡ or_head = eqb→eq _ _ u in
          let v : clause_value ts t ≡ 1 = ap (λ k. num (eqb k or_head)) e in
          let y = prop_le W M t l (clause_prop W t l c) in
          let w : value M t ≡ 0 = (let k : value M t ≢ 1 = rw v at n in omega arith) in
          literal_holds 1 p x (omega arith) (b p m) (below x j) (rw v at f) ((or_neutral W M t l (ap head_of e)).0 w x j)
      go x j f (inr u) =
          let e : head ts t ≡ and_head = eqb→eq _ _ u in
          let v : clause_value ts t ≡ 0 = ap (λ k. num (eqb k or_head)) e in
          let y = prop_le W M t l (clause_prop W t l c) in
          let w : value M t ≡ 1 = (let k : value M t ≢ 0 = rw v at n in omega arith) in
          literal_holds 0 p x (omega arith) (b p m) (below x j) (rw v at f) ((and_neutral W M t l (ap head_of e)).0 w x j)
