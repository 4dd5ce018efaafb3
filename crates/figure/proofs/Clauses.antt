-- A clause's test passes exactly where the relation has a clausal form.
use mathlib.Core.Path.{◌≡◌, refl, sym, ap, subst}
use mathlib.Core.Logic.{◌⊎◌, inl, inr}
use mathlib.Core.Bool.{not, ◌&&◌, cond}
use mathlib.Core.List.{List, [], ◌∷◌, ◌++◌, Memᴰ}
use Prim.Native.Nat.{ℕ, zero, suc, ◌≤◌, ◌<◌}
use native.Mathlib.Omega.{arith}
use lib.ListN.{length}
use lib.Dec.{T, eqb, eqb→eq, eqb_refl, not_T, T_not}
use Rattle.calculus.specs.declared.Premise.{Premise}
use Rattle.calculus.specs.Lists.{has, num}
use Rattle.calculus.specs.Sheets.{term_rows}
use Rattle.calculus.specs.Terms.{head, args, arg, not_head, and_head, or_head}
use Rattle.calculus.specs.Rules.{is_head}
use Rattle.calculus.specs.Clauses.{different, is_clause, clause_value, is_not, literal, paired, clausal}
use Rattle.calculus.proofs.Facts.{eqb_of, and_l, and_r, and_both, or_cases, or_l, or_r, has_at, has_of, facts}
use Rattle.calculus.proofs.WellSorted.{WellSorted, row_args}
use Rattle.calculus.proofs.Clauses.{rest_in, in_middle, taken, taking}
use Rattle.figure.specs.Inferences.{assign, Applied}
use Rattle.figure.specs.Clauses.{Different, no_number, one_more, Denies, denies_true, denies_false, Affirms, affirms_true, affirms_false}
use Rattle.figure.specs.Clauses.{Paired, no_pair, one_pair, ClausalForm, opposite, clause, conjunction}
use Rattle.figure.proofs.Rows.{not_row}
use Rattle.figure.proofs.Rules.{head_of_lem, column_0, retarget, as_is}

-- ---- different numbers

pub different_is : (xs : List ℕ) → T (different xs) → Different xs
different_is [] h = no_number
different_is (x ∷ xs) h =
    one_more (λ m. T_not (has xs x) (and_l (not (has xs x)) _ h) (has_of m)) (different_is xs (and_r (not (has xs x)) _ h))

pub different_of : {xs : List ℕ} → Different xs → T (different xs)
different_of no_number = tt
different_of (one_more {x = x} {xs = xs} n r) = and_both (not (has xs x)) _ (not_T (has xs x) (λ t. n (has_at xs t))) (different_of r)

-- ---- from the relation to the test

paired_test : (ts : List ℕ) (P : Premise → ℕ → Type 0) (v : ℕ) → ((p : Premise) (x : ℕ) → P p x → T (literal ts v p x))
    → {H : List Premise} {xs : List ℕ} → Paired P H xs → T (paired ts v H xs)
unfolding paired
paired_test ts P v f no_pair = tt
paired_test ts P v f (one_pair {p = p} {x = x} {H = H} xs ys q r) =
    taking (λ z rest. literal ts v p z && paired ts v H rest) xs x ys (and_both (literal ts v p x) _ (f p x q) (paired_test ts P v f r))

module _ {ts : List ℕ} where
  not_test : {n l : ℕ} → Applied ts n not_head (l ∷ []) → T (is_not ts n l)
  not_test {n} q = and_both (is_head ts n not_head) _ (head_of_lem q) (eqb_of (column_0 q))

  denies_test : {p : Premise} {x : ℕ} → Denies ts p x → T (literal ts 1 p x)
  unfolding literal
  denies_test (denies_true q) = not_test q
  denies_test (denies_false {l = l}) = eqb_refl l

  affirms_test : {p : Premise} {x : ℕ} → Affirms ts p x → T (literal ts 0 p x)
  unfolding literal
  affirms_test (affirms_true {l = l}) = eqb_refl l
  affirms_test (affirms_false q) = not_test q

  -- a clausal form of more than one assignment is a clause
  pub clausal_test : {H : List Premise} {t v : ℕ} → 2 ≤ length H → ClausalForm ts H t v
      → T (is_clause ts t) × T (clausal ts t H) × (clause_value ts t ≡ v)
  clausal_test l (opposite o) = absurd (omega arith)
  clausal_test {H} {t} l (clause q r) =
      let e : clause_value ts t ≡ 1 = ap (λ k. num (eqb k or_head)) q.headed in
      (or_l (is_head ts t or_head) _ (head_of_lem q), rw (e, q.arguments) (paired_test ts (Denies ts) 1 (λ p x. denies_test) r), e)
  clausal_test {H} {t} l (conjunction q r) =
      let e : clause_value ts t ≡ 0 = ap (λ k. num (eqb k or_head)) q.headed in
      (or_r (is_head ts t or_head) _ (head_of_lem q), rw (e, q.arguments) (paired_test ts (Affirms ts) 0 (λ p x. affirms_test) r), e)

-- ---- from the test to the relation

module _ {ss ts : List ℕ} (W : WellSorted ss ts) where
  -- the terms are rows
  abbrev Rows : List ℕ → Type 0
  Rows xs = (x : ℕ) → Memᴰ x xs → x < term_rows ts

  -- the assignments give truth values
  abbrev pub Truth : List Premise → Type 0
  Truth H = (p : Premise) → Memᴰ p H → p.value ≤ 1

  not_is : (x l : ℕ) → x < term_rows ts → T (is_not ts x l) → Applied ts x not_head (l ∷ [])
  not_is x l k h =
      let e : head ts x ≡ not_head = search facts in
      let a : arg ts x 0 ≡ l = search facts in
      retarget (not_row W x k e) (λ i. a i ∷ [])

  denies_is : (p : Premise) (x : ℕ) → p.value ≤ 1 → x < term_rows ts → T (literal ts 1 p x) → Denies ts p x
  unfolding literal
  denies_is p x s k h = go p.value s h
    where
      go : (v : ℕ) → v ≤ 1 → T (cond (eqb v 1) (is_not ts x p.row) (eqb x p.row)) → Denies ts (assign v p.row) x
      go zero s h = subst (Denies ts (assign 0 p.row)) (sym (eqb→eq _ _ h)) denies_false
      go (suc zero) s h = denies_true (not_is x p.row k h)
      go (suc (suc v)) s h = absurd (omega arith)

  affirms_is : (p : Premise) (x : ℕ) → p.value ≤ 1 → x < term_rows ts → T (literal ts 0 p x) → Affirms ts p x
  unfolding literal
  affirms_is p x s k h = go p.value s h
    where
      go : (v : ℕ) → v ≤ 1 → T (cond (eqb v 0) (is_not ts x p.row) (eqb x p.row)) → Affirms ts (assign v p.row) x
      go zero s h = affirms_false (not_is x p.row k h)
      go (suc zero) s h = subst (Affirms ts (assign 1 p.row)) (sym (eqb→eq _ _ h)) affirms_true
      go (suc (suc v)) s h = absurd (omega arith)

  paired_is : (P : Premise → ℕ → Type 0) (v : ℕ) → ((p : Premise) (x : ℕ) → p.value ≤ 1 → x < term_rows ts → T (literal ts v p x) → P p x)
      → (H : List Premise) (xs : List ℕ) → Truth H → Rows xs → T (paired ts v H xs) → Paired P H xs
  unfolding paired
  paired_is P v f [] [] N K h = no_pair
  paired_is P v f [] (x ∷ xs) N K h = absurd h
  paired_is P v f (p ∷ H) xs N K h =
      let t = taken xs (λ x rest. literal ts v p x && paired ts v H rest) h in
      let K' : Rows (t.before ++ (t.one ∷ t.after)) = subst Rows t.here K in
      subst (Paired P (p ∷ H)) (sym t.here)
      (one_pair t.before t.after
      (f p t.one (N p (Memᴰ.head refl)) (K' t.one (in_middle t.before t.after)) (and_l (literal ts v p t.one) _ t.test))
      (paired_is P v f H (t.before ++ t.after) (λ q m. N q (Memᴰ.tail m)) (λ x m. K' x (rest_in t.one t.before t.after m))
      (and_r (literal ts v p t.one) _ t.test)))

  pub clausal_is : (H : List Premise) (t : ℕ) → t < term_rows ts → Truth H → T (is_clause ts t) → T (clausal ts t H) → ClausalForm ts H t (clause_value ts t)
  clausal_is H t l N c h = go (or_cases (is_head ts t or_head) _ c)
    where
      rows : Rows (args ts t)
      rows x m = let q = row_args W t l x m in omega arith

      go : T (is_head ts t or_head) ⊎ T (is_head ts t and_head) → ClausalForm ts H t (clause_value ts t)
      go (inl u) =
          let e : head ts t ≡ or_head = eqb→eq _ _ u in
          let v : clause_value ts t ≡ 1 = ap (λ k. num (eqb k or_head)) e in
          subst (ClausalForm ts H t) (sym v) (clause (as_is e) (paired_is (Denies ts) 1 denies_is H (args ts t) N rows (rw v at h)))
      go (inr u) =
          let e : head ts t ≡ and_head = eqb→eq _ _ u in
          let v : clause_value ts t ≡ 0 = ap (λ k. num (eqb k or_head)) e in
          subst (ClausalForm ts H t) (sym v) (conjunction (as_is e) (paired_is (Affirms ts) 0 affirms_is H (args ts t) N rows (rw v at h)))
