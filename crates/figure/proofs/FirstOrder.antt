-- Only same and differ infer from assignments to terms that are not Boolean.
use mathlib.Core.Path.{◌≡◌, refl, sym, ap, subst, ◌∙◌}
use mathlib.Core.Logic.{◌⊎◌, inl, inr}
use mathlib.Core.Bool.{true, false}
use mathlib.Core.List.Memᴰ
use mathlib.Core.List.{List, [], ◌∷◌, ◌++◌, Memᴰ}
use Prim.Native.Nat.{ℕ, ◌<◌}
use lib.Dec.{T, eqb, eqb→eq, eqb_refl}
use Rattle.calculus.specs.declared.Premise.{Premise}
use Rattle.calculus.specs.declared.Rule.{Rule}
use Rattle.calculus.specs.declared.Rule.TheVariants.{Same, Differ}
use Rattle.calculus.specs.Lists.{num}
use Rattle.calculus.specs.Sheets.{term_rows}
use Rattle.calculus.specs.Terms.{head_of, is_free}
use Rattle.calculus.specs.Rules.{row_of, is_connective}
use Rattle.calculus.proofs.Facts.{num_true, num_false, true_T, false_T, neq, is_or_not}
use Rattle.calculus.proofs.WellSorted.{WellSorted}
use Rattle.calculus.proofs.Rows.{is_equality, connective_row, free_head, free_sort}
use Rattle.calculus.proofs.Clauses.{rest_in}
use Rattle.calculus.proofs.Deep.{evaluates_once}
use Rattle.figure.specs.Inferences.{assign, Applied, Equation, Settles, or_by_true, and_by_false, Evaluates, Pointwise, no_position, position}
use Rattle.figure.specs.Inferences.{Infers, same, differ, reflexivity, symmetry, transitivity, negated, part, unit, evaluation}
use Rattle.figure.specs.Inferences.{congruence, predicate, read, skip, deep}
use Rattle.figure.specs.Transitions.{Boolean}
use Rattle.figure.proofs.Rows.{free_test}
use Rattle.figure.proofs.Connectives.{evaluates_of}
use Rattle.figure.proofs.Walks.{walk_test, comes_prop}
use Rattle.figure.proofs.Rules.{Known, into}

-- ---- what holds of each of some assignments

abbrev pub Each : (Premise → Type 0) → List Premise → Type 0
Each P J = (p : Premise) → Memᴰ p J → P p

module _ (P : Premise → Type 0) where
  none : Each P []
  none p m = absurd (Memᴰ.not-nil m)

  pub more : {q : Premise} {J : List Premise} → P q → Each P J → Each P (q ∷ J)
  more {q} {J} h r p m = go (Memᴰ.cases_cons m)
    where
      go : (p ≡ q) ⊎ Memᴰ p J → P p
      go (inl e) = subst P (sym e) h
      go (inr k) = r p k

  pub one : {q : Premise} → P q → Each P (q ∷ [])
  one h = more h none

-- ---- same and differ

-- the values x and y of a and b give the equation between them its value
pub record FromValues (ts : List ℕ) (J : List Premise) (l w : ℕ) : Type 0 where
  pub a : ℕ
  pub b : ℕ
  pub x : ℕ
  pub y : ℕ
  pub equation : Equation ts l a b
  pub premises : J ≡ assign x a ∷ assign y b ∷ []
  pub result : w ≡ num (eqb x y)

pub values_infer : {ts : List ℕ} {l a b : ℕ} (x y : ℕ) → Equation ts l a b
    → (r : Rule) × Infers ts r (assign x a ∷ assign y b ∷ []) l (num (eqb x y))
values_infer {ts} {l} {a} {b} x y q = go (is_or_not (eqb x y))
  where
    go : (eqb x y ≡ true) ⊎ (eqb x y ≡ false) → (r : Rule) × Infers ts r (assign x a ∷ assign y b ∷ []) l (num (eqb x y))
    go (inl e) = let z : x ≡ y = eqb→eq x y (true_T _ e) in (Same, into (λ i. assign x a ∷ assign (sym z i) b ∷ []) (ap num e) (same q))
    go (inr e) = (Differ, into refl (ap num e) (differ q (neq x y (false_T _ e))))

-- ---- the other rules

settles_connective : {h w u : ℕ} → Settles h w u → T (is_connective h)
settles_connective or_by_true = tt
settles_connective and_by_false = tt

evaluates_connective : {h v : ℕ} {vs : List ℕ} → Evaluates h vs v → T (is_connective h)
evaluates_connective {h} {v} {vs} e = (evaluates_once h vs v (evaluates_of e)).0

module _ {ss ts : List ℕ} (W : WellSorted ss ts) where
  -- an assignment to a Boolean
  abbrev pub ToBoolean : Premise → Type 0
  ToBoolean p = Boolean ts p.row

  pub equation_boolean : {e a b : ℕ} → Equation ts e a b → e < term_rows ts → Boolean ts e
  equation_boolean {e} q l = (is_equality W e l (ap head_of q.headed)).is_prop

  -- a connective and its arguments
  connective_boolean : {t h : ℕ} {xs : List ℕ} → Applied ts t h xs → T (is_connective h) → t < term_rows ts
      → Boolean ts t × ((x : ℕ) → Memᴰ x xs → Boolean ts x)
  connective_boolean {t} q c l =
      let r = connective_row W t l (subst (λ k. T (is_connective k)) (sym q.headed) c) in
      (r.is_prop, λ x m. r.arguments x (subst (Memᴰ x) (sym q.arguments) m))

  pointwise_boolean : {xs ys : List ℕ} {J : List Premise} → Pointwise ts xs ys J → Known ts J → Each ToBoolean J
  pointwise_boolean no_position K = none ToBoolean
  pointwise_boolean (position q r) K =
      more ToBoolean (equation_boolean q (K _ (Memᴰ.head refl))) (pointwise_boolean r (λ p m. K p (Memᴰ.tail m)))

  -- an inference of a Boolean is by same or differ, or from assignments to Booleans
  pub first_order_inference : {r : Rule} {J : List Premise} {l w : ℕ} → Infers ts r J l w → Known ts J → l < term_rows ts → Boolean ts l
      → FromValues ts J l w ⊎ Each ToBoolean J
  first_order_inference (same {t = t} {u} {v} q) K k z =
      inl (record { a = t; b = u; x = v; y = v; equation = q; premises = refl; result = sym (num_true (eqb v v) (eqb_refl v)) })
  first_order_inference (differ {t = t} {u} {v} {w} q n) K k z =
      inl (record { a = t; b = u; x = v; y = w; equation = q; premises = refl; result = sym (num_false (eqb v w) (λ e. n (eqb→eq v w e))) })
  first_order_inference (reflexivity q) K k z = inr (none ToBoolean)
  first_order_inference (symmetry p q) K k z = inr (one ToBoolean (equation_boolean p (K _ (Memᴰ.head refl))))
  first_order_inference (transitivity p q r) K k z =
      inr (more ToBoolean (equation_boolean p (K _ (Memᴰ.head refl)))
      (one ToBoolean (equation_boolean q (K _ (Memᴰ.tail (Memᴰ.head refl))))))
  first_order_inference (negated q o) K k z = inr (one ToBoolean (connective_boolean q tt (K _ (Memᴰ.head refl))).0)
  first_order_inference (part s q m) K k z =
      inr (one ToBoolean (connective_boolean q (settles_connective s) (K _ (Memᴰ.head refl))).0)
  first_order_inference (unit {l = l} {u = u} xs ys s q) K k z =
      let c = connective_boolean q (settles_connective s) (K _ (Memᴰ.head refl)) in
      inr (more ToBoolean c.0 (λ p m.
      let y = Memᴰ.of_map (assign u) (xs ++ ys) m in
      subst ToBoolean y.2 (c.1 y.0 (rest_in l xs ys y.1))))
  first_order_inference (evaluation q e) K k z =
      inr (λ p m. (connective_boolean q (evaluates_connective e) k).1 p.row (Memᴰ.map row_of m))
  first_order_inference (congruence q a b f r) K k z = inr (pointwise_boolean r K)
  first_order_inference (predicate {l} {p} a b f r) K k z =
      let free = free_head _ (subst (λ n. T (is_free (head_of n))) (sym b.headed) (free_test f)) in
      inr (more ToBoolean (free_sort W l p k (K _ (Memᴰ.head refl)) (a.headed ∙ sym b.headed) free ∙ z)
      (pointwise_boolean r (λ q m. K q (Memᴰ.tail m))))
  first_order_inference (read q p r) K k z = inr (none ToBoolean)
  first_order_inference (skip q p c o e) K k z = inr (one ToBoolean (equation_boolean e (K _ (Memᴰ.head refl))))
  first_order_inference (deep w c) K k z = inr (λ p m. comes_prop W (c p m) (walk_test w).0 k z)
