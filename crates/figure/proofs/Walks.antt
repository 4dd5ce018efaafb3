-- The walk of deep by the definitions is the relation's.
use mathlib.Core.Path.{◌≡◌, refl, sym, subst, ◌∙◌}
use mathlib.Core.Logic.{◌⊎◌, inl, inr}
use mathlib.Core.Bool.{false, not, ◌&&◌}
use mathlib.Core.List.Memᴰ
use mathlib.Core.List.{List, [], ◌∷◌, map, Memᴰ}
use Prim.Native.Nat.{ℕ, zero, suc, ◌≤◌, ◌<◌}
use native.Mathlib.Omega.{arith}
use lib.ListN.{length-map}
use lib.Dec.{T, eqb, eqb→eq, eqb_refl, not_T, T_not}
use Rattle.calculus.specs.declared.Premise.{Premise}
use Rattle.calculus.specs.Lists.{all, any, num}
use Rattle.calculus.specs.Sheets.{term_rows}
use Rattle.calculus.specs.Terms.{head, sort, args}
use Rattle.calculus.specs.Rules.{evaluates, is_premise, premise_value, is_connective, grounded, walk_value, comes_to}
use Rattle.calculus.proofs.Facts.{num_le, and_l, and_r, and_both, or_cases, or_l, or_r, neqb_of, neq, T_true, T_false, true_T, false_T, cond_case}
use Rattle.calculus.proofs.Facts.{all_at, any_at, any_of}
use Rattle.calculus.proofs.WellSorted.{WellSorted, row_args}
use Rattle.calculus.proofs.Rows.{connective_row}
use Rattle.calculus.proofs.Deep.{premise_here, premise_in, grounded_here, value_here, comes_here, evaluates_once}
use Rattle.figure.specs.Inferences.{FirstOn, itself, further, NoneOn, Walk, at_premise, at_connective, Walks, no_argument, one_argument}
use Rattle.figure.specs.Inferences.{ComesTo, arrived, onward}
use Rattle.figure.proofs.Connectives.{Small, evaluates_of, connective_has}

-- ---- premises by their row

first_test : {J : List Premise} {t v : ℕ} → FirstOn J t v → T (is_premise J t) × (premise_value J t ≡ v)
first_test (itself {t = t}) = let e = eqb_refl t in (or_l (eqb t t) _ e, rw (T_true (eqb t t) e))
first_test (further {p = p} {t = t} n r) =
    let q = first_test r in
    (or_r (eqb p.row t) _ q.0, rw (T_false (eqb p.row t) (neqb_of n)) q.1)

first_is : (J : List Premise) (t : ℕ) → T (is_premise J t) → FirstOn J t (premise_value J t)
first_is [] t h = absurd h
first_is (p ∷ J) t h =
    cond_case (FirstOn (p ∷ J) t) (eqb p.row t) p.value (premise_value J t)
    (λ e. subst (λ u. FirstOn (p ∷ J) u p.value) (eqb→eq _ _ (true_T _ e)) itself)
    (λ e. further (neq _ _ (false_T _ e)) (first_is J t (rw e at h)))

none_test : {J : List Premise} {t : ℕ} → NoneOn J t → T (not (is_premise J t))
none_test {J} {t} f =
    not_T (is_premise J t) (λ h. let y = any_at (λ (p : Premise). eqb p.row t) J h in f y.0 y.1 (eqb→eq _ _ y.2))

none_is : (J : List Premise) (t : ℕ) → T (not (is_premise J t)) → NoneOn J t
none_is J t h p m q = T_not (is_premise J t) h (subst (λ u. T (is_premise J u)) q (premise_here J p m))

-- ---- from the relation to the tests

mutual
  unfolding grounded walk_value

  pub walk_test : {ts : List ℕ} {J : List Premise} {n t v : ℕ} → Walk ts J n t v → T (grounded ts J n t) × (walk_value ts J n t ≡ v)
  walk_test {ts} {J} (at_premise {n = n} {t = t} f) =
      let q = first_test f in
      (grounded_here ts J n t q.0, value_here ts J n t q.0 ∙ q.1)
  walk_test {ts} {J} (at_connective {n = n} {t = t} {h = h} {v = v} {vs = vs} o a w x) =
      let r = walks_test w in
      let y = evaluates_once h vs v (evaluates_of x) in
      let q : is_premise J t ≡ false = T_false _ (none_test o) in (
        or_r (is_premise J t) _
            (and_both (is_connective (head ts t)) _ (subst (λ k. T (is_connective k)) (sym a.headed) y.0)
            (subst (λ ys. T (all (grounded ts J n) ys)) (sym a.arguments) r.0)),
        rw q ((λ i. num (evaluates (a.headed i) (map (walk_value ts J n) (a.arguments i)) 1)) ∙ (λ i. num (evaluates h (r.1 i) 1)) ∙ sym y.1),
      )

  walks_test : {ts : List ℕ} {J : List Premise} {n : ℕ} {xs vs : List ℕ} → Walks ts J n xs vs
      → T (all (grounded ts J n) xs) × (map (walk_value ts J n) xs ≡ vs)
  walks_test no_argument = (tt, refl)
  walks_test {ts} {J} (one_argument {n = n} {t = t} w r) =
      let a = walk_test w in
      let b = walks_test r in
      (and_both (grounded ts J n t) _ a.0 b.0, λ i. a.1 i ∷ b.1 i)

pub comes_test : {ts : List ℕ} {J : List Premise} {n u t : ℕ} → ComesTo ts J n u t → T (comes_to ts J n u t)
unfolding comes_to
comes_test {ts} {J} (arrived {n = n} {t = t}) = comes_here ts J n t
comes_test {ts} {J} (onward {n = n} {u = u} {t = t} o m r) =
    or_r (eqb t u) _ (and_both (not (is_premise J t)) _ (none_test o) (any_of (comes_to ts J n u) m (comes_test r)))

-- ---- from the tests to the relation

module _ (ts : List ℕ) (J : List Premise) where
  arrived_at : (n u t : ℕ) → T (eqb t u) → ComesTo ts J n u t
  arrived_at n u t e = subst (λ w. ComesTo ts J n w t) (eqb→eq t u e) arrived

  pub comes_is : (n u t : ℕ) → T (comes_to ts J n u t) → ComesTo ts J n u t
  unfolding comes_to
  comes_is zero u t h = arrived_at zero u t h
  comes_is (suc n) u t h = go (comes_is n u) (or_cases (eqb t u) _ h)
    where
      go : ((x : ℕ) → T (comes_to ts J n u x) → ComesTo ts J n u x)
          → T (eqb t u) ⊎ T (not (is_premise J t) && any (comes_to ts J n u) (args ts t)) → ComesTo ts J (suc n) u t
      go f (inl e) = arrived_at (suc n) u t e
      go f (inr q) =
          let y = any_at (comes_to ts J n u) (args ts t) (and_r (not (is_premise J t)) _ q) in
          onward (none_is J t (and_l (not (is_premise J t)) _ q)) y.1 (f y.0 y.2)

-- a prop among the assignments has a truth value
abbrev pub Truths : List ℕ → List Premise → Type 0
Truths ts J = (p : Premise) → Memᴰ p J → sort ts p.row ≡ 0 → p.value ≤ 1

-- the walk down from a prop comes to props only
pub comes_prop : {ss ts : List ℕ} → WellSorted ss ts → {J : List Premise} {n u t : ℕ} → ComesTo ts J n u t → T (grounded ts J n t) → t < term_rows ts
    → sort ts t ≡ 0 → sort ts u ≡ 0
unfolding grounded
comes_prop W arrived h l z = z
comes_prop {ts = ts} W {J} (onward {n = n} {t = t} {x = x} o m c) h l z =
    let r : T (is_connective (head ts t) && all (grounded ts J n) (args ts t)) = rw (T_false (is_premise J t) (none_test o)) at h in
    let q : x < t = row_args W t l x m in
    comes_prop W c (all_at (grounded ts J n) (args ts t) (and_r (is_connective (head ts t)) _ r) m) (omega arith)
    ((connective_row W t l (and_l (is_connective (head ts t)) _ r)).arguments x m)

module _ {ss ts : List ℕ} (W : WellSorted ss ts) (J : List Premise) (N : Truths ts J) where
  -- the walk gives a prop a truth value
  walk_small : (n t : ℕ) → sort ts t ≡ 0 → T (grounded ts J n t) → walk_value ts J n t ≤ 1
  unfolding grounded walk_value
  walk_small zero t z h = N _ (premise_in J t h) z
  walk_small (suc n) t z h =
      cond_case (λ v. v ≤ 1) (is_premise J t) _ _ (λ e. N _ (premise_in J t (true_T _ e)) z)
      (λ e. num_le (evaluates (head ts t) (map (walk_value ts J n) (args ts t)) 1))

  walks_is : (n : ℕ) (xs : List ℕ) → ((x : ℕ) → Memᴰ x xs → Walk ts J n x (walk_value ts J n x)) → Walks ts J n xs (map (walk_value ts J n) xs)
  walks_is n [] f = no_argument
  walks_is n (x ∷ xs) f = one_argument (f x (Memᴰ.head refl)) (walks_is n xs (λ y m. f y (Memᴰ.tail m)))

  pub walk_is : (n t : ℕ) → t < term_rows ts → T (grounded ts J n t) → Walk ts J n t (walk_value ts J n t)
  unfolding grounded walk_value
  walk_is zero t l h = at_premise (first_is J t h)
  walk_is (suc n) t l h =
      cond_case (Walk ts J (suc n) t) (is_premise J t) _ _ (λ e. at_premise (first_is J t (true_T _ e))) (λ e.
      let xs = args ts t in
      let value = walk_value ts J n in
      let r : T (is_connective (head ts t) && all (grounded ts J n) xs) = rw e at h in
      let c = and_l (is_connective (head ts t)) _ r in
      let down : (x : ℕ) → Memᴰ x xs → T (grounded ts J n x) = λ x m. all_at (grounded ts J n) xs (and_r (is_connective (head ts t)) _ r) m in
      let small : Small (map value xs) = λ v m.
      let y = Memᴰ.of_map value xs m in
      subst (λ w. w ≤ 1) y.2 (walk_small n y.0 ((connective_row W t l c).arguments y.0 y.1) (down y.0 y.1)) in
      at_connective (none_is J t (false_T _ e)) (record { headed = refl; arguments = refl })
      (walks_is n xs (λ x m. let q : x < t = row_args W t l x m in walk_is n x (omega arith) (down x m)))
      (connective_has W t l c (map value xs) (length-map xs value) small))
