-- A rule's test passes exactly where the relation has an inference by that rule.
use mathlib.Core.Path.{◌≡◌, refl, sym, ap, subst, subst₂, ◌∙◌}
use mathlib.Core.Logic.{◌≢◌, ◌⊎◌, inl, inr}
use mathlib.Core.Bool.{Bool, not, ◌&&◌}
use mathlib.Core.List.Memᴰ
use mathlib.Core.List.{List, [], ◌∷◌, ◌++◌, map, Memᴰ}
use Prim.Native.Nat.{ℕ, suc, ◌+◌, ◌≤◌, ◌<◌}
use native.Mathlib.Omega.{arith}
use lib.ListN.{length, length-append, length-map}
use lib.Dec.{T, eqb, eqb→eq, eqb_refl}
use Rattle.calculus.specs.declared.Premise.{Premise}
use Rattle.calculus.specs.declared.Rule.{Rule}
use Rattle.calculus.specs.declared.Rule.TheVariants.{Same, Differ, Reflexivity, Symmetry, Transitivity, Negated, Part, Unit, Evaluation}
use Rattle.calculus.specs.declared.Rule.TheVariants.{Congruence, Predicate, Read, Skip, Deep, Unlisted}
use Rattle.calculus.specs.Lists.{all, has, eq_list}
use Rattle.calculus.specs.Sheets.{term_rows}
use Rattle.calculus.specs.Terms.{head, args, arg, head_of, eq_head, not_head, and_head, or_head, select_head, store_head}
use Rattle.calculus.specs.Terms as terms
use Rattle.calculus.specs.Rules.{row_of, value_of, gives, bare, single, double, leading, evaluates, others, unit_at, layers}
use Rattle.calculus.specs.Rules.{is_head, is_eq, equates, pairs, grounded, walk_value, comes_to, fits}
use Rattle.calculus.proofs.Facts.{eqb_of, neqb_of, and_l, and_r, and_both, or_cases, or_l, or_r, facts, all_at, all_of, has_at, has_of}
use Rattle.calculus.proofs.Forms.{args_short, unit_here, unit_none, unit_last, unit_front, connected}
use Rattle.figure.specs.Inferences.{assign, Applied, Equation, or_by_true, and_by_false, Pointwise, no_position, position}
use Rattle.figure.specs.Inferences.{Infers, same, differ, reflexivity, symmetry, transitivity, negated, part, unit, evaluation}
use Rattle.figure.specs.Inferences.{congruence, predicate, read, skip, deep}
use Rattle.calculus.proofs.WellSorted.{WellSorted}
use Rattle.calculus.proofs.Rows.{connective_row}
use Rattle.calculus.proofs.Deep.{evaluation_says}
use Rattle.figure.proofs.Rows.{eq_list_refl, column, function_head, free_head, function_test, free_test}
use Rattle.figure.proofs.Rows.{equation_row, select_row, store_row, not_row}
use Rattle.figure.proofs.Connectives.{opposite_of, opposite_sum, Small, evaluates_of, connective_has}
use Rattle.figure.proofs.Walks.{Truths, walk_test, comes_test, walk_is, comes_is}

-- ---- from a test on terms to the terms, and back

-- p is row a with value w
gives_is : (a w : ℕ) (p : Premise) → T (gives a w p) → p ≡ assign w a
gives_is a w p h =
    let e : p.row ≡ a = search facts in
    let f : p.value ≡ w = search facts in
    λ i. record { row = e i; value = f i }

gives_of : (a w : ℕ) → T (gives a w (assign w a))
gives_of a w = and_both (eqb a a) _ (eqb_refl a) (eqb_refl w)

others_is : (w : ℕ) (xs : List ℕ) (ps : List Premise) → T (others w xs ps) → ps ≡ map (assign w) xs
others_is w [] [] h = refl
others_is w [] (p ∷ ps) h = absurd h
others_is w (x ∷ xs) [] h = absurd h
others_is w (x ∷ xs) (p ∷ ps) h = λ i. gives_is x w p (and_l (gives x w p) _ h) i ∷ others_is w xs ps (and_r (gives x w p) _ h) i

others_of : (w : ℕ) (xs : List ℕ) → T (others w xs (map (assign w) xs))
others_of w [] = tt
others_of w (x ∷ xs) = and_both (gives x w (assign w x)) _ (gives_of x w) (others_of w xs)

-- the position that is left out
pub record Position (w l : ℕ) (bs : List ℕ) (ps : List Premise) : Type 0 where
  pub xs : List ℕ
  pub ys : List ℕ
  pub here : bs ≡ xs ++ (l ∷ ys)
  pub rest : ps ≡ map (assign w) (xs ++ ys)

unit_first : (w l a : ℕ) (bs : List ℕ) (ps : List Premise) → T (unit_here w l a bs ps) → Position w l (a ∷ bs) ps
unit_first w l a bs ps h =
    let e = eqb→eq a l (and_l (eqb a l) _ h) in
    record { xs = []; ys = bs; here = λ i. e i ∷ bs; rest = others_is w bs ps (and_r (eqb a l) _ h) }

unit_is : (w l : ℕ) (bs : List ℕ) (ps : List Premise) → T (unit_at w l bs ps) → Position w l bs ps
unit_is w l [] ps h = absurd (subst T (unit_none w l ps) h)
unit_is w l (a ∷ bs) [] h = unit_first w l a bs [] (subst T (unit_last w l a bs) h)
unit_is w l (a ∷ bs) (p ∷ ps) h =
    go (λ t. unit_is w l bs ps t) (or_cases (unit_here w l a bs (p ∷ ps)) _ (subst T (unit_front w l a bs p ps) h))
  where
    go : (T (unit_at w l bs ps) → Position w l bs ps) → T (unit_here w l a bs (p ∷ ps)) ⊎ T (gives a w p && unit_at w l bs ps) → Position w l (a ∷ bs) (p ∷ ps)
    go r (inl t) = unit_first w l a bs (p ∷ ps) t
    go r (inr t) =
        let q = r (and_r (gives a w p) _ t) in
        let g = gives_is a w p (and_l (gives a w p) _ t) in
        record { xs = a ∷ q.xs; ys = q.ys; here = λ i. a ∷ q.here i; rest = λ i. g i ∷ q.rest i }

unit_here_lem : (w l : ℕ) (ys : List ℕ) (ps : List Premise) → T (unit_here w l l ys ps) → T (unit_at w l (l ∷ ys) ps)
unit_here_lem w l ys [] h = subst T (sym (unit_last w l l ys)) h
unit_here_lem w l ys (p ∷ ps) h = subst T (sym (unit_front w l l ys p ps)) (or_l (unit_here w l l ys (p ∷ ps)) _ h)

unit_of : (w l : ℕ) (xs ys : List ℕ) → T (unit_at w l (xs ++ (l ∷ ys)) (map (assign w) (xs ++ ys)))
unit_of w l [] ys = unit_here_lem w l ys (map (assign w) ys) (and_both (eqb l l) _ (eqb_refl l) (others_of w ys))
unit_of w l (x ∷ xs) ys =
    let ps = map (assign w) (xs ++ ys) in
    subst T (sym (unit_front w l x (xs ++ (l ∷ ys)) (assign w x) ps))
    (or_r (unit_here w l x (xs ++ (l ∷ ys)) (assign w x ∷ ps)) _
    (and_both (gives x w (assign w x)) _ (gives_of x w) (unit_of w l xs ys)))

-- ---- terms by their columns

module _ {ts : List ℕ} where
  pub head_of_lem : {t h : ℕ} {xs : List ℕ} → Applied ts t h xs → T (is_head ts t h)
  head_of_lem a = eqb_of a.headed

  -- the columns of a term whose arguments are known
  pub column_0 : {t h a : ℕ} {xs : List ℕ} → Applied ts t h (a ∷ xs) → arg ts t 0 ≡ a
  column_0 {t} q = column ts t 0 q.arguments (omega arith)

  pub column_1 : {t h a b : ℕ} {xs : List ℕ} → Applied ts t h (a ∷ b ∷ xs) → arg ts t 1 ≡ b
  column_1 {t} q = column ts t 1 q.arguments (omega arith)

  column_2 : {t h a b c : ℕ} {xs : List ℕ} → Applied ts t h (a ∷ b ∷ c ∷ xs) → arg ts t 2 ≡ c
  column_2 {t} q = column ts t 2 q.arguments (omega arith)

  equation_test : {e a b : ℕ} → Equation ts e a b → T (is_eq ts e a b)
  equation_test {e} {a} {b} q = and_both (is_head ts e eq_head) _ (head_of_lem q) (and_both (eqb (arg ts e 0) a) _ (eqb_of (column_0 q)) (eqb_of (column_1 q)))

  equates_test : {e a b : ℕ} (w : ℕ) → Equation ts e a b → T (equates ts a b w (assign w e))
  equates_test {e} {a} {b} w q = and_both (is_eq ts e a b) _ (equation_test q) (eqb_refl w)

  -- the same with the sides known only up to an equation
  equates_ns : {e a b : ℕ} {c d : ℕ} (w : ℕ) → Equation ts e a b → c ≡ a → d ≡ b → T (equates ts c d w (assign w e))
  equates_ns {e} {a} {b} w q f g = subst₂ (λ x y. T (equates ts x y w (assign w e))) (sym f) (sym g) (equates_test w q)

  pairs_of : {xs ys : List ℕ} {ps : List Premise} → Pointwise ts xs ys ps → T (pairs ts xs ys ps)
  pairs_of no_position = tt
  pairs_of (position {e = e} {a = a} {b = b} q r) = and_both (equates ts a b 1 (assign 1 e)) _ (equates_test 1 q) (pairs_of r)

  -- ---- an inference passes its rule's test

  pub infers_fits : {r : Rule} {ps : List Premise} {l v : ℕ} → Infers ts r ps l v → T (fits ts r l v ps)
  unfolding fits bare single double leading
  infers_fits (same {l} {t} {u} {v} q) = and_both (is_eq ts l t u) _ (equation_test q) (and_both (eqb v v) _ (eqb_refl v) tt)
  infers_fits (differ {l} {t} {u} {v} {w} q n) = and_both (is_eq ts l t u) _ (equation_test q) (and_both (not (eqb v w)) _ (neqb_of n) tt)
  infers_fits (reflexivity {l} q) =
      and_both (is_head ts l eq_head) _ (head_of_lem q) (and_both (eqb (arg ts l 0) (arg ts l 1)) _ (eqb_of (column_0 q ∙ sym (column_1 q))) tt)
  infers_fits (symmetry {l} {e} p q) =
      and_both (is_head ts l eq_head) _ (head_of_lem q)
      (and_both (equates ts (arg ts l 1) (arg ts l 0) 1 (assign 1 e)) _ (equates_ns 1 p (column_1 q) (column_0 q)) tt)
  infers_fits (transitivity {l} {d} {e} p q r) =
      and_both (is_head ts l eq_head) _ (head_of_lem r)
      (and_both (equates ts (arg ts l 0) (arg ts d 1) 1 (assign 1 d)) _ (equates_ns 1 p (column_0 r) (column_1 p))
      (and_both (equates ts (arg ts d 1) (arg ts l 1) 1 (assign 1 e)) _ (equates_ns 1 q (column_1 p) (column_1 r)) tt))
  infers_fits (negated {l} {n} {v} {w} q o) =
      and_both (is_head ts n not_head) _ (head_of_lem q) (and_both (eqb (arg ts n 0) l) _ (eqb_of (column_0 q)) (eqb_of (opposite_sum o)))
  infers_fits (part {l} {c} or_by_true q m) =
      and_both (has (args ts c) l) _ (has_of (subst (Memᴰ l) (sym q.arguments) m))
      (or_l (connected ts or_head (assign 0 c) 0 0 0) _ (and_both (is_head ts c or_head) _ (head_of_lem q) tt))
  infers_fits (part {l} {c} and_by_false q m) =
      and_both (has (args ts c) l) _ (has_of (subst (Memᴰ l) (sym q.arguments) m))
      (or_r (connected ts or_head (assign 1 c) 0 1 0) _ (and_both (is_head ts c and_head) _ (head_of_lem q) tt))
  infers_fits (unit {l} {c} xs ys or_by_true q) =
      let ps = map (assign 0) (xs ++ ys) in
      or_l (connected ts or_head (assign 1 c) 1 1 1 && unit_at 0 l (args ts c) ps) _
      (and_both (connected ts or_head (assign 1 c) 1 1 1) _ (and_both (is_head ts c or_head) _ (head_of_lem q) tt)
      (subst (λ ns. T (unit_at 0 l ns ps)) (sym q.arguments) (unit_of 0 l xs ys)))
  infers_fits (unit {l} {c} xs ys and_by_false q) =
      let ps = map (assign 1) (xs ++ ys) in
      or_r (connected ts or_head (assign 0 c) 1 0 1 && unit_at 0 l (args ts c) ps) _
      (and_both (connected ts and_head (assign 0 c) 0 0 0) _ (and_both (is_head ts c and_head) _ (head_of_lem q) tt)
      (subst (λ ns. T (unit_at 1 l ns ps)) (sym q.arguments) (unit_of 1 l xs ys)))
  infers_fits (evaluation {l} {h} {v} {J = ps} q x) =
      and_both (eq_list (map row_of ps) (args ts l)) _ (subst (λ ns. T (eq_list (map row_of ps) ns)) (sym q.arguments) (eq_list_refl (map row_of ps)))
      (subst (λ k. T (evaluates k (map value_of ps) v)) (sym q.headed) (evaluates_of x))
  infers_fits (congruence {l} {f} {g} {h} {xs} {ys} {J = ps} q a b k r) =
      let e = column_0 q in
      let d = column_1 q in
      let s : head ts (arg ts l 0) ≡ h = ap (head ts) e ∙ a.headed in
      and_both (is_head ts l eq_head) _ (head_of_lem q)
      (and_both (eqb (head ts (arg ts l 0)) (head ts (arg ts l 1))) _ (eqb_of (s ∙ sym (ap (head ts) d ∙ b.headed)))
      (and_both (terms.is_function (head_of (head ts (arg ts l 0)))) _ (subst (λ n. T (terms.is_function (head_of n))) (sym s) (function_test k))
      (and_both (pairs ts (args ts (arg ts l 0)) (args ts (arg ts l 1)) ps) _
      (subst₂ (λ ns bs. T (pairs ts ns bs ps)) (sym (ap (args ts) e ∙ a.arguments)) (sym (ap (args ts) d ∙ b.arguments)) (pairs_of r)) tt)))
  infers_fits (predicate {l} {p} {h} {v} {xs} {ys} {J = ps} a b k r) =
      and_both (terms.is_free (head_of (head ts l))) _ (subst (λ n. T (terms.is_free (head_of n))) (sym b.headed) (free_test k))
      (and_both (eqb (head ts p) (head ts l)) _ (eqb_of (a.headed ∙ sym b.headed))
      (and_both (eqb v v) _ (eqb_refl v)
      (subst₂ (λ ns bs. T (pairs ts ns bs ps)) (sym a.arguments) (sym b.arguments) (pairs_of r))))
  infers_fits (read {l} {s} {b} {a} {i} {x} q p r) =
      let e = column_0 q in
      let d : arg ts (arg ts l 0) 0 ≡ b = ap (λ t. arg ts t 0) e ∙ column_0 p in
      and_both (is_head ts l eq_head) _ (head_of_lem q)
      (and_both (is_head ts (arg ts l 0) select_head) _ (eqb_of (ap (head ts) e ∙ p.headed))
      (and_both (is_head ts (arg ts (arg ts l 0) 0) store_head) _ (eqb_of (ap (head ts) d ∙ r.headed))
      (and_both (eqb (arg ts (arg ts l 0) 1) (arg ts (arg ts (arg ts l 0) 0) 1)) _
      (eqb_of (ap (λ t. arg ts t 1) e ∙ column_1 p ∙ sym (ap (λ t. arg ts t 1) d ∙ column_1 r)))
      (and_both (eqb (arg ts l 1) (arg ts (arg ts (arg ts l 0) 0) 2)) _ (eqb_of (column_1 q ∙ sym (ap (λ t. arg ts t 2) d ∙ column_2 r))) tt))))
  infers_fits (skip {l} {e} {s} {r} {b} {a} {i} {j} {x} q p c o z) =
      let es = column_0 q in
      let er = column_1 q in
      let d : arg ts (arg ts l 0) 0 ≡ b = ap (λ t. arg ts t 0) es ∙ column_0 p in
      let ej : arg ts (arg ts l 0) 1 ≡ j = ap (λ t. arg ts t 1) es ∙ column_1 p in
      and_both (is_head ts l eq_head) _ (head_of_lem q)
      (and_both (is_head ts (arg ts l 0) select_head) _ (eqb_of (ap (head ts) es ∙ p.headed))
      (and_both (is_head ts (arg ts l 1) select_head) _ (eqb_of (ap (head ts) er ∙ o.headed))
      (and_both (is_head ts (arg ts (arg ts l 0) 0) store_head) _ (eqb_of (ap (head ts) d ∙ c.headed))
      (and_both (eqb (arg ts (arg ts l 1) 0) (arg ts (arg ts (arg ts l 0) 0) 0)) _
      (eqb_of (ap (λ t. arg ts t 0) er ∙ column_0 o ∙ sym (ap (λ t. arg ts t 0) d ∙ column_0 c)))
      (and_both (eqb (arg ts (arg ts l 1) 1) (arg ts (arg ts l 0) 1)) _ (eqb_of (ap (λ t. arg ts t 1) er ∙ column_1 o ∙ sym ej))
      (and_both (equates ts (arg ts (arg ts (arg ts l 0) 0) 1) (arg ts (arg ts l 0) 1) 0 (assign 0 e)) _
      (equates_ns 0 z (ap (λ t. arg ts t 1) d ∙ column_1 c) ej) tt))))))
  infers_fits (deep {l} {v} {J = ps} w c) =
      let g = walk_test w in
      let met : Premise → Bool = λ p. comes_to ts ps layers p.row l in
      and_both (grounded ts ps layers l) _ g.0 (and_both (all met ps) _ (all_of met ps (λ p m. comes_test (c p m))) (eqb_of (sym g.1)))

-- ---- how many premises there are

with_none : (P : List Premise → Type 0) (ps : List Premise) (b : Bool) → T (bare ps b) → (T b → P []) → P ps
unfolding bare
with_none P [] b h f = f h
with_none P (p ∷ ps) b h f = absurd h

with_one : (P : List Premise → Type 0) (ps : List Premise) (g : Premise → Bool) → T (single ps g) → ((p : Premise) → T (g p) → P (p ∷ [])) → P ps
unfolding single
with_one P [] g h f = absurd h
with_one P (p ∷ []) g h f = f p h
with_one P (p ∷ q ∷ ps) g h f = absurd h

with_two : (P : List Premise → Type 0) (ps : List Premise) (g : Premise → Premise → Bool) → T (double ps g)
    → ((p q : Premise) → T (g p q) → P (p ∷ q ∷ [])) → P ps
unfolding double
with_two P [] g h f = absurd h
with_two P (p ∷ []) g h f = absurd h
with_two P (p ∷ q ∷ []) g h f = f p q h
with_two P (p ∷ q ∷ r ∷ ps) g h f = absurd h

with_first : (P : List Premise → Type 0) (ps : List Premise) (g : Premise → List Premise → Bool) → T (leading ps g)
    → ((p : Premise) (K : List Premise) → T (g p K) → P (p ∷ K)) → P ps
unfolding leading
with_first P [] g h f = absurd h
with_first P (p ∷ ps) g h f = f p ps h

-- ---- a rule's test that passes is an inference

-- the premises are rows of the sheet
abbrev pub Known : List ℕ → List Premise → Type 0
Known ts ps = (p : Premise) → Memᴰ p ps → p.row < term_rows ts

module _ {ts : List ℕ} where
  pub into : {r : Rule} {ps K : List Premise} {l v w : ℕ} → ps ≡ K → v ≡ w → Infers ts r K l w → Infers ts r ps l v
  into {r} {l = l} e f i = subst₂ (λ ps v. Infers ts r ps l v) (sym e) (sym f) i

  pub retarget : {t h : ℕ} {xs ys : List ℕ} → Applied ts t h xs → xs ≡ ys → Applied ts t h ys
  retarget a e = record { headed = a.headed; arguments = a.arguments ∙ e }

  pub as_is : {t h : ℕ} → head ts t ≡ h → Applied ts t h (args ts t)
  as_is e = record { headed = e; arguments = refl }

module _ {ss ts : List ℕ} (W : WellSorted ss ts) where
  equation_from : (t a b : ℕ) → t < term_rows ts → head ts t ≡ eq_head → arg ts t 0 ≡ a → arg ts t 1 ≡ b → Equation ts t a b
  equation_from t a b l e f g = retarget (equation_row W t l e).shape (λ i. f i ∷ g i ∷ [])

  pairs_is : (xs ys : List ℕ) (ps : List Premise) → Known ts ps → T (pairs ts xs ys ps) → Pointwise ts xs ys ps
  pairs_is [] [] [] K h = no_position
  pairs_is [] [] (p ∷ ps) K h = absurd h
  pairs_is [] (y ∷ ys) ps K h = absurd h
  pairs_is (x ∷ xs) [] ps K h = absurd h
  pairs_is (x ∷ xs) (y ∷ ys) [] K h = absurd h
  pairs_is (x ∷ xs) (y ∷ ys) (p ∷ ps) K h =
      let a : T (equates ts x y 1 p) = and_l (equates ts x y 1 p) _ h in
      let e : head ts p.row ≡ eq_head = search facts in
      let f : arg ts p.row 0 ≡ x = search facts in
      let g : arg ts p.row 1 ≡ y = search facts in
      let w : p.value ≡ 1 = search facts in
      subst (λ v. Pointwise ts (x ∷ xs) (y ∷ ys) (assign v p.row ∷ ps)) (sym w)
      (position (equation_from p.row x y (K p (Memᴰ.head refl)) e f g)
      (pairs_is xs ys ps (λ q m. K q (Memᴰ.tail m)) (and_r (equates ts x y 1 p) _ h)))

  module _ (l v : ℕ) (k : l < term_rows ts) where
    abbrev Given : Rule → List Premise → Type 0
    Given r ps = Known ts ps → Truths ts ps → Infers ts r ps l v

    same_is : (ps : List Premise) → T (fits ts Same l v ps) → Given Same ps
    unfolding fits
    same_is ps h =
        with_two (Given Same) ps _ h (λ p q t K N.
        let e : head ts l ≡ eq_head = search facts in
        let a : arg ts l 0 ≡ p.row = search facts in
        let b : arg ts l 1 ≡ q.row = search facts in
        let w : p.value ≡ q.value = search facts in
        let f : v ≡ 1 = search facts in
        into (λ i. p ∷ assign (sym w i) q.row ∷ []) f (same (equation_from l _ _ k e a b)))

    differ_is : (ps : List Premise) → T (fits ts Differ l v ps) → Given Differ ps
    unfolding fits
    differ_is ps h =
        with_two (Given Differ) ps _ h (λ p q t K N.
        let e : head ts l ≡ eq_head = search facts in
        let a : arg ts l 0 ≡ p.row = search facts in
        let b : arg ts l 1 ≡ q.row = search facts in
        let w : p.value ≢ q.value = search facts in
        let f : v ≡ 0 = search facts in
        into refl f (differ (equation_from l _ _ k e a b) w))

    reflexivity_is : (ps : List Premise) → T (fits ts Reflexivity l v ps) → Given Reflexivity ps
    unfolding fits
    reflexivity_is ps h =
        with_none (Given Reflexivity) ps _ h (λ t K N.
        let e : head ts l ≡ eq_head = search facts in
        let a : arg ts l 0 ≡ arg ts l 1 = search facts in
        let f : v ≡ 1 = search facts in
        into refl f (reflexivity (equation_from l (arg ts l 0) (arg ts l 0) k e refl (sym a))))

    symmetry_is : (ps : List Premise) → T (fits ts Symmetry l v ps) → Given Symmetry ps
    unfolding fits
    symmetry_is ps h =
        with_one (Given Symmetry) ps _ h (λ p t K N.
        let e : head ts l ≡ eq_head = search facts in
        let d : head ts p.row ≡ eq_head = search facts in
        let a : arg ts p.row 0 ≡ arg ts l 1 = search facts in
        let b : arg ts p.row 1 ≡ arg ts l 0 = search facts in
        let w : p.value ≡ 1 = search facts in
        let f : v ≡ 1 = search facts in
        into (λ i. assign (w i) p.row ∷ []) f
        (symmetry (equation_from p.row _ _ (K p (Memᴰ.head refl)) d a b) (equation_from l _ _ k e refl refl)))

    transitivity_is : (ps : List Premise) → T (fits ts Transitivity l v ps) → Given Transitivity ps
    unfolding fits
    transitivity_is ps h =
        with_two (Given Transitivity) ps _ h (λ p q t K N.
        let e : head ts l ≡ eq_head = search facts in
        let d : head ts p.row ≡ eq_head = search facts depth 8 in
        let c : head ts q.row ≡ eq_head = search facts depth 8 in
        let a : arg ts p.row 0 ≡ arg ts l 0 = search facts depth 8 in
        let b : arg ts q.row 0 ≡ arg ts p.row 1 = search facts depth 8 in
        let g : arg ts q.row 1 ≡ arg ts l 1 = search facts depth 8 in
        let w : p.value ≡ 1 = search facts depth 8 in
        let z : q.value ≡ 1 = search facts depth 8 in
        let f : v ≡ 1 = search facts depth 8 in
        into (λ i. assign (w i) p.row ∷ assign (z i) q.row ∷ []) f
        (transitivity
        (equation_from p.row (arg ts l 0) (arg ts p.row 1) (K p (Memᴰ.head refl)) d a refl)
        (equation_from q.row (arg ts p.row 1) (arg ts l 1) (K q (Memᴰ.tail (Memᴰ.head refl))) c b g)
        (equation_from l _ _ k e refl refl)))

    negated_is : (ps : List Premise) → T (fits ts Negated l v ps) → Given Negated ps
    unfolding fits
    negated_is ps h =
        with_one (Given Negated) ps _ h (λ p t K N.
        let e : head ts p.row ≡ not_head = search facts in
        let a : arg ts p.row 0 ≡ l = search facts in
        let s : p.value + v ≡ 1 = search facts in
        negated (retarget (not_row W p.row (K p (Memᴰ.head refl)) e) (λ i. a i ∷ [])) (opposite_of p.value v s))

    part_is : (ps : List Premise) → T (fits ts Part l v ps) → Given Part ps
    unfolding fits
    part_is ps h =
        with_one (Given Part) ps _ h (λ p t K N.
        go p (has_at (args ts p.row) (and_l (has (args ts p.row) l) _ t))
        (or_cases (connected ts or_head p 0 v 0) _ (and_r (has (args ts p.row) l) _ t)))
      where
        go : (p : Premise) → Memᴰ l (args ts p.row) → T (connected ts or_head p 0 v 0) ⊎ T (connected ts and_head p 1 v 1) → Infers ts Part (p ∷ []) l v
        go p m (inl t) =
            let e : head ts p.row ≡ or_head = search facts in
            let w : p.value ≡ 0 = search facts in
            let f : v ≡ 0 = search facts in
            into (λ i. assign (w i) p.row ∷ []) f (part or_by_true (as_is e) m)
        go p m (inr t) =
            let e : head ts p.row ≡ and_head = search facts in
            let w : p.value ≡ 1 = search facts in
            let f : v ≡ 1 = search facts in
            into (λ i. assign (w i) p.row ∷ []) f (part and_by_false (as_is e) m)

    unit_rule_is : (ps : List Premise) → T (fits ts Unit l v ps) → Given Unit ps
    unfolding fits
    unit_rule_is ps h =
        with_first (Given Unit) ps _ h (λ p M t K N.
        go p M (or_cases (connected ts or_head p 1 v 1 && unit_at 0 l (args ts p.row) M) _ t))
      where
        go : (p : Premise) (M : List Premise)
            → T (connected ts or_head p 1 v 1 && unit_at 0 l (args ts p.row) M) ⊎ T (connected ts and_head p 0 v 0 && unit_at 1 l (args ts p.row) M)
            → Infers ts Unit (p ∷ M) l v
        go p M (inl t) =
            let e : head ts p.row ≡ or_head = search facts in
            let w : p.value ≡ 1 = search facts in
            let f : v ≡ 1 = search facts in
            let x = unit_is 0 l (args ts p.row) M (and_r (connected ts or_head p 1 v 1) _ t) in
            into (λ i. assign (w i) p.row ∷ x.rest i) f (unit x.xs x.ys or_by_true (record { headed = e; arguments = x.here }))
        go p M (inr t) =
            let e : head ts p.row ≡ and_head = search facts in
            let w : p.value ≡ 0 = search facts in
            let f : v ≡ 0 = search facts in
            let x = unit_is 1 l (args ts p.row) M (and_r (connected ts and_head p 0 v 0) _ t) in
            into (λ i. assign (w i) p.row ∷ x.rest i) f (unit x.xs x.ys and_by_false (record { headed = e; arguments = x.here }))

    evaluation_is : (ps : List Premise) → T (fits ts Evaluation l v ps) → Given Evaluation ps
    evaluation_is ps h K N =
        let q = evaluation_says ts l v ps h in
        let props = (connective_row W l k q.1).arguments in
        let small : Small (map value_of ps) = λ x m.
        let r = Memᴰ.of_map value_of ps m in
        subst (λ y. y ≤ 1) r.2 (N r.0 r.1 (props r.0.row (subst (Memᴰ r.0.row) q.0 (Memᴰ.map row_of r.1)))) in
        let n : length (map value_of ps) ≡ length (args ts l) = length-map ps value_of ∙ sym (length-map ps row_of) ∙ ap length q.0 in
        into refl q.2 (evaluation (record { headed = refl; arguments = sym q.0 }) (connective_has W l k q.1 (map value_of ps) n small))

    congruence_is : (ps : List Premise) → T (fits ts Congruence l v ps) → Given Congruence ps
    unfolding fits
    congruence_is ps h K N =
        let e : head ts l ≡ eq_head = search facts in
        let s : head ts (arg ts l 0) ≡ head ts (arg ts l 1) = search facts in
        let n : T (terms.is_function (head_of (head ts (arg ts l 0)))) = search facts in
        let t : T (pairs ts (args ts (arg ts l 0)) (args ts (arg ts l 1)) ps) = search facts in
        let f : v ≡ 1 = search facts depth 8 in
        let r = equation_row W l k e in
        into refl f
        (congruence r.shape (as_is refl) (as_is (sym s)) (function_head _ n) (pairs_is _ _ ps K t))

    predicate_is : (ps : List Premise) → T (fits ts Predicate l v ps) → Given Predicate ps
    unfolding fits
    predicate_is ps h =
        with_first (Given Predicate) ps _ h (λ p M t K N.
        let n : T (terms.is_free (head_of (head ts l))) = search facts in
        let e : head ts p.row ≡ head ts l = search facts in
        let w : p.value ≡ v = search facts in
        let u : T (pairs ts (args ts p.row) (args ts l) M) = search facts in
        into (λ i. assign (w i) p.row ∷ M) refl
        (predicate (as_is e) (as_is refl) (free_head _ n) (pairs_is _ _ M (λ q m. K q (Memᴰ.tail m)) u)))

    read_is : (ps : List Premise) → T (fits ts Read l v ps) → Given Read ps
    unfolding fits
    read_is ps h =
        with_none (Given Read) ps _ h (λ t K N.
        let e : head ts l ≡ eq_head = search facts in
        let d : head ts (arg ts l 0) ≡ select_head = search facts in
        let c : head ts (arg ts (arg ts l 0) 0) ≡ store_head = search facts in
        let g : arg ts (arg ts l 0) 1 ≡ arg ts (arg ts (arg ts l 0) 0) 1 = search facts depth 8 in
        let x : arg ts l 1 ≡ arg ts (arg ts (arg ts l 0) 0) 2 = search facts depth 8 in
        let f : v ≡ 1 = search facts depth 8 in
        let r = equation_row W l k e in
        let s = select_row W (arg ts l 0) r.first d in
        into refl f
        (read (retarget r.shape (λ i. arg ts l 0 ∷ x i ∷ [])) (retarget s.shape (λ i. arg ts (arg ts l 0) 0 ∷ g i ∷ [])) (store_row W _ s.first c)))

    skip_is : (ps : List Premise) → T (fits ts Skip l v ps) → Given Skip ps
    unfolding fits
    skip_is ps h =
        with_one (Given Skip) ps _ h (λ p t K N.
        let sel = arg ts l 0 in
        let sto = arg ts sel 0 in
        let rhs = arg ts l 1 in
        let e : head ts l ≡ eq_head = search facts depth 12 in
        let d : head ts sel ≡ select_head = search facts depth 12 in
        let o : head ts rhs ≡ select_head = search facts depth 12 in
        let c : head ts sto ≡ store_head = search facts depth 12 in
        let a : arg ts rhs 0 ≡ arg ts sto 0 = search facts depth 12 in
        let j : arg ts rhs 1 ≡ arg ts sel 1 = search facts depth 12 in
        let ep : head ts p.row ≡ eq_head = search facts depth 12 in
        let ip : arg ts p.row 0 ≡ arg ts sto 1 = search facts depth 12 in
        let jp : arg ts p.row 1 ≡ arg ts sel 1 = search facts depth 12 in
        let w : p.value ≡ 0 = search facts depth 12 in
        let f : v ≡ 1 = search facts depth 12 in
        let r = equation_row W l k e in
        let s = select_row W sel r.first d in
        into (λ i. assign (w i) p.row ∷ []) f
        (skip r.shape s.shape (store_row W _ s.first c) (retarget (select_row W rhs r.second o).shape (λ i. a i ∷ j i ∷ []))
        (equation_from p.row _ _ (K p (Memᴰ.head refl)) ep ip jp)))

    deep_is : (ps : List Premise) → T (fits ts Deep l v ps) → Given Deep ps
    unfolding fits
    deep_is ps h K N =
        let met : Premise → Bool = λ p. comes_to ts ps layers p.row l in
        let c : T (all met ps) = search facts in
        let x : v ≡ walk_value ts ps layers l = search facts in
        into refl x
        (deep (walk_is W ps N layers l k (and_l (grounded ts ps layers l) _ h)) (λ p m. comes_is ts ps layers p.row l (all_at met ps c m)))

    pub fits_infers : (r : Rule) (ps : List Premise) → T (fits ts r l v ps) → Given r ps
    unfolding fits
    fits_infers Same ps h = same_is ps h
    fits_infers Differ ps h = differ_is ps h
    fits_infers Reflexivity ps h = reflexivity_is ps h
    fits_infers Symmetry ps h = symmetry_is ps h
    fits_infers Transitivity ps h = transitivity_is ps h
    fits_infers Negated ps h = negated_is ps h
    fits_infers Part ps h = part_is ps h
    fits_infers Unit ps h = unit_rule_is ps h
    fits_infers Evaluation ps h = evaluation_is ps h
    fits_infers Congruence ps h = congruence_is ps h
    fits_infers Predicate ps h = predicate_is ps h
    fits_infers Read ps h = read_is ps h
    fits_infers Skip ps h = skip_is ps h
    fits_infers Deep ps h = deep_is ps h
    fits_infers Unlisted ps h = absurd h

-- an inference is by a listed rule
pub infers_listed : {ts : List ℕ} {r : Rule} {J : List Premise} {l v : ℕ} → Infers ts r J l v → r ≢ Unlisted
unfolding fits
infers_listed {ts} {r} {J = ps} {l} {v} i e = subst (λ (k : Rule). T (fits ts k l v ps)) e (infers_fits i)

-- ---- no inference has more than five premises, but by deep

pointwise_length : {ts xs ys : List ℕ} {J : List Premise} → Pointwise ts xs ys J → length J ≡ length xs
pointwise_length no_position = refl
pointwise_length (position q r) = ap suc (pointwise_length r)

args_length : {ts : List ℕ} {t h : ℕ} {xs : List ℕ} → Applied ts t h xs → length xs ≤ 4
args_length {ts} {t} q = subst (λ l. length l ≤ 4) q.arguments (args_short ts t)

pub infers_short : {ts : List ℕ} {r : Rule} {J : List Premise} {l v : ℕ} → Infers ts r J l v → (r ≡ Deep → length J ≤ 5) → length J ≤ 5
infers_short (same q) f = omega arith
infers_short (differ q n) f = omega arith
infers_short (reflexivity q) f = omega arith
infers_short (symmetry p q) f = omega arith
infers_short (transitivity p q r) f = omega arith
infers_short (negated q o) f = omega arith
infers_short (part s q m) f = omega arith
infers_short (unit {l} {u = u} xs ys s q) f =
    let a = args_length q in
    let b = length-append xs (l ∷ ys) in
    let c = length-append xs ys in
    let d = length-map (xs ++ ys) (assign u) in
    omega arith
infers_short (evaluation {J = ps} q x) f = let a = args_length q in let b = length-map ps row_of in omega arith
infers_short (congruence q a b k r) f = let c = args_length a in let d = pointwise_length r in omega arith
infers_short (predicate a b k r) f = let c = args_length a in let d = pointwise_length r in omega arith
infers_short (read q p r) f = omega arith
infers_short (skip q p c o z) f = omega arith
infers_short (deep w c) f = f refl
