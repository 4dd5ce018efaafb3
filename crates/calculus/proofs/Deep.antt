-- The walk of deep: its laws at a premise, and that deep allows with the same value all that eval allows.
use mathlib.Core.Path.{◌≡◌, refl, sym, ap, subst, ◌∙◌}
use mathlib.Core.Bool.{Bool, true, false, not, ◌&&◌, ◌||◌, cond}
use mathlib.Core.List.Memᴰ
use mathlib.Core.List.{List, [], ◌∷◌, map, Memᴰ}
use Prim.Native.Nat.{ℕ, zero, suc, ◌-◌, ◌<◌}
use native.Mathlib.Omega.{arith}
use lib.Dec.{T, eqb, eqb→eq, eqb_refl, not_T}
use Rattle.calculus.specs.declared.Premise.{Premise}
use Rattle.calculus.specs.declared.Rule.TheVariants.{Evaluation, Deep}
use Rattle.calculus.specs.Lists.{all, eq_list, num}
use Rattle.calculus.specs.Sheets.{term_rows}
use Rattle.calculus.specs.Terms.{head, args, not_head, and_head, or_head}
use Rattle.calculus.specs.Trail.{Trail, value_at, premises_at}
use Rattle.calculus.specs.Rules.{row_of, value_of, not_of, and_of, or_of, evaluates, layers, is_premise, premise_value}
use Rattle.calculus.specs.Rules.{is_connective, grounded, walk_value, comes_to, fits, rule_of}
use Rattle.calculus.specs.Steps.{inference_refusal}
use Rattle.calculus.proofs.Facts.{and_l, and_r, and_both, or_l, or_r, eqb_of, T_true, T_false, true_T, all_of, any_at, any_of, unless_yes, unless_ok}
use Rattle.calculus.proofs.Forms.{connective_case}
use Rattle.calculus.proofs.WellSorted.{eq_list_eq, WellSorted, row_args}

-- ---- premises by their row

pub premise_here : (ps : List Premise) (p : Premise) → Memᴰ p ps → T (is_premise ps p.row)
premise_here ps p m = any_of (λ (q : Premise). eqb q.row p.row) m (eqb_refl p.row)

-- t with the value that the premises give it
abbrev pub premise_on : List Premise → ℕ → Premise
premise_on ps t = record { row = t; value = premise_value ps t }

-- it is one of them
pub premise_in : (ps : List Premise) (t : ℕ) → T (is_premise ps t) → Memᴰ (premise_on ps t) ps
premise_in [] t h = absurd h
premise_in (p ∷ ps) t h = go (eqb p.row t) refl h (premise_in ps t)
  where
    go : (b : Bool) → eqb p.row t ≡ b → T (b || is_premise ps t) → (T (is_premise ps t) → Memᴰ (premise_on ps t) ps)
        → Memᴰ (record { row = t; value = cond b p.value (premise_value ps t) }) (p ∷ ps)
    go true e h r =
        let q : t ≡ p.row = sym (eqb→eq _ _ (true_T _ e)) in
        let s : ◌≡◌ {A = Premise} (record { row = t; value = p.value }) p = (λ i. record { row = q i; value = p.value }) in
        Memᴰ.head s
    go false e h r = Memᴰ.tail (r h)

-- one row has one value among them
abbrev pub SingleValued : List Premise → Type 0
SingleValued ps = (p q : Premise) → Memᴰ p ps → Memᴰ q ps → p.row ≡ q.row → p.value ≡ q.value

-- ---- the walk at a premise

module _ (ts : List ℕ) (ps : List Premise) where
  pub grounded_here : (n t : ℕ) → T (is_premise ps t) → T (grounded ts ps n t)
  unfolding grounded
  grounded_here zero t h = h
  grounded_here (suc n) t h = or_l (is_premise ps t) _ h

  pub value_here : (n t : ℕ) → T (is_premise ps t) → walk_value ts ps n t ≡ premise_value ps t
  unfolding walk_value
  value_here zero t h = refl
  value_here (suc n) t h = rw (T_true (is_premise ps t) h)

  pub comes_here : (n t : ℕ) → T (comes_to ts ps n t t)
  unfolding comes_to
  comes_here zero t = eqb_refl t
  comes_here (suc n) t = or_l (eqb t t) _ (eqb_refl t)

  -- the walk gives a premise its value, where the premises give a row one value
  pub value_of_lem : SingleValued ps → (n : ℕ) (p : Premise) → Memᴰ p ps → walk_value ts ps n p.row ≡ p.value
  value_of_lem S n p m =
      let h = premise_here ps p m in
      value_here n p.row h ∙ S (premise_on ps p.row) p (premise_in ps p.row h) m refl

-- ---- a connective has the value that its test takes

no_more : (a : Bool) → T (a || false) → T a
no_more true h = tt
no_more false h = h

-- the test of not and of and, after which others follow; and that of or, the last
taken : (v : ℕ) (b : Bool) → T (eqb v (num b) || false) → v ≡ num (eqb 1 (num b) || false)
taken v true h = eqb→eq v 1 (no_more (eqb v 1) h)
taken v false h = eqb→eq v 0 (no_more (eqb v 0) h)

taken_last : (v : ℕ) (b : Bool) → T (eqb v (num b)) → v ≡ num (eqb 1 (num b))
taken_last v true h = eqb→eq v 1 h
taken_last v false h = eqb→eq v 0 h

-- where it passes, the head is that of a connective
heads : (a b c x y z : Bool) → T ((a && x) || ((b && y) || (c && z))) → T (a || (b || c))
heads true b c x y z t = tt
heads false true c x y z t = tt
heads false false c x y z t = and_l c z t

pub evaluates_once : (h : ℕ) (xs : List ℕ) (v : ℕ) → T (evaluates h xs v) → T (is_connective h) × (v ≡ num (evaluates h xs 1))
evaluates_once h xs v t =
    let c = heads (eqb h not_head) (eqb h and_head) (eqb h or_head) _ _ _ t in (
      c,
      connective_case (λ k. T (evaluates k xs v) → v ≡ num (evaluates k xs 1)) (taken v (not_of xs)) (taken v (and_of xs)) (taken_last v (or_of xs)) h c t,
    )

-- the test of eval: the premises are the arguments, and their values give the connective its own
pub evaluation_says : (ts : List ℕ) (l v : ℕ) (ps : List Premise) → T (fits ts Evaluation l v ps)
    → (map row_of ps ≡ args ts l) × T (is_connective (head ts l)) × (v ≡ num (evaluates (head ts l) (map value_of ps) 1))
unfolding fits
evaluation_says ts l v ps h =
    let rows = eq_list (map row_of ps) (args ts l) in
    let q = evaluates_once (head ts l) (map value_of ps) v (and_r rows _ h) in
    (eq_list_eq (map row_of ps) (args ts l) (and_l rows _ h), q.0, q.1)

-- ---- all that eval allows, deep allows: over premises that give a row one value, as those on a trail do

module _ {ss ts : List ℕ} (W : WellSorted ss ts) where
  pub evaluation_deep : (l v : ℕ) (ps : List Premise) → l < term_rows ts → SingleValued ps → T (fits ts Evaluation l v ps) → T (fits ts Deep l v ps)
  unfolding fits grounded walk_value comes_to
  evaluation_deep l v ps k S h =
      let q = evaluation_says ts l v ps h in
      let e = q.0 in
      and_both (grounded ts ps layers l) _ (down (layers - 1) e q.1)
      (and_both (all (λ (p : Premise). comes_to ts ps layers p.row l) ps) _
      (all_of (λ (p : Premise). comes_to ts ps layers p.row l) ps (meets (layers - 1) e))
      (eqb_of (q.2 ∙ sym (value (layers - 1) e))))
    where
      -- an argument is a premise, and l is none
      at : map row_of ps ≡ args ts l → (a : ℕ) → Memᴰ a (args ts l) → T (is_premise ps a)
      at e a m =
          let y = Memᴰ.of_map row_of ps (subst (Memᴰ a) (sym e) m) in
          subst (λ t. T (is_premise ps t)) y.2 (premise_here ps y.0 y.1)

      apart : map row_of ps ≡ args ts l → T (not (is_premise ps l))
      apart e =
          not_T (is_premise ps l) (λ t.
          let y = any_at (λ (p : Premise). eqb p.row l) ps t in
          let z = row_args W l k y.0.row (subst (Memᴰ y.0.row) e (Memᴰ.map row_of y.1)) in
          let w : y.0.row ≡ l = eqb→eq _ _ y.2 in
          omega arith)

      down : (n : ℕ) → map row_of ps ≡ args ts l → T (is_connective (head ts l)) → T (grounded ts ps (suc n) l)
      down n e c =
          or_r (is_premise ps l) _
          (and_both (is_connective (head ts l)) _ c (all_of (grounded ts ps n) (args ts l) (λ a m. grounded_here ts ps n a (at e a m))))

      meets : (n : ℕ) → map row_of ps ≡ args ts l → (p : Premise) → Memᴰ p ps → T (comes_to ts ps (suc n) p.row l)
      meets n e p m =
          or_r (eqb l p.row) _
          (and_both (not (is_premise ps l)) _ (apart e)
          (any_of (comes_to ts ps n p.row) (subst (Memᴰ p.row) e (Memᴰ.map row_of m)) (comes_here ts ps n p.row)))

      values : (n : ℕ) (qs : List Premise) → ((q : Premise) → Memᴰ q qs → Memᴰ q ps) → map (walk_value ts ps n) (map row_of qs) ≡ map value_of qs
      values n [] into = refl
      values n (q ∷ qs) into =
          λ i. value_of_lem ts ps S n q (into q (Memᴰ.head refl)) i ∷ values n qs (λ p m. into p (Memᴰ.tail m)) i

      value : (n : ℕ) → map row_of ps ≡ args ts l → walk_value ts ps (suc n) l ≡ num (evaluates (head ts l) (map value_of ps) 1)
      value n e =
          let off : is_premise ps l ≡ false = T_false _ (apart e) in
          let r : map (walk_value ts ps n) (args ts l) ≡ map value_of ps = ap (map (walk_value ts ps n)) (sym e) ∙ values n ps (λ p m. m) in
          rw off (λ i. num (evaluates (head ts l) (r i) 1))

  -- premises on a trail give a row one value
  single_valued : (tr : Trail) (ps : List ℕ) → SingleValued (premises_at tr ps)
  single_valued tr ps p q m n e = at p m ∙ ap (value_at tr) e ∙ sym (at q n)
    where
      at : (p : Premise) → Memᴰ p (premises_at tr ps) → p.value ≡ value_at tr p.row
      at p m =
          let y = Memᴰ.of_map (λ t. record { row = t; value = value_at tr t }) ps m in
          sym (ap value_of y.2) ∙ ap (λ (z : Premise). value_at tr z.row) y.2

  pub eval_is_deep : (tr : Trail) (l v : ℕ) (ps : List ℕ) → l < term_rows ts
      → T (fits ts Evaluation l v (premises_at tr ps)) → T (fits ts Deep l v (premises_at tr ps))
  eval_is_deep tr l v ps k h = evaluation_deep l v (premises_at tr ps) k (single_valued tr ps) h

  -- so at every step: where the tests of a deduce, clash or fail by eval (rule 8) pass, those by deep (rule 13) do
  pub inference_deep : (tr : Trail) (l v : ℕ) (ps : List ℕ) (rest : ℕ) → l < term_rows ts
      → inference_refusal ts tr 8 l v ps rest ≡ 0 → inference_refusal ts tr 13 l v ps rest ≡ 0
  unfolding inference_refusal rule_of
  inference_deep tr l v ps rest k e =
      let a = unless_ok _ 22 _ (omega arith) e in
      let b = unless_ok _ 12 _ (omega arith) a.1 in
      let c = unless_ok _ 13 _ (omega arith) b.1 in
      let d = eval_is_deep tr l v ps k c.0 in
      unless_yes 22 _ (T_true _ a.0) ∙ unless_yes 12 _ (T_true _ b.0) ∙ unless_yes 13 rest (T_true _ d) ∙ c.1
