-- The test of an acceptable decision is Definition 3 of the CADE 2017 paper.
use mathlib.Core.Path.{◌≡◌, refl, sym, ap, subst, ◌∙◌}
use mathlib.Core.Logic.{◌≢◌, ◌⊎◌, inl, inr}
use mathlib.Core.Bool.{true, false, not, ◌||◌}
use mathlib.Core.List.Memᴰ
use mathlib.Core.List.{List, [], ◌∷◌, Memᴰ}
use Prim.Native.Nat.{ℕ, ◌<◌}
use native.Mathlib.Omega.{arith}
use lib.Dec.{T, eqb, eqb→eq, not_T, T_not}
use Rattle.calculus.specs.declared.Premise.{Premise}
use Rattle.calculus.specs.Lists.{num}
use Rattle.calculus.specs.Sheets.{term_rows}
use Rattle.calculus.specs.Terms.{head, arg, prop, eq_head}
use Rattle.calculus.specs.Trail.{Trail, Entry, everything, on, entry, value_at, holds, decision}
use Rattle.calculus.specs.Rules.{row_of, value_of, is_head}
use Rattle.calculus.specs.Steps.{opposes, acceptable}
use Rattle.calculus.specs.WellFormed.{WellFormed, Truthful}
use Rattle.calculus.proofs.Facts.{num_le, eqb_of, neqb_of, and_l, and_r, and_both, or_cases, or_l, or_r, T_false, true_T, false_T, is_or_not, neq, facts}
use Rattle.calculus.proofs.Entries.{entry_in, holds_at}
use Rattle.calculus.proofs.WellFormed.{decision_well_formed}
use Rattle.calculus.proofs.WellSorted.{WellSorted}
use Rattle.calculus.proofs.Rows.{equation_prop}
use Rattle.calculus.proofs.Acceptable.{asked_before}
use Rattle.figure.specs.Inferences.{assign, Equation}
use Rattle.figure.specs.Transitions.{◌∈◌, Boolean, Assigned, Opposed, Acceptable}
use Rattle.figure.proofs.Rows.{equation_row}
use Rattle.figure.proofs.Connectives.{opposite_of, opposite_sum}
use Rattle.figure.proofs.Rules.{Known, head_of_lem, column_0, column_1}
use Rattle.figure.proofs.Trails.{off_is, below_row, assigned_of, assigned_row, one_value, holds_of}
use Rattle.figure.proofs.FirstOrder.{Each, more, one, FromValues, values_infer, equation_boolean, ToBoolean, first_order_inference}

module _ {ss ts : List ℕ} (W : WellSorted ss ts) {tr : Trail} (R : WellFormed (term_rows ts) tr) (N : Truthful ts tr)
    (t v : ℕ) (row : t < term_rows ts) (off : T (not (on tr t))) where
  -- ---- the trail with the decision added

  abbrev added : Trail
  added = decision tr t v ∷ tr

  R⁺ : WellFormed (term_rows ts) added
  R⁺ = decision_well_formed tr t v R row (T_false _ off)

  -- p is the decision or stands on the trail before it
  abbrev OnAdded : Premise → Type 0
  OnAdded p = (p ≡ assign v t) ⊎ Assigned tr p.row p.value

  on_added : (p : Premise) → OnAdded p → Assigned added p.row p.value
  on_added p (inl e) = (decision tr t v, Memᴰ.head refl, sym (ap row_of e), sym (ap value_of e))
  on_added p (inr h) = (h.0, Memᴰ.tail h.1, h.2, h.3)

  added_is : (a x : ℕ) → Assigned added a x → OnAdded (assign x a)
  added_is a x h = go (Memᴰ.cases_cons h.1)
    where
      go : (h.0 ≡ decision tr t v) ⊎ (h.0 ∈ tr) → OnAdded (assign x a)
      go (inl e) =
          let p : x ≡ v = sym h.3 ∙ ap (λ (y : Entry). y.value) e in
          let q : a ≡ t = sym h.2 ∙ ap (λ (y : Entry). y.term) e in
          inl (λ i. assign (p i) (q i))
      go (inr k) = inr (h.0, k, h.2, h.3)

  -- t has the value v there and no other
  own : (a x : ℕ) → Assigned added a x → a ≡ t → assign v t ≡ assign x a
  own a x h e =
      let q : v ≡ x = one_value R⁺ a v x (decision tr t v, Memᴰ.head refl, sym e, refl) h in
      λ i. assign (q i) (sym e i)

  -- ---- an entry t = u or u = t, u having a value there, whose own value is not the one that same or differ gives it

  record Misfit (e : Entry) : Type 0 where
    pub a : ℕ
    pub b : ℕ
    pub x : ℕ
    pub y : ℕ
    pub equation : Equation ts e.term a b
    pub side : (a ≡ t) ⊎ (b ≡ t)
    pub left : Assigned added a x
    pub right : Assigned added b y
    pub wrong : e.value ≢ num (eqb x y)

  -- the test finds it
  misfit_is : (e : Entry) → e.term < term_rows ts → T (opposes ts added t e) → Misfit e
  misfit_is e l h =
      let a = arg ts e.term 0 in
      let b = arg ts e.term 1 in
      let q : head ts e.term ≡ eq_head = search facts in
      let s : T (eqb a t || eqb b t) = search facts in
      let oa : T (on added a) = search facts in
      let ob : T (on added b) = search facts depth 7 in
      let n : e.value ≢ num (eqb (value_at added a) (value_at added b)) = search facts depth 8 in
      record {
        a = a;
        b = b;
        x = value_at added a;
        y = value_at added b;
        equation = (equation_row W e.term l q).shape;
        side = sides a b (or_cases (eqb a t) _ s);
        left = looked a oa;
        right = looked b ob;
        wrong = n;
      }
    where
      sides : (a b : ℕ) → T (eqb a t) ⊎ T (eqb b t) → (a ≡ t) ⊎ (b ≡ t)
      sides a b (inl p) = inl (eqb→eq a t p)
      sides a b (inr p) = inr (eqb→eq b t p)

      looked : (a : ℕ) → T (on added a) → Assigned added a (value_at added a)
      looked a o = let r = entry_in added a o in (entry added a, r.0, r.1, refl)

  misfit_of : (e : Entry) → Misfit e → T (opposes ts added t e)
  misfit_of e m =
      let A : arg ts e.term 0 ≡ m.a = column_0 m.equation in
      let B : arg ts e.term 1 ≡ m.b = column_1 m.equation in
      let p = assigned_of R⁺ m.a m.x m.left in
      let q = assigned_of R⁺ m.b m.y m.right in
      let X : value_at added m.a ≡ m.x = eqb→eq _ _ (and_r (on added m.a) _ p) in
      let Y : value_at added m.b ≡ m.y = eqb→eq _ _ (and_r (on added m.b) _ q) in
      and_both (is_head ts e.term eq_head) _ (head_of_lem m.equation)
      (rw (A, B) (and_both (eqb m.a t || eqb m.b t) _ (sides m.side)
      (and_both (on added m.a) _ (and_l (on added m.a) _ p)
      (and_both (on added m.b) _ (and_l (on added m.b) _ q) (rw (X, Y) (neqb_of m.wrong))))))
    where
      sides : (m.a ≡ t) ⊎ (m.b ≡ t) → T (eqb m.a t || eqb m.b t)
      sides (inl s) = or_l (eqb m.a t) _ (eqb_of s)
      sides (inr s) = or_r (eqb m.a t) _ (eqb_of s)

  -- on the trail it opposes the decision
  misfit_opposes : (e : Entry) → e ∈ tr → Misfit e → Opposed ts tr t v
  misfit_opposes e k m =
      let i = values_infer m.x m.y m.equation in
      let z = equation_boolean W m.equation (below_row tr e R k) in
      let small = N e k z in
      let given = num_le (eqb m.x m.y) in
      let n = m.wrong in
      record {
        r = i.0;
        J = assign m.x m.a ∷ assign m.y m.b ∷ [];
        l = e.term;
        w = num (eqb m.x m.y);
        u = e.value;
        inference = i.1;
        boolean = z;
        used = among m.side;
        on_trail = more OnAdded (added_is m.a m.x m.left) (one OnAdded (added_is m.b m.y m.right));
        other = opposite_of _ _ (omega arith);
        there = (e, k, refl, refl);
      }
    where
      among : (m.a ≡ t) ⊎ (m.b ≡ t) → Memᴰ (assign v t) (assign m.x m.a ∷ assign m.y m.b ∷ [])
      among (inl s) = Memᴰ.head (own m.a m.x m.left s)
      among (inr s) = Memᴰ.tail (Memᴰ.head (own m.b m.y m.right s))

  -- what opposes a decision that is not Boolean is one
  opposed_misfit : ¬ Boolean ts t → (o : Opposed ts tr t v) → Misfit o.there.0
  opposed_misfit n o = go (first_order_inference W o.inference known (assigned_row R o.there) o.boolean)
    where
      known : Known ts o.J
      known p m = assigned_row R⁺ (on_added p (o.on_trail p m))

      go : FromValues ts o.J o.l o.w ⊎ Each (ToBoolean W) o.J → Misfit o.there.0
      go (inr f) = absurd (n (f (assign v t) o.used))
      go (inl f) =
          let each : Each OnAdded (assign f.x f.a ∷ assign f.y f.b ∷ []) = subst (Each OnAdded) f.premises o.on_trail in
          let sum = opposite_sum o.other in
          let same = o.there.3 in
          let result = f.result in
          record {
            a = f.a;
            b = f.b;
            x = f.x;
            y = f.y;
            equation = subst (λ k. Equation ts k f.a f.b) (sym o.there.2) f.equation;
            side = sides (Memᴰ.cases_cons (subst (Memᴰ (assign v t)) f.premises o.used));
            left = on_added _ (each _ (Memᴰ.head refl));
            right = on_added _ (each _ (Memᴰ.tail (Memᴰ.head refl)));
            wrong = λ q. omega arith;
          }
        where
          sides : (assign v t ≡ assign f.x f.a) ⊎ Memᴰ (assign v t) (assign f.y f.b ∷ []) → (f.a ≡ t) ⊎ (f.b ≡ t)
          sides (inl q) = inl (sym (ap row_of q))
          sides (inr k) = inr (sym (ap row_of (Memᴰ.eq_of_singleton k)))

  -- ---- the test and the definition

  pub acceptable_is : T (acceptable ts tr t v) → Acceptable ts tr t v
  unfolding acceptable
  acceptable_is h = record { new = off_is tr t off; unopposed = go (is_or_not (prop ts t)) }
    where
      go : (prop ts t ≡ true) ⊎ (prop ts t ≡ false) → Boolean ts t ⊎ ¬ Opposed ts tr t v
      go (inl p) = inl (eqb→eq _ _ (true_T _ p))
      go (inr p) =
          inr (λ o.
          let e = o.there.0 in
          T_not (holds added everything (opposes ts added t)) (rw p at h)
          (holds_of added everything (opposes ts added t) e (Memᴰ.tail o.there.1, refl)
          (misfit_of e (opposed_misfit (neq _ _ (false_T _ p)) o))))

  pub acceptable_of : Acceptable ts tr t v → T (acceptable ts tr t v)
  acceptable_of c = subst T (sym (asked_before ts tr t v (equation_prop W t row))) (go c.unopposed)
    where
      go : Boolean ts t ⊎ ¬ Opposed ts tr t v → T (prop ts t || not (holds tr everything (opposes ts added t)))
      go (inl z) = or_l (prop ts t) _ (eqb_of z)
      go (inr f) =
          or_r (prop ts t) _
          (not_T (holds tr everything (opposes ts added t)) (λ h.
          let y = holds_at tr everything (opposes ts added t) h in
          f (misfit_opposes y.0 y.1 (misfit_is y.0 (below_row tr y.0 R y.1) y.3))))
