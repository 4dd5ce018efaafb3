-- Values with a decision added, an entry that opposes it, and a walk over the entries of the trail. Assumes nothing.
use Prim.Native.Nat.{ℕ, zero, suc, ◌+◌, ◌-◌, ◌*◌, ◌≤◌, ◌<◌}
use native.Mathlib.Omega.{arith}
use mathlib.Core.Path.{◌≡◌, refl, sym, ap, subst, ◌∙◌}
use mathlib.Core.Bool.{Bool, true, false, not, ◌&&◌, ◌||◌}
use mathlib.Core.List.{List, ◌∷◌}
use mathlib.Core.Logic.{⊎_elim}
use lib.Dec.{eqb, ltb}
use lib.ListN.{length, get_or}
use borrow.Author.Tests.{eq-eqb, ne_eqb, eqb-true, eqb-false, ltb-true, ltb-false}
use Rattle.calculus.specs.Lists.{num}
use Rattle.calculus.specs.Sheets.{term_rows}
use Rattle.calculus.specs.Terms.{head, cells, arg, prop, eq_head}
use Rattle.calculus.specs.Trail.{Trail, Entry, everything, on, entry, value_at, holds, decision}
use Rattle.calculus.specs.Steps.{misfits, opposes, acceptable}
use Rattle.calculus.proofs.Facts.{true_T, is_or_not, none_true}
use Rattle.calculus.proofs.Entries.{entry_in}
use Rattle.calculus.proofs.Trails.{on_below, holds_yes}
use Rattle.calculus.proofs.Acceptable.{added_on, added_value, asked_before}
use Rattle.trail.specs.Words.{order, row_at, trail_in, Laid}
use Rattle.trail.proofs.Laws.{trail_more, on_at, entry_at, room_all}
use Rattle.acceptance.specs.Added.{added, is_side, Decidable, Skipped}

-- ---- values with the decision

-- values that are known where they are there
both_there : (p q : Bool) {x y x' y' : ℕ} (e : ℕ) → (p ≡ true → x ≡ x') → (q ≡ true → y ≡ y')
    → (p && (q && not (eqb e (num (eqb x y))))) ≡ (p && (q && not (eqb e (num (eqb x' y')))))
both_there false q e f g = refl
both_there true false e f g = refl
both_there true true e f g = rw (f refl, g refl) refl

module _ (tr : Trail) (t v : ℕ) where
  abbrev with_it : Trail
  with_it = decision tr t v ∷ tr

  pub value_itself : (u : ℕ) → t ≡ u → v ≡ value_at with_it u
  value_itself u e = sym (added_value tr t v u ∙ rw (eq-eqb t u e) refl)

  pub value_other : (u : ℕ) {r : ℕ} {b : Bool} → b ≡ eqb t u → b ≡ false → (on tr u ≡ true → r ≡ value_at tr u) → on with_it u ≡ true → r ≡ value_at with_it u
  value_other u b_is d h o =
      let other = sym b_is ∙ d in
      h (rw other at (sym (added_on tr t v u) ∙ o)) ∙ sym (added_value tr t v u ∙ rw other refl)

  pub misfits_told : (a b e : ℕ) {x y g : ℕ} {p q : Bool} → p ≡ (eqb t a || on tr a) → q ≡ (eqb t b || on tr b)
      → (on with_it a ≡ true → x ≡ value_at with_it a) → (on with_it b ≡ true → y ≡ value_at with_it b) → g ≡ num (eqb x y)
      → (p && (q && not (eqb e g))) ≡ misfits with_it a b e
  misfits_told a b e p_is q-is x_is y_is g_is =
      rw (p_is ∙ sym (added_on tr t v a), q-is ∙ sym (added_on tr t v b), g_is) (both_there (on with_it a) (on with_it b) e x_is y_is)

-- ---- an entry, by its row

-- the sheet has the row whole
pub whole : (w n : ℕ) (ts ws : List ℕ) (count t l : ℕ) → Decidable w n ts ws count t → on (trail_in w n ws count) l ≡ true → l * 6 + 6 ≤ length ts
whole w n ts ws count t l g o = let r = on_below n l _ g.laid.below o in omega (arith, g.rows)

-- the row of the entry at i: the sheet has it
pub row_there : (w n : ℕ) (ts ws : List ℕ) (count t i : ℕ) {l : ℕ} → Decidable w n ts ws count t × (i < count) → l ≡ row_at w n ws i → l * 6 + 6 ≤ length ts
row_there w n ts ws count t i g e = rw e (whole w n ts ws count t _ g.0 (on_at w n ws count i g.1))

module _ (ts : List ℕ) (tr : Trail) (after : Trail) (t l : ℕ) (o : on tr l ≡ true) where
  abbrev left : ℕ
  left = get_or ts (l * 6 + 2) 0

  abbrev right : ℕ
  right = get_or ts (l * 6 + 3) 0

  the_test : opposes ts after t (entry tr l)
      ≡ (eqb (head ts l) eq_head && ((eqb left t || eqb right t) && misfits after left right (value_at tr l)))
  unfolding arg cells
  the_test = rw (entry_in tr l (true_T _ o)).1 refl

  -- t on neither side
  pub not_side : is_side ts t l ≡ false → opposes ts after t (entry tr l) ≡ false
  unfolding arg cells
  not_side s = the_test ∙ go (eqb (head ts l) eq_head) s
    where
      go : (h : Bool) → (eqb left t || eqb right t) ≡ false → (h && ((eqb left t || eqb right t) && misfits after left right (value_at tr l))) ≡ false
      go true e = rw e
      go false e = refl

  pub no_equation : (head ts l ≡ eq_head → ⊥) → false ≡ opposes ts after t (entry tr l)
  no_equation h = sym (the_test ∙ rw (ne_eqb (head ts l) eq_head h) refl)

  module _ (h : head ts l ≡ eq_head) where
    pub other_sides : (eqb left t || eqb right t) ≡ false → false ≡ opposes ts after t (entry tr l)
    other_sides s = sym (the_test ∙ rw (eq-eqb (head ts l) eq_head h, s) refl)

    pub equation : {e : ℕ} {r : Bool} → (eqb left t || eqb right t) ≡ true → (on tr l ≡ true → e ≡ value_at tr l) → r ≡ misfits after left right e
        → r ≡ opposes ts after t (entry tr l)
    equation s e_is r_is = r_is ∙ sym (the_test ∙ rw (eq-eqb (head ts l) eq_head h, s, e_is o) refl)

-- ---- the trail, entry by entry

-- p holds of none of the first i entries
pub record Passed (w n : ℕ) (ws : List ℕ) (count i : ℕ) (p : Entry → Bool) : Type 0 where
  pub laid : Laid w n ws count
  pub room : count ≤ n
  pub so_far : i ≤ count
  pub none : holds (trail_in w n ws i) everything p ≡ false

module _ (w n : ℕ) (ws : List ℕ) (count : ℕ) (p : Entry → Bool) where
  pub passed_none : Laid w n ws count → Passed w n ws count 0 p
  unfolding trail_in holds
  passed_none l = record { laid = l; room = room_all w n ws count l; so_far = omega arith; none = refl }

  module _ {i : ℕ} (u : Passed w n ws count i p) (less : i < count) {r : Bool}
      (r_is : r ≡ p (entry (trail_in w n ws count) (get_or ws (order w n + i) 0))) where
    pub passed_found : r ≡ true → holds (trail_in w n ws count) everything p ≡ true
    passed_found h = holds_yes everything p _ _ refl (on_at w n ws count i less) (sym r_is ∙ h)

    pub passed_more : r ≡ false → Passed w n ws count (i + 1) p
    unfolding holds
    passed_more h =
        let there = entry_at w n ws count _ (on_at w n ws count i less) in
        record {
          laid = u.laid;
          room = u.room;
          so_far = omega arith;
          none = ap (λ (tr : Trail). holds tr everything p) (trail_more w n ws i) ∙ rw (sym (ap p there) ∙ sym r_is ∙ h, u.none) refl;
        }

  -- p holds of none of k entries more
  passed_on : (k : ℕ) {i : ℕ} → Passed w n ws count i p → i + k ≤ count
      → ((j : ℕ) → i ≤ j → j < i + k → p (entry (trail_in w n ws count) (row_at w n ws j)) ≡ false) → Passed w n ws count (i + k) p
  passed_on zero {i} u l h = let e : i ≡ i + 0 = omega arith in subst (λ j. Passed w n ws count j p) e u
  passed_on (suc k) {i} u l h =
      let e : i + k + 1 ≡ i + suc k = omega arith in
      let before = passed_on k u (omega arith) (λ j a b. h j a (omega arith)) in
      subst (λ j. Passed w n ws count j p) e (passed_more before (omega arith) refl (h (i + k) (omega arith) (omega arith)))

  pub passed_all : {i : ℕ} → Passed w n ws count i p → count ≤ i → holds (trail_in w n ws count) everything p ≡ false
  passed_all {i} u l = let e : count ≡ i = omega (arith, u.so_far) in rw e u.none

-- ---- entries passed four at a time

module _ (w n : ℕ) (ts ws : List ℕ) (count t : ℕ) where
  pub skipped_none : (i : ℕ) → i ≤ count → Skipped w n ts ws count t i i
  skipped_none i l = record { onward = omega arith; within = l; none = λ k a b. absurd (omega arith) }

  abbrev side : ℕ → Bool
  side i = is_side ts t (row_at w n ws i)

  pub skipped_four : {i j : ℕ} {a b c d : Bool} → Skipped w n ts ws count t i j → 4 ≤ count - j
      → a ≡ side j → b ≡ side (j + 1) → c ≡ side (j + 2) → d ≡ side (j + 3) → (a || (b || (c || d))) ≡ false → Skipped w n ts ws count t i (j + 4)
  skipped_four {i} {j} u l a_is b_is c_is d_is h =
      record {
        onward = omega (arith, u.onward);
        within = omega (arith, u.within);
        none = λ k m q.
            let x = none_true _ _ h in
            let y = none_true _ _ x.1 in
            let z = none_true _ _ y.1 in
            by_place k m q (sym a_is ∙ x.0) (sym b_is ∙ y.0) (sym c_is ∙ z.0) (sym d_is ∙ z.1);
      }
    where
      by_place : (k : ℕ) → i ≤ k → k < j + 4 → side j ≡ false → side (j + 1) ≡ false → side (j + 2) ≡ false → side (j + 3) ≡ false → side k ≡ false
      by_place k m q p0 p1 p2 p3 =
          ⊎_elim
          (λ e. u.none k m (ltb-true k j e))
          (λ e.
          let g : j ≤ k = ltb-false k j e in
          ⊎_elim
          (λ e0. rw (eqb-true k j e0) p0)
          (λ e0.
          ⊎_elim
          (λ e1. rw (eqb-true k (j + 1) e1) p1)
          (λ e1.
          ⊎_elim
          (λ e2. rw (eqb-true k (j + 2) e2) p2)
          (λ e2.
          let n0 = eqb-false k j e0 in
          let n1 = eqb-false k (j + 1) e1 in
          let n2 = eqb-false k (j + 2) e2 in
          let last : k ≡ j + 3 = omega arith in
          rw last p3)
          (is_or_not (eqb k (j + 2))))
          (is_or_not (eqb k (j + 1))))
          (is_or_not (eqb k j)))
          (is_or_not (ltb k j))

  -- what is passed opposes no decision on t
  pub passed_skip : (v : ℕ) {i j : ℕ} → Passed w n ws count i (opposes ts (added w n ws count t v) t) → Skipped w n ts ws count t i j
      → Passed w n ws count j (opposes ts (added w n ws count t v) t)
  passed_skip v {i} {j} u s =
      let e : i + (j - i) ≡ j = omega (arith, s.onward) in
      subst (λ k. Passed w n ws count k (opposes ts (added w n ws count t v) t)) e
      (passed_on w n ws count _ (j - i) u (omega (arith, s.within))
      (λ k a b. not_side ts _ _ t _ (on_at w n ws count k (omega (arith, s.within))) (s.none k a (omega arith))))

-- ---- the answer

module _ (w n : ℕ) (ts ws : List ℕ) (count t v : ℕ) (g : Decidable w n ts ws count t) where
  abbrev opposed : Bool
  opposed = holds (trail_in w n ws count) everything (opposes ts (added w n ws count t v) t)

  pub is_row : t < term_rows ts
  is_row = subst (λ m. t < m) g.rows g.row

  told : acceptable ts (trail_in w n ws count) t v ≡ (prop ts t || not opposed)
  told = asked_before ts (trail_in w n ws count) t v (g.equations t is_row)

  module _ {b : Bool} (b_is : b ≡ prop ts t) where
    pub prop_accepted : b ≡ true → true ≡ acceptable ts (trail_in w n ws count) t v
    prop_accepted h = sym (told ∙ rw (sym b_is ∙ h) refl)

    pub accepted : b ≡ false → opposed ≡ false → true ≡ acceptable ts (trail_in w n ws count) t v
    accepted h q = sym (told ∙ rw (sym b_is ∙ h, q) refl)

    pub refused : b ≡ false → opposed ≡ true → false ≡ acceptable ts (trail_in w n ws count) t v
    refused h q = sym (told ∙ rw (sym b_is ∙ h, q) refl)
