-- A row's number by what is known of it, test by test too, and the loop over the rows.
use mathlib.Core.Path.{◌≡◌, refl, sym, ap, ◌∙◌}
use mathlib.Core.Bool.{Bool, true, false, not, ◌&&◌, true≢false}
use mathlib.Core.List.{List}
use Prim.Native.Nat.{ℕ, ◌+◌, ◌≤◌, ◌<◌}
use native.Mathlib.Omega.{arith}
use lib.Dec.{eqb}
use borrow.Author.Tests.{eqb-true, eqb-false, ne_eqb, eq-eqb}
use Rattle.std.specs.Prelude.{Result, Ok, Err}
use Rattle.calculus.specs.declared.Head.{Head}
use Rattle.calculus.specs.declared.Refusal.{Refusal}
use Rattle.calculus.specs.declared.Refusal.TheVariants as refusal
use Rattle.calculus.specs.declared.Term.{Term}
use Rattle.calculus.proofs.Facts.{both_true, T_true, true_T, below_at, unless_ok, unless_yes, unless_no, first_ok}
use Rattle.calculus.specs.Lists.{all, below}
use Rattle.calculus.specs.Numbers.{unless, first_refusal, number_in}
use Rattle.calculus.specs.Sheets.{term_rows}
use Rattle.calculus.specs.Terms.{head, cells, left_filled, term_at, cells_of, head_of, earlier, suits, fresh, term_refusal}
use Rattle.term_suits.specs.Suits.{Known}
use Rattle.term_search.specs.Found.{FirstUse, FirstRepeat}
use Rattle.term_sheet.specs.Found.{before, placed, row_refusal}

-- ---- a row's number, where the first repeated row is known

fresh_is : (ts : List ℕ) (n r t : ℕ) → FirstRepeat ts n r → t ≤ r → t < n → fresh ts t ≡ not (eqb t r)
fresh_is ts n r t F l h = go (eqb t r) refl
  where
    go : (g : Bool) → eqb t r ≡ g → fresh ts t ≡ not g
    go true q = let e : t ≡ r = eqb-true t r q in ap (fresh ts) e ∙ F.found (omega arith)
    go false q =
        let d : t ≡ r → ⊥ = eqb-false t r q in
        T_true (fresh ts t) (below_at r (fresh ts) t (true_T (below r (fresh ts)) F.before) (omega (arith, d)))

pub row_is : (ss ts : List ℕ) (n r t : ℕ) → FirstRepeat ts n r → t ≤ r → t < n → term_refusal ss ts t ≡ row_refusal ss ts t (not (eqb t r))
unfolding row_refusal term_refusal
row_is ss ts n r t F l h = ap (row_refusal ss ts t) (fresh_is ts n r t F l h)

-- a row in its place: what its head says, and whether it is fresh
pub placed_row : (ss ts : List ℕ) (t : ℕ) (g : Bool) {e : Term} → e ≡ term_at ts t → placed t (cells_of e) ≡ true
    → row_refusal ss ts t g ≡ unless (suits ss ts t (head_of e.head)) 4 (unless g 5 0)
unfolding row_refusal earlier cells unless
placed_row ss ts t g r p =
    let h = both_true (all (before t) (cells_of (term_at ts t))) (left_filled (cells_of (term_at ts t))) (rw r at p) in
    rw (r, h.0, h.1)

passed : (a b g : Bool) → g ≡ false → unless a 3 (unless b 4 (unless g 5 0)) ≡ 0 → ⊥
unfolding unless
passed a b true f e = true≢false f
passed true true false f e = omega arith
passed true false false f e = omega arith
passed false b false f e = omega arith

row_passed : (ss ts : List ℕ) (t r : ℕ) → row_refusal ss ts t (not (eqb t r)) ≡ 0 → t ≡ r → ⊥
unfolding row_refusal
row_passed ss ts t r e q = passed _ _ (not (eqb t r)) (ap not (eq-eqb t r q)) e

-- a row's tests, by what the code asks of the row that it has read
row_flat : (ss ts : List ℕ) (t : ℕ) {e : Term} (g : Bool) → e ≡ term_at ts t
    → row_refusal ss ts t g ≡ unless (all (before t) (cells_of e)) 3 (unless (left_filled (cells_of e) && suits ss ts t (head_of e.head)) 4 (unless g 5 0))
unfolding row_refusal earlier cells
row_flat ss ts t g p = rw p

ragged : (a b c g : Bool) → a ≡ true → (a && b) ≡ false → 4 ≡ unless a 3 (unless (b && c) 4 (unless g 5 0))
unfolding unless
ragged a b c g p q = let r : b ≡ false = rw p at q in rw (p, r)

-- ---- the tests of row t, read as e, in their order; w is the first row that repeats an earlier one

module _ (ss ts : List ℕ) (t w : ℕ) {e : Term} {u : ℕ} (K : Known ss ts t e u) {p : Bool} (p_is : p ≡ placed t (cells_of e)) where
  -- what the test of the row answers has the row's number
  abbrev Numbered : Result (Unit {0}) Refusal → Type 0
  Numbered r = number_in r ≡ row_refusal ss ts t (not (eqb t w))

  module _ (p_out : p ≡ false) {a : Bool} (a_is : a ≡ all (before t) (cells_of e)) where
    pub row_ragged : a ≡ true → Numbered (Err refusal.Term)
    row_ragged q = ragged _ _ _ _ (sym a_is ∙ q) (sym p_is ∙ p_out) ∙ sym (row_flat ss ts t (not (eqb t w)) K.row)

    pub row_late : a ≡ false → Numbered (Err refusal.Argument)
    row_late q = sym (row_flat ss ts t (not (eqb t w)) K.row ∙ unless_no 3 _ (sym a_is ∙ q))

  module _ (p_in : p ≡ true) {k : Head} (k_is : k ≡ head_of e.head) where
    pub head_known : head_of (head ts t) ≡ k
    head_known = rw (k_is, K.row)

    in_place : row_refusal ss ts t (not (eqb t w)) ≡ unless (suits ss ts t k) 4 (unless (not (eqb t w)) 5 0)
    in_place = rw k_is (placed_row ss ts t (not (eqb t w)) K.row (sym p_is ∙ p_in))

    module _ {s : Bool} (s_is : s ≡ suits ss ts t k) where
      pub row_unfit : s ≡ false → Numbered (Err refusal.Term)
      row_unfit q = sym (in_place ∙ unless_no 4 _ (sym s_is ∙ q))

      module _ (s_in : s ≡ true) where
        suited : row_refusal ss ts t (not (eqb t w)) ≡ unless (not (eqb t w)) 5 0
        suited = in_place ∙ unless_yes 4 _ (sym s_is ∙ s_in)

        pub row_repeats : t ≡ w → Numbered (Err refusal.Repeated)
        row_repeats q = sym (suited ∙ unless_no 5 0 (ap not (eq-eqb t w q)))

        pub row_fine : (t ≡ w → ⊥) → Numbered (Ok tt)
        row_fine d = sym (suited ∙ unless_yes 5 0 (ap not (ne_eqb t w d)))

-- ---- the loop over the rows

-- a row without trouble suits its head
suited_row : (ss ts : List ℕ) (u : ℕ) → term_refusal ss ts u ≡ 0 → suits ss ts u (head_of (head ts u)) ≡ true
unfolding term_refusal
suited_row ss ts u e =
    let p = unless_ok (earlier ts u) 3 _ (omega arith) e in
    let q = unless_ok (left_filled (cells ts u) && suits ss ts u (head_of (head ts u))) 4 _ (omega arith) p.1 in
    (both_true (left_filled (cells ts u)) _ (T_true _ q.0)).1

-- what is known of row t after rows without trouble
pub row_known : (ss ts : List ℕ) (t : ℕ) {e : Term} {u : ℕ} → t < term_rows ts → first_refusal t (term_refusal ss ts) ≡ 0 → e ≡ term_at ts t → FirstUse ts t u
    → Known ss ts t e u
row_known ss ts t {e} {u} l b r f =
    record {
      whole = omega arith;
      row = r;
      first = f.first;
      low = f.low;
      like = f.like;
      suit = λ h. suited_row ss ts u (first_ok t (term_refusal ss ts) u b h);
    }

-- a row without trouble is not the one that repeats another
pub repeat_later : (ss ts : List ℕ) (t w : ℕ) → row_refusal ss ts t (not (eqb t w)) ≡ 0 → t ≤ w → t + 1 ≤ w
unfolding row_refusal
repeat_later ss ts t w e l = let d = row_passed ss ts t w e in omega (arith, d)
