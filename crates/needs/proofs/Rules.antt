-- The rows that are equalities.
use mathlib.Core.Path.{◌≡◌, sym, ◌∙◌}
use mathlib.Core.Bool.{Bool, true, false}
use mathlib.Core.List.{List}
use Prim.Native.Nat.{ℕ, ◌+◌, ◌≤◌, ◌<◌}
use native.Mathlib.Omega.{arith}
use Rattle.calculus.specs.Lists.{first_where}
use Rattle.calculus.specs.Sheets.{term_rows}
use Rattle.calculus.specs.Rules.{is_eq}
use Rattle.completions.specs.Needs.{equation}
use Rattle.needs.proofs.First.{where_zero, where_more, where_found}

-- ---- the first row that is a = b

module _ (ts : List ℕ) (a b : ℕ) where
  -- no row before e is
  abbrev pub NoneBefore : ℕ → Type 0
  NoneBefore e = first_where e (λ k. is_eq ts k a b) ≡ e

  pub none_yet : NoneBefore 0
  none_yet = where_zero (λ k. is_eq ts k a b)

  module _ {e : ℕ} (h : NoneBefore e) {r : Bool} (is : r ≡ is_eq ts e a b) where
    pub none_more : r ≡ false → NoneBefore (e + 1)
    none_more f = where_more (λ k. is_eq ts k a b) e h (sym is ∙ f)

    pub equation_found : {n : ℕ} → n ≡ term_rows ts → e < n → r ≡ true → e ≡ equation ts a b
    unfolding equation
    equation_found n l f = sym (where_found (λ k. is_eq ts k a b) (term_rows ts) e (omega arith) h (sym is ∙ f))

  pub equation_absent : {e n : ℕ} → NoneBefore e → n ≡ term_rows ts → e ≤ n → n ≤ e → n ≡ equation ts a b
  unfolding equation
  equation_absent {e} {n} h m l k =
      let q : e ≡ term_rows ts = omega arith in
      m ∙ sym (rw q at h)
