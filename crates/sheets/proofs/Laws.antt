-- The first trouble among rows that are checked one after the other.
use mathlib.Core.Path.{◌≡◌, refl, sym, ap, ◌∙◌}
use mathlib.Core.Bool.{Bool, true, false}
use Prim.Native.Nat.{ℕ, zero, suc, ◌+◌, ◌<◌}
use native.Mathlib.Omega.{arith}
use native.Mathlib.Nat.{not-suc-le-zero}
use native.Mathlib.Numerals.{add-one}
use lib.Dec.{leb}
use borrow.Author.Tests.{leb-true, leb-false}
use Rattle.std.specs.Prelude.{Result, Err}
use Rattle.calculus.specs.declared.Refusal.{Refusal}
use Rattle.calculus.proofs.Facts.{unless_yes, unless_no}
use Rattle.calculus.specs.Numbers.{unless, or_else, first_refusal, number, number_in}

-- a test that fails gives its number, and one that passes the rest
pub stop : (a : Bool) (n r : ℕ) → a ≡ false → n ≡ unless a n r
stop a n r e = sym (unless_no n r e)

pub pass : (a : Bool) (n r x : ℕ) → a ≡ true → x ≡ r → x ≡ unless a n r
pass a n r x e q = q ∙ sym (unless_yes n r e)

-- a refusal's number is not 0
pub number_some : (r : Refusal) → number r ≡ 0 → ⊥
number_some r e = grind arith

pub err_some : {A : Type 0} (o : Result A Refusal) (r : Refusal) → o ≡ Err r → number_in o ≡ 0 → ⊥
err_some o r e q = number_some r (sym (ap number_in e) ∙ q)

pub first_none : (f : ℕ → ℕ) → first_refusal 0 f ≡ 0
unfolding first_refusal
first_none f = refl

-- one more row that passes
pub first_more : (f : ℕ → ℕ) (t : ℕ) → first_refusal t f ≡ 0 → f t ≡ 0 → first_refusal (t + 1) f ≡ 0
unfolding first_refusal or_else
first_more f t a b = rw (add-one, a, b)

pub or_else_none : (x : ℕ) → or_else 0 x ≡ x
unfolding or_else
or_else_none x = refl

pub or_else_some : (x r : ℕ) → (x ≡ 0 → ⊥) → or_else x r ≡ x
unfolding or_else
or_else_some zero r d = absurd (d refl)
or_else_some (suc x) r d = refl

-- the first row that does not pass gives the sheet its number
pub first_found : (f : ℕ → ℕ) (n t : ℕ) → first_refusal t f ≡ 0 → (f t ≡ 0 → ⊥) → t < n → first_refusal n f ≡ f t
unfolding first_refusal
first_found f zero t a d h = absurd (not-suc-le-zero h)
first_found f (suc n) t a d h = go (leb n t) refl (λ l. first_found f n t a d l)
  where
    go : (g : Bool) → leb n t ≡ g → (t < n → first_refusal n f ≡ f t) → or_else (first_refusal n f) (f n) ≡ f t
    go true q r = let s : t ≡ n = omega (arith, leb-true) in rw (← s, a) (or_else_none (f t))
    go false q r = rw (r (omega (arith, leb-false))) (or_else_some (f t) (f n) d)

-- and a loop over rows: r is what the check of row t answers, after rows without trouble
module _ (f : ℕ → ℕ) (t : ℕ) {r : Result (Unit {0}) Refusal} (before : first_refusal t f ≡ 0) (here : number_in r ≡ f t) where
  pub checked_found : (n : ℕ) {c : Refusal} → r ≡ Err c → t < n → number c ≡ first_refusal n f
  checked_found n {c} e l = sym (ap number_in e) ∙ here ∙ sym (first_found f n t before (λ z. err_some r c e (here ∙ z)) l)
