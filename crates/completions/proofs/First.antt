-- Some number with a property, and the first one.
use mathlib.Core.Path.{◌≡◌, refl, subst}
use mathlib.Core.Logic.{◌⊎◌, inl, inr}
use mathlib.Core.Bool.{Bool, true, false, not, ◌||◌, cond}
use Prim.Native.Nat.{ℕ, zero, suc, ◌≤◌, ◌<◌}
use native.Mathlib.Omega.{arith}
use native.Mathlib.Nat.{not-suc-le-zero}
use native.Mathlib.Decide.{dec_lt}
use lib.Dec.{T, ltb, ltb→lt, nltb→le, T_not}
use Rattle.calculus.specs.Lists.{somewhere, first_where}
use Rattle.calculus.proofs.Facts.{or_cases, or_l, or_r, true_T, false_T}

-- ---- some number below n

pub somewhere_of : (n : ℕ) (p : ℕ → Bool) (u : ℕ) → u < n → T (p u) → T (somewhere n p)
somewhere_of zero p u l h = absurd (not-suc-le-zero l)
somewhere_of (suc n) p u l h = go (λ q. somewhere_of n p u q h) (dec_lt u n)
  where
    go : (u < n → T (somewhere n p)) → Dec (u < n) → T (somewhere n p || p n)
    go r (yes q) = or_l (somewhere n p) _ (r q)
    go r (no q) = let e : u ≡ n = omega arith in or_r (somewhere n p) _ (subst (λ j. T (p j)) e h)

pub somewhere_at : (n : ℕ) (p : ℕ → Bool) → T (somewhere n p) → (u : ℕ) × (u < n) × T (p u)
somewhere_at zero p h = absurd h
somewhere_at (suc n) p h = go (λ t. somewhere_at n p t) (or_cases (somewhere n p) _ h)
  where
    go : (T (somewhere n p) → (u : ℕ) × (u < n) × T (p u)) → T (somewhere n p) ⊎ T (p n) → (u : ℕ) × (u < suc n) × T (p u)
    go r (inl t) = let x = r t in (x.0, omega (arith, x.1), x.2)
    go r (inr t) = (n, omega arith, t)

-- ---- the first number below n

-- r is the first number below n of which p holds, n if there is none
pub record First (n : ℕ) (p : ℕ → Bool) (r : ℕ) : Type 0 where
  pub low : r ≤ n
  pub before : (k : ℕ) → k < r → T (not (p k))
  pub found : r < n → T (p r)

le_more : {r n : ℕ} → r ≤ n → r ≤ suc n
le_more l = omega arith

module _ (n : ℕ) (p : ℕ → Bool) where
  at_last : ((k : ℕ) → k < n → T (not (p k))) → (c : Bool) → p n ≡ c → First (suc n) p (cond c n (suc n))
  at_last b true g = record { low = omega arith; before = b; found = λ l. true_T _ g }
  at_last b false g = record { low = omega arith; before = λ k l. pick k l (dec_lt k n); found = λ l. absurd (omega arith) }
    where
      pick : (k : ℕ) → k < suc n → Dec (k < n) → T (not (p k))
      pick k l (yes q) = b k q
      pick k l (no q) = let e : n ≡ k = omega arith in subst (λ j. T (not (p j))) e (false_T _ g)

  one_more : (r : ℕ) → First n p r → (b : Bool) → ltb r n ≡ b → (c : Bool) → p n ≡ c → First (suc n) p (cond b r (cond c n (suc n)))
  one_more r f true e c g =
      let h = ltb→lt _ _ (true_T _ e) in
      record { low = le_more f.low; before = f.before; found = λ l. f.found h }
  one_more r f false e c g =
      let h : r ≡ n = omega (arith, f.low, nltb→le r n (false_T _ e)) in
      at_last (subst (λ r. (k : ℕ) → k < r → T (not (p k))) h f.before) c g

pub first_is : (n : ℕ) (p : ℕ → Bool) → First n p (first_where n p)
unfolding first_where
first_is zero p = record { low = omega arith; before = λ k l. absurd (not-suc-le-zero l); found = λ l. absurd (not-suc-le-zero l) }
first_is (suc n) p = one_more n p (first_where n p) (first_is n p) (ltb (first_where n p) n) refl (p n) refl

-- where p holds of some u it holds of the first
pub first_below : (n : ℕ) (p : ℕ → Bool) (u : ℕ) → u < n → T (p u) → first_where n p < n
first_below n p u l h = go (dec_lt (first_where n p) n)
  where
    go : Dec (first_where n p < n) → first_where n p < n
    go (yes q) = q
    go (no q) =
        let f = first_is n p in
        absurd (T_not (p u) (f.before u (omega (arith, f.low))) h)

pub first_holds : (n : ℕ) (p : ℕ → Bool) (u : ℕ) → u < n → T (p u) → T (p (first_where n p))
first_holds n p u l h = (first_is n p).found (first_below n p u l h)
