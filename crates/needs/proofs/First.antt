-- The first number of which a test holds, as a loop finds it: `first_where n p ≡ n` says that it holds of none below n.
use mathlib.Core.Path.{◌≡◌, refl}
use mathlib.Core.Bool.{Bool, true, false, cond}
use Prim.Native.Nat.{ℕ, zero, suc, ◌+◌, ◌<◌}
use native.Mathlib.Omega.{arith}
use native.Mathlib.Nat.{not-suc-le-zero}
use native.Mathlib.Numerals.{add-one}
use lib.Dec.{leb, ltb}
use borrow.Author.Tests.{leb-true, leb-false, lt-ltb, le-ltb}
use Rattle.calculus.specs.Lists.{first_where}

pub where_zero : (p : ℕ → Bool) → first_where 0 p ≡ 0
unfolding first_where
where_zero p = refl

pub where_more : (p : ℕ → Bool) (n : ℕ) → first_where n p ≡ n → p n ≡ false → first_where (n + 1) p ≡ n + 1
unfolding first_where
where_more p n h e = rw (add-one, h, le-ltb n n (omega arith), e)

pub where_found : (p : ℕ → Bool) (n k : ℕ) → k < n → first_where k p ≡ k → p k ≡ true → first_where n p ≡ k
unfolding first_where
where_found p zero k l h e = absurd (not-suc-le-zero l)
where_found p (suc n) k l h e = go (leb n k) refl (λ m. where_found p n k m h e)
  where
    go : (g : Bool) → leb n k ≡ g → (k < n → first_where n p ≡ k) → cond (ltb (first_where n p) n) (first_where n p) (cond (p n) n (suc n)) ≡ k
    go true q r = let s : k ≡ n = omega (arith, leb-true) in rw (← s, h, le-ltb k k (omega arith), e)
    go false q r = let m : k < n = omega (arith, leb-false) in rw (r m, lt-ltb k n m)
