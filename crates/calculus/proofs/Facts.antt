-- What tests, chains of tests and first troubles say.
use mathlib.Core.Path.{◌≡◌, refl, sym, ap, subst, ◌∙◌}
use mathlib.Core.Logic.{◌≢◌, ◌⊎◌, inl, inr}
use mathlib.Core.Bool.{Bool, true, false, not, ◌&&◌, ◌||◌, cond}
use mathlib.Core.List.Memᴰ
use mathlib.Core.List.{List, [], ◌∷◌, Memᴰ}
use Prim.Native.Nat.{ℕ, zero, suc, ◌≤◌, ◌<◌}
use native.Mathlib.Omega.{arith}
use native.Mathlib.Nat.{not-suc-le-zero, suc-ne-zero}
use native.Mathlib.Decide.{dec_lt}
use lib.Dec.{T, eqb, eqb→eq, leb→le, ltb→lt, eqb_refl, T_not, not_T}
use Rattle.calculus.specs.Lists.{num, all, any, has, below}
use Rattle.calculus.specs.Numbers.{unless, or_else, first_refusal}
use Rattle.calculus.specs.Steps.{Answer, refused, answer}

-- ---- tests as facts

pub and_l : (a b : Bool) → T (a && b) → T a
and_l true b h = tt
and_l false b h = h

pub and_r : (a b : Bool) → T (a && b) → T b
and_r true b h = h
and_r false b h = absurd h

pub and_both : (a b : Bool) → T a → T b → T (a && b)
and_both true b h k = k
and_both false b h k = absurd h

pub or_cases : (a b : Bool) → T (a || b) → T a ⊎ T b
or_cases true b h = inl tt
or_cases false b h = inr h

pub or_l : (a b : Bool) → T a → T (a || b)
or_l true b h = tt
or_l false b h = absurd h

pub or_r : (a b : Bool) → T b → T (a || b)
or_r true b h = tt
or_r false b h = h

pub eqb_of : {m n : ℕ} → m ≡ n → T (eqb m n)
eqb_of {m} e = subst (λ k. T (eqb m k)) e (eqb_refl m)

pub neqb_of : {m n : ℕ} → m ≢ n → T (not (eqb m n))
neqb_of {m} {n} h = not_T (eqb m n) (λ t. h (eqb→eq m n t))

pub neq : (m n : ℕ) → T (not (eqb m n)) → m ≢ n
neq m n h e = T_not (eqb m n) h (eqb_of e)

pub T_true : (b : Bool) → T b → b ≡ true
T_true true h = refl
T_true false h = absurd h

pub T_false : (b : Bool) → T (not b) → b ≡ false
T_false true h = absurd h
T_false false h = refl

pub true_T : (b : Bool) → b ≡ true → T b
true_T b e = subst T (sym e) tt

pub false_T : (b : Bool) → b ≡ false → T (not b)
false_T b e = subst (λ x. T (not x)) (sym e) tt

pub is_or_not : (b : Bool) → (b ≡ true) ⊎ (b ≡ false)
is_or_not true = inl refl
is_or_not false = inr refl

pub true_or_false : {b : Bool} → b ≡ true → b ≡ false → ⊥
true_or_false {b} p q = subst T (sym p ∙ q) tt

-- truth values as numbers
pub num_le : (b : Bool) → num b ≤ 1
num_le true = omega arith
num_le false = omega arith

pub num_true : (b : Bool) → T b → num b ≡ 1
num_true b h = ap num (T_true b h)

pub num_false : (b : Bool) → ¬ (T b) → num b ≡ 0
num_false true h = absurd (h tt)
num_false false h = refl

pub true_num : (b : Bool) → num b ≡ 1 → T b
true_num true e = tt
true_num false e = absurd (omega arith)

pub false_num : (b : Bool) → num b ≡ 0 → ¬ (T b)
false_num true e h = absurd (omega arith)
false_num false e h = h

-- both of two tests, either of them
pub both_true : (a b : Bool) → (a && b) ≡ true → (a ≡ true) × (b ≡ true)
both_true true b e = (refl, e)
both_true false b e = absurd (true_or_false {b = false} e refl)

pub one_true : (a b : Bool) → (a || b) ≡ true → (a ≡ true) ⊎ (b ≡ true)
one_true true b e = inl refl
one_true false b e = inr e

pub none_true : (a b : Bool) → (a || b) ≡ false → (a ≡ false) × (b ≡ false)
none_true true b e = absurd (true_or_false {b = true} refl e)
none_true false b e = (refl, e)

-- what a chain of tests says
pub ruleset facts = (and_l, and_r, eqb→eq, leb→le, ltb→lt, neq)

-- a case for each outcome of a test
pub cond_case {ℓ} : {A : Type 0} (P : A → Type ℓ) (b : Bool) (x y : A) → (b ≡ true → P x) → (b ≡ false → P y) → P (cond b x y)
cond_case P true x y f g = f refl
cond_case P false x y f g = g refl

-- ---- members of lists

module _ {A : Type 0} where
  pub all_at : (p : A → Bool) {x : A} (xs : List A) → T (all p xs) → Memᴰ x xs → T (p x)
  all_at p [] h (m) = absurd (elim m [ ])
  all_at p (y ∷ ys) h (Memᴰ.head e) = subst (λ z. T (p z)) (sym e) (and_l (p y) _ h)
  all_at p (y ∷ ys) h (Memᴰ.tail m) = all_at p ys (and_r (p y) _ h) m

  pub all_of : (p : A → Bool) (xs : List A) → ((x : A) → Memᴰ x xs → T (p x)) → T (all p xs)
  all_of p [] h = tt
  all_of p (y ∷ ys) h = and_both (p y) _ (h y (Memᴰ.head refl)) (all_of p ys (λ x m. h x (Memᴰ.tail m)))

  pub any_at : (p : A → Bool) (xs : List A) → T (any p xs) → (x : A) × Memᴰ x xs × T (p x)
  any_at p [] h = absurd h
  any_at p (y ∷ ys) h = go (λ h'. any_at p ys h') (or_cases (p y) _ h)
    where
      go : (T (any p ys) → (x : A) × Memᴰ x ys × T (p x)) → T (p y) ⊎ T (any p ys) → (x : A) × Memᴰ x (y ∷ ys) × T (p x)
      go k (inl t) = (y, Memᴰ.head refl, t)
      go k (inr t) = let r = k t in (r.0, Memᴰ.tail r.1, r.2)

  pub any_of : (p : A → Bool) {x : A} {xs : List A} → Memᴰ x xs → T (p x) → T (any p xs)
  any_of p (Memᴰ.head {x = y} e) t = or_l (p y) _ (subst (λ z. T (p z)) e t)
  any_of p (Memᴰ.tail {x = y} m) t = or_r (p y) _ (any_of p m t)

pub has_at : (xs : List ℕ) {x : ℕ} → T (has xs x) → Memᴰ x xs
has_at xs {x} h = let r = any_at (eqb x) xs h in Memᴰ.cast (eqb→eq x r.0 r.2) r.1

pub has_of : {xs : List ℕ} {x : ℕ} → Memᴰ x xs → T (has xs x)
has_of {x = x} m = any_of (eqb x) m (eqb_refl x)

pub below_at : (n : ℕ) (p : ℕ → Bool) (k : ℕ) → T (below n p) → k < n → T (p k)
below_at zero p k h l = absurd (not-suc-le-zero l)
below_at (suc n) p k h l = go (λ q. below_at n p k (and_l (below n p) _ h) q) (dec_lt k n)
  where
    go : (k < n → T (p k)) → Dec (k < n) → T (p k)
    go r (yes q) = r q
    go r (no q) = let e : n ≡ k = omega arith in subst (λ j. T (p j)) e (and_r (below n p) _ h)

-- ---- the first trouble

pub unless_yes : {b : Bool} (c r : ℕ) → b ≡ true → unless b c r ≡ r
unfolding unless
unless_yes c r e = rw e

pub unless_no : {b : Bool} (c r : ℕ) → b ≡ false → unless b c r ≡ c
unfolding unless
unless_no c r e = rw e

-- ---- no trouble

pub unless_ok : (b : Bool) (c r : ℕ) → 0 < c → unless b c r ≡ 0 → T b × (r ≡ 0)
unfolding unless
unless_ok true c r l e = (tt, e)
unless_ok false c r l e = absurd (omega arith)

pub or_else_ok : (c r : ℕ) → or_else c r ≡ 0 → (c ≡ 0) × (r ≡ 0)
unfolding or_else
or_else_ok zero r e = (refl, e)
or_else_ok (suc c) r e = absurd (suc-ne-zero c e)

pub first_ok : (n : ℕ) (f : ℕ → ℕ) (k : ℕ) → first_refusal n f ≡ 0 → k < n → f k ≡ 0
unfolding first_refusal
first_ok zero f k e l = absurd (not-suc-le-zero l)
first_ok (suc n) f k e l = let r = or_else_ok (first_refusal n f) (f n) e in go (λ h. first_ok n f k r.0 h) r.1 (dec_lt k n)
  where
    go : (k < n → f k ≡ 0) → f n ≡ 0 → Dec (k < n) → f k ≡ 0
    go r q (yes h) = r h
    go r q (no h) = let s : k ≡ n = omega arith in ap f s ∙ q

-- what holds of every refusal, and of the answer where there is no trouble, holds of the step's answer
pub answer_case {ℓ} : (P : Answer → Type ℓ) (c : ℕ) (a : Answer) → ((n : ℕ) → P (refused n)) → (c ≡ 0 → P a) → P (answer c a)
unfolding answer
answer_case P zero a f g = g refl
answer_case P (suc c) a f g = f (suc c)
