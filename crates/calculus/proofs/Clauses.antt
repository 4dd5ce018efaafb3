-- One member of a list taken out, as the pairing of a clause with its members does.
use mathlib.Core.Path.{◌≡◌, refl}
use mathlib.Core.Logic.{◌⊎◌, inl, inr}
use mathlib.Core.Bool.{Bool}
use mathlib.Core.List.Memᴰ
use mathlib.Core.List.{List, [], ◌∷◌, ◌++◌, Memᴰ}
use Prim.Native.Nat.{ℕ}
use lib.Dec.{T}
use Rattle.calculus.specs.Clauses.{taking_one}
use Rattle.calculus.proofs.Facts.{or_cases, or_l, or_r}

-- what is left when one is taken out was there
pub rest_in : (x : ℕ) {y : ℕ} (before after : List ℕ) → Memᴰ y (before ++ after) → Memᴰ y (before ++ (x ∷ after))
rest_in x {y} before after m = go (Memᴰ.append_cases before m)
  where
    go : Memᴰ y before ⊎ Memᴰ y after → Memᴰ y (before ++ (x ∷ after))
    go (inl a) = Memᴰ.append_left (x ∷ after) a
    go (inr b) = Memᴰ.append_right before (Memᴰ.tail b)

pub in_middle : {x : ℕ} (before after : List ℕ) → Memᴰ x (before ++ (x ∷ after))
in_middle before after = Memᴰ.append_right before (Memᴰ.head refl)

-- the one that is taken out, of which the test holds with the others
pub record Taken (xs : List ℕ) (f : ℕ → List ℕ → Bool) : Type 0 where
  pub before : List ℕ
  pub one : ℕ
  pub after : List ℕ
  pub here : xs ≡ before ++ (one ∷ after)
  pub test : T (f one (before ++ after))

pub taken : (xs : List ℕ) (f : ℕ → List ℕ → Bool) → T (taking_one xs f) → Taken xs f
taken [] f h = absurd h
taken (x ∷ xs) f h = go (λ k. taken xs (λ y rest. f y (x ∷ rest)) k) (or_cases (f x xs) _ h)
  where
    go : (T (taking_one xs (λ y rest. f y (x ∷ rest))) → Taken xs (λ y rest. f y (x ∷ rest)))
        → T (f x xs) ⊎ T (taking_one xs (λ y rest. f y (x ∷ rest))) → Taken (x ∷ xs) f
    go r (inl t) = record { before = []; one = x; after = xs; here = refl; test = t }
    go r (inr t) =
        let q = r t in
        record { before = x ∷ q.before; one = q.one; after = q.after; here = λ i. x ∷ q.here i; test = q.test }

pub taking : (f : ℕ → List ℕ → Bool) (before : List ℕ) (x : ℕ) (after : List ℕ) → T (f x (before ++ after))
    → T (taking_one (before ++ (x ∷ after)) f)
taking f [] x after h = or_l (f x after) _ h
taking f (y ∷ before) x after h = or_r (f y (before ++ (x ∷ after))) _ (taking (λ z rest. f z (y ∷ rest)) before x after h)
