-- The arguments of a term row, column by column; a free head's uses; what each head asks, by what the code has read.
use mathlib.Core.Path.{◌≡◌, refl, sym, ◌∙◌}
use mathlib.Core.Bool.{Bool, true, false, not, ◌&&◌, ◌||◌, cond, true≢false, and-true, and-false}
use mathlib.Core.List.{List, [], ◌∷◌, map}
use Prim.Native.Nat.{ℕ, ◌+◌}
use native.Mathlib.Omega.{arith}
use lib.ListN.{length, take}
use lib.Dec.{eqb, leb, ltb}
use native.Mathlib.Numerals.{one-add}
use Rattle.std.specs.Prelude.{Option, Some, None, unwrap_or}
use Rattle.std.proofs.lemmas.List.Sums.{prefix_len-le-length}
use Rattle.std.specs.List.{list_all, position_or_len}
use borrow.Author.Tests.{eqb-true, eq-eqb, ltb-false}
use Rattle.calculus.specs.declared.Head.TheVariants.{Free}
use Rattle.calculus.specs.declared.Term.{Term}
use Rattle.calculus.proofs.Facts.{both_true, none_true}
use Rattle.calculus.specs.Lists.{all, eq_list}
use Rattle.calculus.specs.Sheets.{blank, sort_rows}
use Rattle.calculus.specs.Terms.{head, sort, prop, filled, args, head_of, suits, same_use, first_use}
use Rattle.term_suits.specs.Suits.{Known}

-- ---- arguments

-- the columns before the first blank
pub filled_is : (xs : List ℕ) → take (position_or_len (λ x. eqb x blank) xs) xs ≡ filled xs
filled_is [] = refl
filled_is (x ∷ xs) = go (eqb x blank) (filled_is xs)
  where
    go : (g : Bool) → take (position_or_len (λ y. eqb y blank) xs) xs ≡ filled xs
        → take (cond (not g) (1 + position_or_len (λ y. eqb y blank) xs) 0) (x ∷ xs) ≡ cond g [] (x ∷ filled xs)
    go true e = refl
    go false e = rw (one-add, e)

-- where the first blank is, or where the columns end
pub first_blank : (xs : List ℕ) (o : Option ℕ) → let n = position_or_len (λ x. eqb x blank) xs in o ≡ cond (ltb n (length xs)) (Some n) None
    → take (unwrap_or o (length xs)) xs ≡ filled xs
first_blank xs o e = rw e (go (ltb (position_or_len (λ x. eqb x blank) xs) (length xs)) refl)
  where
    go : (g : Bool) → ltb (position_or_len (λ x. eqb x blank) xs) (length xs) ≡ g
        → take (unwrap_or (cond g (Some (position_or_len (λ x. eqb x blank) xs)) None) (length xs)) xs ≡ filled xs
    go true q = filled_is xs
    go false q =
        let n : length xs ≡ position_or_len (λ x. eqb x blank) xs = omega (arith, ltb-false, prefix_len-le-length (λ x. not (eqb x blank)) xs) in
        rw n (filled_is xs)

-- what `all` answers of a list
pub all_is : (p : ℕ → Bool) (xs : List ℕ) → list_all p xs ≡ all p xs
all_is p [] = refl
all_is p (x ∷ xs) = rw (all_is p xs)

-- ---- arguments, one more column in front

-- one side is at its end, and the other is not
pub sorts_end : (f : ℕ → ℕ) (x y : ℕ) (xs ys : List ℕ) → (x ≡ y → ⊥) → (eqb x blank || eqb y blank) ≡ true
    → false ≡ eq_list (map f (filled (x ∷ xs))) (map f (filled (y ∷ ys)))
sorts_end f x y xs ys d e = go (eqb x blank) refl (eqb y blank) refl e
  where
    go : (g : Bool) → eqb x blank ≡ g → (h : Bool) → eqb y blank ≡ h → (g || h) ≡ true
        → false ≡ eq_list (map f (cond g [] (x ∷ filled xs))) (map f (cond h [] (y ∷ filled ys)))
    go true p true q r = absurd (d (eqb-true x blank p ∙ sym (eqb-true y blank q)))
    go true p false q r = refl
    go false p true q r = refl
    go false p false q r = absurd (true≢false (sym r))

-- both sides go on
pub sorts_more : (f : ℕ → ℕ) (x y : ℕ) (xs ys : List ℕ) → (eqb x blank || eqb y blank) ≡ false
    → eq_list (map f (filled (x ∷ xs))) (map f (filled (y ∷ ys))) ≡ (eqb (f x) (f y) && eq_list (map f (filled xs)) (map f (filled ys)))
sorts_more f x y xs ys e = let n = none_true (eqb x blank) (eqb y blank) e in rw (n.0, n.1)

-- one term on both sides
pub sorts_same : (f : ℕ → ℕ) (x y : ℕ) (xs ys : List ℕ) → x ≡ y
    → eq_list (map f (filled (x ∷ xs))) (map f (filled (y ∷ ys))) ≡ (eqb x blank || eq_list (map f (filled xs)) (map f (filled ys)))
sorts_same f x y xs ys e = rw (← e) (go (eqb x blank))
  where
    go : (g : Bool) → eq_list (map f (cond g [] (x ∷ filled xs))) (map f (cond g [] (x ∷ filled ys))) ≡ (g || eq_list (map f (filled xs)) (map f (filled ys)))
    go true = refl
    go false = rw (eq-eqb (f x) (f x) refl)

-- ---- the use of a head

eqlist_self : (xs : List ℕ) → eq_list xs xs ≡ true
eqlist_self [] = refl
eqlist_self (x ∷ xs) = rw (eq-eqb x x refl, eqlist_self xs)

pub same_self : (ts : List ℕ) (u t : ℕ) → u ≡ t → true ≡ same_use ts u t
unfolding same_use
same_self ts u t e = rw (e, eq-eqb (sort ts t) (sort ts t) refl, eqlist_self (map (sort ts) (args ts t)))

-- arguments of the same sorts are props alike
same_plain : (f : ℕ → ℕ) (xs ys : List ℕ) → eq_list (map f xs) (map f ys) ≡ true → all (λ a. not (eqb (f a) 0)) xs ≡ all (λ a. not (eqb (f a) 0)) ys
same_plain f [] [] e = refl
same_plain f [] (y ∷ ys) e = absurd (true≢false (sym e))
same_plain f (x ∷ xs) [] e = absurd (true≢false (sym e))
same_plain f (x ∷ xs) (y ∷ ys) e =
    let b = both_true (eqb (f x) (f y)) (eq_list (map f xs) (map f ys)) e in
    rw (eqb-true (f x) (f y) b.0, same_plain f xs ys b.1)

alike : (ts : List ℕ) (u t : ℕ) → same_use ts u t ≡ true → (sort ts u ≡ sort ts t) × (eq_list (map (sort ts) (args ts u)) (map (sort ts) (args ts t)) ≡ true)
unfolding same_use
alike ts u t e = let b = both_true (eqb (sort ts u) (sort ts t)) _ e in (eqb-true _ _ b.0, b.1)

-- a free head used for the first time
pub free_first : (ss ts : List ℕ) (t u : ℕ) → u ≡ t → u ≡ first_use ts t
    → (leb (sort ts t) (sort_rows ss) && all (λ a. not (prop ts a)) (args ts t)) ≡ suits ss ts t Free
unfolding suits
free_first ss ts t u e f = rw (← f, e, ← same_self ts t t refl, and-true)

-- a free head used before, by a row that suits it
pub free_again : (ss ts : List ℕ) (t u : ℕ) {e : Term} {r : Bool} → Known ss ts t e u → head_of (head ts t) ≡ Free → (u ≡ t → ⊥)
    → r ≡ same_use ts u t → r ≡ suits ss ts t Free
unfolding suits
free_again ss ts t u K h d s = s ∙ go (same_use ts u t) refl
  where
    suited : (leb (sort ts u) (sort_rows ss) && all (λ a. not (prop ts a)) (args ts u)) ≡ true
    suited = (both_true _ _ (rw (K.like, h) at (K.suit (omega (arith, K.low, d))))).0

    go : (g : Bool) → same_use ts u t ≡ g
        → same_use ts u t ≡ ((leb (sort ts t) (sort_rows ss) && all (λ a. not (prop ts a)) (args ts t)) && same_use ts (first_use ts t) t)
    go true e =
        let b = alike ts u t e in
        rw (← K.first, e, and-true, ← b.0, ← same_plain (sort ts) (args ts u) (args ts t) b.1, suited)
    go false e = rw (← K.first, e, and-false)
