-- What chains over the premise columns answer.
use mathlib.Core.Path.{◌≡◌, refl}
use mathlib.Core.Bool.{Bool, true, false, not, ◌&&◌, cond}
use mathlib.Core.List.{List, [], ◌∷◌}
use Prim.Native.Nat.{ℕ, suc, ◌+◌}
use native.Mathlib.Omega.{arith}
use native.Mathlib.Numerals.{one-add}
use lib.ListN.{length, take}
use lib.Dec.{eqb, ltb}
use borrow.Author.Tests.{ltb-false}
use Rattle.std.specs.Prelude.{Option, Some, None, unwrap_or}
use Rattle.std.specs.List.{list_all, prefix_len, position_or_len}
use Rattle.std.proofs.lemmas.List.Sums.{prefix_len-le-length}
use Rattle.calculus.specs.Lists.{all}
use Rattle.calculus.specs.Sheets.{blank}
use Rattle.calculus.specs.Terms.{filled}
use Rattle.calculus.specs.Steps.{is_filled}
use Rattle.calculus.specs.Place.{first_fault}

-- a test of the columns before the first blank
pub all_filled_is : (p : ℕ → Bool) (xs : List ℕ) → list_all p (take (prefix_len (λ y. not (eqb y blank)) xs) xs) ≡ all p (filled xs)
all_filled_is p [] = refl
all_filled_is p (x ∷ xs) = go (eqb x blank) (all_filled_is p xs)
  where
    go : (g : Bool) → list_all p (take (prefix_len (λ y. not (eqb y blank)) xs) xs) ≡ all p (filled xs)
        → list_all p (take (cond (not g) (1 + prefix_len (λ y. not (eqb y blank)) xs) 0) (x ∷ xs)) ≡ all p (cond g [] (x ∷ filled xs))
    go true e = refl
    go false e = rw (one-add, e)

-- the first column with a fault, counted from c
first_fault_is : (fault : ℕ → Bool) (c : ℕ) (xs : List ℕ) → first_fault fault c xs ≡ c + position_or_len (λ y. is_filled y && fault y) xs
first_fault_is fault c [] = omega arith
first_fault_is fault c (x ∷ xs) = go (is_filled x && fault x) (first_fault_is fault (suc c) xs)
  where
    go : (g : Bool) → first_fault fault (suc c) xs ≡ suc c + position_or_len (λ y. is_filled y && fault y) xs
        → cond g c (first_fault fault (suc c) xs) ≡ c + cond (not g) (1 + position_or_len (λ y. is_filled y && fault y) xs) 0
    go true e = omega arith
    go false e = omega arith

-- and by what `position` answered
pub fault_at : (fault : ℕ → Bool) (c : ℕ) (xs : List ℕ) (o : Option ℕ)
    → let n = position_or_len (λ y. is_filled y && fault y) xs in o ≡ cond (ltb n (length xs)) (Some n) None
    → c + unwrap_or o (length xs) ≡ first_fault fault c xs
fault_at fault c xs o e = rw (e, first_fault_is fault c xs) (go (ltb (position_or_len (λ y. is_filled y && fault y) xs) (length xs)) refl)
  where
    go : (g : Bool) → ltb (position_or_len (λ y. is_filled y && fault y) xs) (length xs) ≡ g
        → c + unwrap_or (cond g (Some (position_or_len (λ y. is_filled y && fault y) xs)) None) (length xs)
        ≡ c + position_or_len (λ y. is_filled y && fault y) xs
    go true q = refl
    go false q = omega (arith, ltb-false, prefix_len-le-length (λ y. not (is_filled y && fault y)) xs)
