-- Laws of rows, over plain lists and counts.
use Rattle.std.proofs.Common.{◌≡◌, ℕ, suc, Bool, true, false, Option, Some, None, List, [], ◌∷◌, ◌+◌, ◌<◌, length, refl, arith}
use Rattle.std.specs.Option.{option_map}
use Rattle.text_fields.specs.Split.{pick, same, bytes}
use Rattle.text_fields.specs.Words.{index_from}
use Rattle.text_fields.proofs.Lines.{index_below}
use Rattle.text_names.specs.Table.{names_from}
use Rattle.text_names.proofs.Table.{length_names}
use Rattle.text_rows.specs.Rows.{is_at, is_taken}

-- a search that counts from a later number
pub index_later : (k : ℕ) (l : List (List ℕ)) (f : List ℕ) → index_from (suc k) l f ≡ option_map suc (index_from k l f)
index_later k [] f = refl
index_later k (x ∷ xs) f = go (same x f) (index_later (suc k) xs f) where
  go : (b : Bool) → index_from (suc (suc k)) xs f ≡ option_map suc (index_from (suc k) xs f)
      → pick b (Some (suc k)) (index_from (suc (suc k)) xs f) ≡ option_map suc (pick b (Some k) (index_from (suc k) xs f))
  go true ih = refl
  go false ih = ih

-- a name that is found is one of them
pub name_below : (table : List ℕ) (base count : ℕ) (f : List ℕ) (k : ℕ) → index_from 0 (names_from table base count) f ≡ Some k → k < count
name_below table base count f k e =
    let h : k < 0 + length (names_from table base count) = index_below 0 (names_from table base count) f k e in
    omega (arith, length_names table base count)

-- a name that is not taken stands nowhere
pub untaken : (names : List (List ℕ)) (f : List ℕ) → is_taken names f ≡ false → index_from 0 names f ≡ None
unfolding is_taken
untaken names f e = go (same f (bytes "-")) (same f (bytes "prop")) (index_from 0 names f) refl e where
  go : (x y : Bool) (r : Option ℕ) → index_from 0 names f ≡ r → pick x true (pick y true (is_at r)) ≡ false → index_from 0 names f ≡ None
  go true y r p q = cc
  go false true r p q = cc
  go false false (Some k) p q = cc
  go false false None p q = p
