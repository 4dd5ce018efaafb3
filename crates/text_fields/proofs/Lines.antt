-- Laws of a search in a list of names or words.
use Prim.Native.Nat.{ℕ, zero, suc, ◌+◌, ◌<◌}
use mathlib.Core.Path.{◌≡◌, refl, sym, ◌∙◌}
use mathlib.Core.Bool.{Bool, true, false}
use mathlib.Core.List.{List, [], ◌∷◌}
use native.Mathlib.Omega.{arith}
use native.Mathlib.Nat.{add-zero, add-suc, suc-add}
use lib.ListN.{length, take, drop, get_or}
use lib.Seq.{drop-cons}
use Rattle.text_fields.specs.Split.{pick, same, bytes}
use Rattle.text_fields.specs.Words.{index_from, index_or, ref_of}
use Rattle.std.specs.Prelude.{Some, None}

-- none of these words is the field's
abbrev pub Missed : List (List ℕ) → List ℕ → Type 0
Missed [] f = Unit {0}
Missed (w ∷ ws) f = (same w f ≡ false) × Missed ws f

-- a search that has passed the first j words
pub index_after : (k : ℕ) (ws : List (List ℕ)) (f : List ℕ) (j : ℕ) → Missed (take j ws) f → index_from k ws f ≡ index_from (k + j) (drop j ws) f
index_after k ws f zero m = rw add-zero
index_after k [] f (suc j) m = refl
index_after k (w ∷ ws) f (suc j) m = rw (m.0, add-suc) (index_after (suc k) ws f j m.1 ∙ rw suc-add)

pub index_missed : (k : ℕ) (ws : List (List ℕ)) (f : List ℕ) → Missed ws f → index_from k ws f ≡ None
index_missed k [] f m = refl
index_missed k (w ∷ ws) f m = rw m.0 (index_missed (suc k) ws f m.1)

pub index_hit : (k : ℕ) (ws : List (List ℕ)) (f : List ℕ) (j : ℕ) → Missed (take j ws) f → j < length ws → same (get_or ws j []) f ≡ true
    → index_from k ws f ≡ Some (k + j)
index_hit k ws f j m h e = index_after k ws f j m ∙ rw (drop-cons ws j [] h, e)

pub found_at_lem : (k j : ℕ) (ws : List (List ℕ)) (f : List ℕ) → index_from j ws f ≡ Some k → Some k ≡ index_from j ws f
found_at_lem k j ws f e = sym e

-- what is found lies in the list
pub index_below : (k : ℕ) (fs : List (List ℕ)) (f : List ℕ) (i : ℕ) → index_from k fs f ≡ Some i → i < k + length fs
index_below k [] f i e = absurd (let z : ◌≡◌ {A = ℕ} 0 1 = cc in omega arith)
index_below k (x ∷ xs) f i e = go (index_below (suc k) xs f i) (same x f) e where
  go : (index_from (suc k) xs f ≡ Some i → i < suc k + length xs) → (b : Bool) → pick b (Some k) (index_from (suc k) xs f) ≡ Some i → i < k + suc (length xs)
  go ih true p = let q : k ≡ i = cc in omega arith
  go ih false p = omega (arith, ih p)

-- what a field says of a list
module _ (fs : List (List ℕ)) (f : List ℕ) where
  pub ref_blank : same f (bytes "-") ≡ true → 65535 ≡ ref_of fs f
  unfolding ref_of
  ref_blank e = rw e

  module _ (no : same f (bytes "-") ≡ false) where
    pub ref_none : index_from 0 fs f ≡ None → 65534 ≡ ref_of fs f
    unfolding ref_of
    ref_none e = rw (no, e)

    pub ref_found : index_or (index_from 0 fs f) ≡ ref_of fs f
    unfolding ref_of
    ref_found = rw no

    pub ref_at : (k : ℕ) → index_from 0 fs f ≡ Some k → k ≡ ref_of fs f
    unfolding ref_of
    ref_at k e = rw (no, e)
