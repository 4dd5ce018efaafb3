-- Laws of the shape of a line, field after field.
use Prim.Native.Nat.{ℕ, zero, suc, ◌+◌, ◌-◌, ◌≤◌, ◌<◌}
use mathlib.Core.Path.{◌≡◌, refl, sym, ◌∙◌}
use mathlib.Core.Bool.{Bool, true, false}
use mathlib.Core.List.{List, [], ◌∷◌}
use mathlib.Core.Logic.{◌⊎◌, inl, inr}
use native.Mathlib.Omega.{arith}
use native.Mathlib.Numerals.{add-one}
use borrow.Author.Tests.{eq-eqb, ne_eqb, eqb-true, le-leb}
use lib.Dec.{eqb}
use lib.ListN.{length, drop, get_or, drop_of_length-le}
use lib.Seq.{drop-cons}
use Rattle.text_fields.specs.Split.{pick, pieces, prepend}
use Rattle.text_fields.specs.Number.{value, is_number}
use Rattle.text_fields.specs.Shape.{spaced, fields_are, well_formed, first_malformed, shape_at, shape_of}
use Rattle.std.specs.Prelude.{Ok, Err}

-- the fields from k on
module _ (fs : List (List ℕ)) (k : ℕ) where
  module _ (v : ℕ) where
    pub formed_more : k < length fs → well_formed (eqb (k + 1) v) (get_or fs k []) ≡ true
        → first_malformed v (k + 1) (drop k fs) ≡ first_malformed v (k + 1 + 1) (drop (k + 1) fs)
    formed_more h e = rw (drop-cons fs k [], e, add-one k, add-one (suc k))

    pub formed_stop : k < length fs → well_formed (eqb (k + 1) v) (get_or fs k []) ≡ false → first_malformed v (k + 1) (drop k fs) ≡ k + 1
    formed_stop h e = rw (drop-cons fs k [], e)

    -- the first that is malformed
    pub formed_fault : k < length fs → well_formed (eqb (k + 1) v) (get_or fs k []) ≡ false → first_malformed v (k + 1) (drop k fs) ≡ first_malformed v 1 fs
        → Err (k + 1) ≡ shape_at (first_malformed v 1 fs)
    formed_fault h e i = rw (sym i ∙ formed_stop h e, ne_eqb (k + 1) 0 (λ z. omega arith))

    pub formed_end : length fs ≤ k → first_malformed v (k + 1) (drop k fs) ≡ 0
    formed_end h = rw drop_of_length-le

-- fields of which none is too long: that of the value column alone can be malformed
module _ (fs : List (List ℕ)) (v : ℕ) (short : (k : ℕ) → length (get_or fs k []) ≤ 64) where
  -- the first k fields are passed
  formed_past : (k : ℕ) → k ≤ length fs → ((i : ℕ) → i < k → i + 1 ≡ v → is_number (value (get_or fs i [])) ≡ true)
      → first_malformed v 1 fs ≡ first_malformed v (k + 1) (drop k fs)
  formed_past zero h s = refl
  formed_past (suc k) h s =
      rw (← add-one k)
      (formed_past k (omega arith) (λ i j. s i (omega arith))
      ∙ formed_more fs k v (omega arith) (formed (eqb (k + 1) v) refl)) where
        formed : (t : Bool) → eqb (k + 1) v ≡ t → well_formed (eqb (k + 1) v) (get_or fs k []) ≡ true
        formed true e = rw e (s k (omega arith) (eqb-true (k + 1) v e))
        formed false e = rw e (le-leb (length (get_or fs k [])) 64 (short k))

  formed_all : ((i : ℕ) → i < length fs → i + 1 ≡ v → is_number (value (get_or fs i [])) ≡ true) → Ok tt ≡ shape_at (first_malformed v 1 fs)
  formed_all s = rw (formed_past (length fs) (omega arith) s, formed_end fs (length fs) v (omega arith))

  pub value_none : (v ≡ 0) ⊎ (length fs < v) → Ok tt ≡ shape_at (first_malformed v 1 fs)
  value_none (inl z) = formed_all (λ i h e. absurd (omega arith))
  value_none (inr z) = formed_all (λ i h e. absurd (omega arith))

  pub value_good : is_number (value (get_or fs (v - 1) [])) ≡ true → Ok tt ≡ shape_at (first_malformed v 1 fs)
  value_good t = formed_all (λ i h e. let z : v - 1 ≡ i = omega arith in rw z at t)

  pub value_bad : (v ≡ 0 → ⊥) → v ≤ length fs → is_number (value (get_or fs (v - 1) [])) ≡ false → Err v ≡ shape_at (first_malformed v 1 fs)
  value_bad some in_line t =
      let k = v - 1 in
      let z : k + 1 ≡ v = omega arith in
      let e : first_malformed v 1 fs ≡ v =
      formed_past k (omega arith) (λ i h e. absurd (omega arith)) ∙ formed_stop fs k v (omega arith) (rw (eq-eqb (k + 1) v z) t) ∙ z in
      rw (e, ne_eqb v 0 some)

-- the shape of a line
module _ (columns v : ℕ) (fs : List (List ℕ)) where
  pub shape_unfit : fields_are columns fs ≡ false → Err 0 ≡ shape_of columns v fs
  unfolding shape_of
  shape_unfit e = go (spaced fs) (eqb (length fs) columns) e where
    go : (t u : Bool) → pick t u false ≡ false → Err 0 ≡ pick t (pick u (shape_at (first_malformed v 1 fs)) (Err 0)) (Err 0)
    go true true p = absurd (let z : ◌≡◌ {A = ℕ} 0 1 = cc in omega arith)
    go true false p = refl
    go false u p = refl

  pub shape_fit : fields_are columns fs ≡ true → shape_at (first_malformed v 1 fs) ≡ shape_of columns v fs
  unfolding shape_of
  shape_fit e = go (spaced fs) (eqb (length fs) columns) e where
    go : (t u : Bool) → pick t u false ≡ true → shape_at (first_malformed v 1 fs) ≡ pick t (pick u (shape_at (first_malformed v 1 fs)) (Err 0)) (Err 0)
    go true true p = refl
    go true false p = absurd (let z : ◌≡◌ {A = ℕ} 0 1 = cc in omega arith)
    go false u p = absurd (let z : ◌≡◌ {A = ℕ} 0 1 = cc in omega arith)

-- a field is no longer than its line
field_short : (l : List ℕ) (k : ℕ) → length (get_or (pieces 32 l) k []) ≤ length l
field_short [] zero = omega arith
field_short [] (suc k) = omega arith
field_short (b ∷ bs) k = go (eqb b 32) (pieces 32 bs) (field_short bs) k where
  go : (t : Bool) (ps : List (List ℕ)) → ((k : ℕ) → length (get_or ps k []) ≤ length bs) → (k : ℕ)
      → length (get_or (pick t ([] ∷ ps) (prepend b ps)) k []) ≤ suc (length bs)
  go true ps h zero = omega arith
  go true ps h (suc k) = omega (arith, h k)
  go false [] h zero = omega arith
  go false [] h (suc k) = omega arith
  go false (p ∷ ps) h zero = omega (arith, h 0)
  go false (p ∷ ps) h (suc k) = omega (arith, h (suc k))

pub pieces_short : (l : List ℕ) → length l ≤ 64 → (k : ℕ) → length (get_or (pieces 32 l) k []) ≤ 64
pieces_short l h k = omega (arith, field_short l k)
