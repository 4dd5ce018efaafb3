-- The fields of a line that is well formed are names.
use Prim.Native.Nat.{ℕ, zero, suc, ◌+◌, ◌≤◌, ◌<◌}
use mathlib.Core.Path.{◌≡◌, refl}
use mathlib.Core.Bool.{Bool, true, false}
use mathlib.Core.List.{List, [], ◌∷◌}
use native.Mathlib.Omega.{arith}
use native.Mathlib.Nat.{le_of_suc-le-suc, add-zero}
use borrow.Author.Tests.{eqb-true, leb-true, eq-eqb, ne_eqb}
use lib.Dec.{eqb, leb}
use lib.ListN.{length, get_or}
use Rattle.std.proofs.Common.{Bor, ◌∙◌, add-one}
use Rattle.text_fields.specs.Split.{pick, contents}
use Rattle.text_fields.specs.Class.{named}
use Rattle.text_fields.specs.Number.{value, is_number}
use Rattle.text_fields.specs.Shape.{Shape, filled, spaced, well_formed, first_malformed, shape_at, shape_of}
use Rattle.std.specs.Prelude.{Ok, Err}
use Rattle.text_names.proofs.Table.{both}

-- every field of a spaced line is filled
spaced_at : (fs : List (List ℕ)) (k : ℕ) → spaced fs ≡ true → k < length fs → filled (get_or fs k []) ≡ true
spaced_at [] k e h = absurd (omega arith)
spaced_at (f ∷ fs) zero e h = (both (filled f) (spaced fs) e).0
spaced_at (f ∷ fs) (suc k) e h = spaced_at fs k (both (filled f) (spaced fs) e).1 (le_of_suc-le-suc h)

-- where no field is malformed, every field is well formed
formed_at : (v j : ℕ) (fs : List (List ℕ)) (k : ℕ) → first_malformed v (suc j) fs ≡ 0 → k < length fs → well_formed (eqb (suc j + k) v) (get_or fs k []) ≡ true
formed_at v j [] k e h = absurd (omega arith)
formed_at v j (f ∷ fs) k e h = go (λ i q l. formed_at v (suc j) fs i q l) (well_formed (eqb (suc j) v) f) refl e where
  here : ((i : ℕ) → first_malformed v (suc (suc j)) fs ≡ 0 → i < length fs → well_formed (eqb (suc (suc j) + i) v) (get_or fs i []) ≡ true)
      → (i : ℕ) → well_formed (eqb (suc j) v) f ≡ true → first_malformed v (suc (suc j)) fs ≡ 0 → i < suc (length fs)
      → well_formed (eqb (suc j + i) v) (get_or (f ∷ fs) i []) ≡ true
  here ih zero p q l = rw (add-zero (suc j)) p
  here ih (suc i) p q l = let s : suc j + suc i ≡ suc (suc j) + i = omega arith in rw s (ih i q (le_of_suc-le-suc l))

  go : ((i : ℕ) → first_malformed v (suc (suc j)) fs ≡ 0 → i < length fs → well_formed (eqb (suc (suc j) + i) v) (get_or fs i []) ≡ true)
      → (t : Bool) → well_formed (eqb (suc j) v) f ≡ t → pick t (first_malformed v (suc (suc j)) fs) (suc j) ≡ 0
      → well_formed (eqb (suc j + k) v) (get_or (f ∷ fs) k []) ≡ true
  go ih true p q = here ih k p q h
  go ih false p q = absurd (omega arith)

record Well (columns v : ℕ) (fs : List (List ℕ)) : Type 0 where
  is_spaced : spaced fs ≡ true
  is_long : length fs ≡ columns
  is_formed : first_malformed v 1 fs ≡ 0

shape_parts : (columns v : ℕ) (fs : List (List ℕ)) → shape_of columns v fs ≡ Ok tt → Well columns v fs
unfolding shape_of
shape_parts columns v fs e = one (spaced fs) refl e where
  three : (t : Bool) → eqb (first_malformed v 1 fs) 0 ≡ t → pick {A = Shape} t (Ok tt) (Err (first_malformed v 1 fs)) ≡ Ok tt → first_malformed v 1 fs ≡ 0
  three true p q = eqb-true (first_malformed v 1 fs) 0 p
  three false p q = cc

  two : spaced fs ≡ true → (t : Bool) → eqb (length fs) columns ≡ t → pick {A = Shape} t (shape_at (first_malformed v 1 fs)) (Err 0) ≡ Ok tt → Well columns v fs
  two s true p q = record { is_spaced = s; is_long = eqb-true (length fs) columns p; is_formed = three (eqb (first_malformed v 1 fs) 0) refl q }
  two s false p q = absurd cc

  one : (t : Bool) → spaced fs ≡ t → pick {A = Shape} t (pick (eqb (length fs) columns) (shape_at (first_malformed v 1 fs)) (Err 0)) (Err 0) ≡ Ok tt
      → Well columns v fs
  one true p q = two p (eqb (length fs) columns) refl q
  one false p q = absurd cc

-- a field of a line with no value column
module _ (columns : ℕ) (fs : List (List ℕ)) (k : ℕ) (e : shape_of columns 0 fs ≡ Ok tt) (h : k < columns) where
  pub field_named : named (get_or fs k []) ≡ true
  field_named =
      let w = shape_parts columns 0 fs e in
      (both (leb 1 (length (get_or fs k []))) (named (get_or fs k [])) (spaced_at fs k w.is_spaced (omega (arith, w.is_long)))).1

  pub field_short : length (get_or fs k []) ≤ 64
  field_short =
      let w = shape_parts columns 0 fs e in
      let f : well_formed (eqb (1 + k) 0) (get_or fs k []) ≡ true = formed_at 0 0 fs k w.is_formed (omega (arith, w.is_long)) in
      let z : eqb (1 + k) 0 ≡ false = ne_eqb (1 + k) 0 (λ y. omega arith) in
      let g : leb (length (get_or fs k [])) 64 ≡ true = rw z at f in
      leb-true (length (get_or fs k [])) 64 g

-- the field of the value column holds a value
pub field_valued : (columns k : ℕ) (fs : List (List ℕ)) → shape_of columns (suc k) fs ≡ Ok tt → k < columns → is_number (value (get_or fs k [])) ≡ true
field_valued columns k fs e h =
    let w = shape_parts columns (suc k) fs e in
    let f : well_formed (eqb (1 + k) (suc k)) (get_or fs k []) ≡ true = formed_at (suc k) 0 fs k w.is_formed (omega (arith, w.is_long)) in
    rw (eq-eqb (1 + k) (suc k) (omega arith)) at f

-- field k of slices, as the code reads it
abbrev pub field_of : List (Bor (List ℕ)) → ℕ → List ℕ
field_of fs k = (get_or fs k (record { ref_ptr = (0, 0); now = [] })).now

pub contents_at : (fs : List (Bor (List ℕ))) (k : ℕ) → get_or (contents fs) k [] ≡ field_of fs k
contents_at [] zero = refl
contents_at [] (suc k) = refl
contents_at (f ∷ fs) zero = refl
contents_at (f ∷ fs) (suc k) = contents_at fs k

-- the same of slices
module _ (columns : ℕ) (fs : List (Bor (List ℕ))) (k : ℕ) where
  pub named_at : shape_of columns 0 (contents fs) ≡ Ok tt → k < columns → named (field_of fs k) ≡ true
  named_at e h = rw (contents_at fs k) at (field_named columns (contents fs) k e h)

  pub short_at : shape_of columns 0 (contents fs) ≡ Ok tt → k < columns → length (field_of fs k) ≤ 64
  short_at e h = rw (contents_at fs k) at (field_short columns (contents fs) k e h)

  pub valued_at : (v : ℕ) → shape_of columns v (contents fs) ≡ Ok tt → v ≡ k + 1 → k < columns → is_number (value (field_of fs k)) ≡ true
  valued_at v e q h = rw (contents_at fs k) at (field_valued columns k (contents fs) (rw (q ∙ add-one k) at e) h)
