-- Laws of a line cut at its spaces: the bytes of names at the front of what is left, and what they say of the fields.
use Prim.Native.Nat.{ℕ, suc, ◌<◌}
use mathlib.Core.Path.{◌≡◌, refl, sym, ◌∙◌}
use mathlib.Core.Bool.{Bool, true, false}
use mathlib.Core.Logic.{◌⊎◌, inl, inr}
use mathlib.Core.List.{List, [], ◌∷◌}
use native.Mathlib.Omega.{arith}
use borrow.Author.Tests.{eq-eqb}
use lib.Dec.{eqb}
use lib.ListN.{length, take, drop, get_or}
use Rattle.text_fields.specs.Split.{pick, before, prepend, pieces}
use Rattle.text_fields.specs.Class.{class_of, is_name, named, run}

-- no separator: one piece
pub pieces_one : (c : ℕ) (l : List ℕ) → before c l ≡ length l → pieces c l ≡ l ∷ []
pieces_one c [] h = refl
pieces_one c (b ∷ bs) h = step (pieces_one c bs) (eqb b c) h where
  step : (before c bs ≡ length bs → pieces c bs ≡ bs ∷ []) → (t : Bool) → pick t 0 (suc (before c bs)) ≡ suc (length bs)
      → pick t ([] ∷ pieces c bs) (prepend b (pieces c bs)) ≡ (b ∷ bs) ∷ []
  step ih true e = absurd (omega arith)
  step ih false e = rw (ih (omega arith))

-- a separator: the piece before it, and the pieces after it
pub pieces_cut : (c : ℕ) (l : List ℕ) → before c l < length l → pieces c l ≡ take (before c l) l ∷ pieces c (drop (suc (before c l)) l)
pieces_cut c [] h = absurd (omega arith)
pieces_cut c (b ∷ bs) h = step (pieces_cut c bs) (eqb b c) h where
  step : (before c bs < length bs → pieces c bs ≡ take (before c bs) bs ∷ pieces c (drop (suc (before c bs)) bs))
      → (t : Bool) → pick t 0 (suc (before c bs)) < suc (length bs)
      → pick t ([] ∷ pieces c bs) (prepend b (pieces c bs))
      ≡ take (pick t 0 (suc (before c bs))) (b ∷ bs) ∷ pieces c (drop (suc (pick t 0 (suc (before c bs)))) (b ∷ bs))
  step ih true e = refl
  step ih false e = rw (ih (omega arith))

-- a byte of a name is no space
pub name_parted : (b : ℕ) → is_name (class_of b) ≡ true → eqb b 32 ≡ false
name_parted b e = go (eqb b 32) refl where
  go : (t : Bool) → eqb b 32 ≡ t → eqb b 32 ≡ false
  go true p =
      let f : is_name (class_of b) ≡ false = rw p in
      let w : ◌≡◌ {A = Bool} true false = sym e ∙ f in
      absurd (let z : ◌≡◌ {A = ℕ} 0 1 = cc in omega arith)
  go false p = p

-- the bytes of names at the front lie before the first space, and reach it where they stop at one or at the end
pub run_before : (l : List ℕ) → (run l ≡ length l) ⊎ (get_or l (run l) 0 ≡ 32) → before 32 l ≡ run l
run_before [] h = refl
run_before (b ∷ bs) h = go (run_before bs) (is_name (class_of b)) refl h where
  go : ((run bs ≡ length bs) ⊎ (get_or bs (run bs) 0 ≡ 32) → before 32 bs ≡ run bs) → (t : Bool) → is_name (class_of b) ≡ t
      → (pick t (suc (run bs)) 0 ≡ suc (length bs)) ⊎ (get_or (b ∷ bs) (pick t (suc (run bs)) 0) 0 ≡ 32)
      → pick (eqb b 32) 0 (suc (before 32 bs)) ≡ pick t (suc (run bs)) 0
  go ih true e (inl p) = rw (name_parted b e, ih (inl (omega arith)))
  go ih true e (inr p) = rw (name_parted b e, ih (inr p))
  go ih false e (inl p) = absurd (omega arith)
  go ih false e (inr p) = rw (eq-eqb b 32 p)

pub run_named : (l : List ℕ) → named (take (run l) l) ≡ true
run_named [] = refl
run_named (b ∷ bs) = go (run_named bs) (is_name (class_of b)) refl where
  go : named (take (run bs) bs) ≡ true → (t : Bool) → is_name (class_of b) ≡ t → named (take (pick t (suc (run bs)) 0) (b ∷ bs)) ≡ true
  go ih true e = rw (e, ih)
  go ih false e = refl

-- what a test of a byte tells
pub no_name : {b x : Bool} → b ≡ x → b ≡ false → x ≡ false
no_name e h = sym e ∙ h

pub a_name : {b x : Bool} → b ≡ x → b ≡ true → x ≡ false → ⊥
a_name e h q = let z : ◌≡◌ {A = Bool} true false = sym h ∙ e ∙ q in absurd (let y : ◌≡◌ {A = ℕ} 0 1 = cc in omega arith)
