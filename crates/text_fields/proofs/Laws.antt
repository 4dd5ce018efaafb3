-- Laws of the definitions of specs/.
use Prim.Native.Nat.{ℕ, zero, suc, ◌+◌, ◌≤◌, ◌<◌}
use mathlib.Core.Path.{◌≡◌, refl, ap, sym, ◌∙◌}
use mathlib.Core.Bool.{Bool, true, false, ◌&&◌}
use mathlib.Core.List.{List, [], ◌∷◌}
use native.Mathlib.Omega.{arith}
use native.Mathlib.Numerals.{add-one}
use borrow.Author.Tests.{eq-eqb, ne_eqb, eqb-true}
use lib.Dec.{eqb, leb}
use lib.ListN.{length, take, drop, get_or, length-drop}
use lib.Seq.{drop-cons, drop-drop}
use Rattle.std.specs.Cmp.Lexicographic.{pointwise}
use Rattle.text_fields.specs.Split.{pick, before, same}
use Rattle.text_fields.specs.Class.{class_of, is_space, is_newline}
use Rattle.text_fields.specs.declared.ByteClass.{ByteClass}
use Rattle.text_fields.specs.declared.ByteClass.TheVariants.{Space, Newline, Name, Other}

-- what holds neither of names nor of other bytes holds of no byte that is neither a space nor a newline
neither : (f : ByteClass → Bool) → f Name ≡ false → f Other ≡ false → (x y : Bool) → f (pick x (pick y Name Other) Other) ≡ false
neither f n o true true = n
neither f n o true false = o
neither f n o false y = o

-- a byte is of the class of spaces just when it is 32
pub space_is : (b : ℕ) → is_space (class_of b) ≡ eqb b 32
space_is b = go (eqb b 32) (eqb b 10) refl where
  go : (s l : Bool) → eqb b 32 ≡ s → is_space (pick s Space (pick l Newline (pick (leb 33 b) (pick (leb b 126) Name Other) Other))) ≡ eqb b 32
  go true l e = sym e
  go false true e = sym e
  go false false e = neither is_space refl refl (leb 33 b) (leb b 126) ∙ sym e

-- a byte ends a line just when it is 10
pub newline_is : (b : ℕ) → is_newline (class_of b) ≡ eqb b 10
newline_is b = go (eqb b 32) (eqb b 10) refl refl where
  go : (s l : Bool) → eqb b 32 ≡ s → eqb b 10 ≡ l
      → is_newline (pick s Space (pick l Newline (pick (leb 33 b) (pick (leb b 126) Name Other) Other))) ≡ eqb b 10
  go true l d e = let z : b ≡ 32 = eqb-true b 32 d in rw z
  go false true d e = sym e
  go false false d e = neither is_newline refl refl (leb 33 b) (leb b 126) ∙ sym e

-- the bytes from the ith on
module _ (c : ℕ) (l : List ℕ) (i : ℕ) where
  pub before_hit : i < length l → get_or l i 0 ≡ c → before c (drop i l) ≡ 0
  before_hit h e = rw (drop-cons l i 0, eq-eqb _ _ e)

  pub before_miss : i < length l → (get_or l i 0 ≡ c → ⊥) → before c (drop i l) ≡ suc (before c (drop (i + 1) l))
  before_miss h e = rw (drop-cons l i 0, ne_eqb _ _ e, add-one)

-- some bytes without `c` at the front
before_past : (c : ℕ) (l : List ℕ) (n : ℕ) → n ≤ length l → before c (take n l) ≡ length (take n l) → before c l ≡ n + before c (drop n l)
before_past c l zero h e = omega arith
before_past c [] (suc n) h e = omega arith
before_past c (b ∷ bs) (suc n) h e = go (before_past c bs n (omega arith)) (eqb b c) e where
  go : (before c (take n bs) ≡ length (take n bs) → before c bs ≡ n + before c (drop n bs)) → (t : Bool)
      → pick t 0 (suc (before c (take n bs))) ≡ suc (length (take n bs)) → pick t 0 (suc (before c bs)) ≡ suc n + before c (drop n bs)
  go ih true p = omega arith
  go ih false p = omega (arith, ih (omega arith))

pub before_block : (c : ℕ) (l : List ℕ) (i n : ℕ) → i + n ≤ length l → before c (take n (drop i l)) ≡ length (take n (drop i l))
    → before c (drop i l) ≡ n + before c (drop (i + n) l)
before_block c l i n h e = before_past c (drop i l) n (omega (arith, length-drop i l)) e ∙ ap (λ (k : List ℕ). n + before c k) (drop-drop n i l)

-- a test that does not matter
pub pick_both : {A : Type 0} {a b x : A} (t : Bool) → a ≡ x → b ≡ x → pick t a b ≡ x
pick_both true p q = p
pick_both false p q = q

-- a test that is known
pub pick_true : {A : Type 0} {t : Bool} (a b : A) → t ≡ true → pick t a b ≡ a
pick_true a b e = rw e

pub pick_false : {A : Type 0} {t : Bool} (a b : A) → t ≡ false → pick t a b ≡ b
pick_false a b e = rw e

pub same_length : (a b : List ℕ) → (length a ≡ length b → ⊥) → same a b ≡ false
same_length [] [] h = absurd (h refl)
same_length [] (y ∷ ys) h = refl
same_length (x ∷ xs) [] h = refl
same_length (x ∷ xs) (y ∷ ys) h = pick_both (eqb x y) (same_length xs ys (λ e. h (ap suc e))) refl

-- the comparison of slices is that of the words
pub same_pointwise : (a b : List ℕ) → pointwise eqb a b ≡ same a b
same_pointwise [] [] = refl
same_pointwise [] (y ∷ ys) = refl
same_pointwise (x ∷ xs) [] = refl
same_pointwise (x ∷ xs) (y ∷ ys) = go (eqb x y) (same_pointwise xs ys) where
  go : (t : Bool) → pointwise eqb xs ys ≡ same xs ys → (t && pointwise eqb xs ys) ≡ pick t (same xs ys) false
  go true h = h
  go false h = refl

-- lists that are the same are equal
pub same_equal : (a b : List ℕ) → same a b ≡ true → a ≡ b
same_equal [] [] e = refl
same_equal [] (y ∷ ys) e = absurd (let z : ◌≡◌ {A = ℕ} 0 1 = cc in omega arith)
same_equal (x ∷ xs) [] e = absurd (let z : ◌≡◌ {A = ℕ} 0 1 = cc in omega arith)
same_equal (x ∷ xs) (y ∷ ys) e = go (same_equal xs ys) (eqb x y) refl e where
  go : (same xs ys ≡ true → xs ≡ ys) → (t : Bool) → eqb x y ≡ t → pick t (same xs ys) false ≡ true → x ∷ xs ≡ y ∷ ys
  go ih true p q = let h : x ≡ y = eqb-true x y p in let k : xs ≡ ys = ih q in cc
  go ih false p q = absurd (let z : ◌≡◌ {A = ℕ} 0 1 = cc in omega arith)

-- lists that differ in some way are not the same
pub same_unequal : (a b : List ℕ) → (a ≡ b → ⊥) → same a b ≡ false
same_unequal a b h = go (same a b) refl where
  go : (t : Bool) → same a b ≡ t → same a b ≡ false
  go true e = absurd (h (same_equal a b e))
  go false e = e

-- a list is the same as itself
pub same_self : (a : List ℕ) → same a a ≡ true
same_self [] = refl
same_self (x ∷ xs) = rw (eq-eqb x x refl, same_self xs)
