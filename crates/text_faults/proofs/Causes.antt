-- Laws of causes, test after test as the code has them.
use Rattle.std.proofs.Common.{◌≡◌, ℕ, suc, ◌+◌, ◌<◌, Bool, true, false, ◌&&◌, ◌||◌, List, [], ◌∷◌, length, drop, get_or, refl, sym, ◌∙◌, arith}
use Rattle.std.specs.List.{list_all, list_any}
use lib.Dec.{eqb, ltb}
use lib.Seq.{drop-cons}
use native.Mathlib.Numerals.{add-one}
use Prim.Native.Nat.compare
use borrow.Author.Tests.{lt-ltb}
use Rattle.text_fields.specs.Split.{pick, before}
use Rattle.text_fields.specs.Class.{class_of}
use Rattle.text_faults.specs.Why.{holds, is_plain, plain}

-- a test over all bytes, as the code has it
pub holds_any : (c : ℕ) (l : List ℕ) → list_any (λ b. eqb b c) l ≡ holds c l
holds_any c [] = refl
holds_any c (b ∷ bs) = go (eqb b c) (holds_any c bs) where
  go : (t : Bool) → list_any (λ x. eqb x c) bs ≡ holds c bs
      → (t || list_any (λ x. eqb x c) bs) ≡ ltb (pick t 0 (suc (before c bs))) (suc (length bs))
  go true e = sym (lt-ltb 0 (suc (length bs)) (omega arith))
  go false e = rw compare.suc-suc e

pub plain_all : (l : List ℕ) → list_all (λ b. is_plain (class_of b)) l ≡ plain l
plain_all [] = refl
plain_all (b ∷ bs) = go (is_plain (class_of b)) (plain_all bs) where
  go : (t : Bool) → list_all (λ x. is_plain (class_of x)) bs ≡ plain bs → (t && list_all (λ x. is_plain (class_of x)) bs) ≡ pick t (plain bs) false
  go true e = e
  go false e = refl

-- the bytes from the ith on
module _ (l : List ℕ) (i : ℕ) (h : i < length l) {b : Bool} (b_is : b ≡ is_plain (class_of (get_or l i 0))) where
  pub plain_not : b ≡ false → false ≡ plain (drop i l)
  plain_not e = rw (drop-cons l i 0, sym b_is ∙ e)

  pub plain_on : b ≡ true → plain (drop (i + 1) l) ≡ plain (drop i l)
  plain_on e = rw (drop-cons l i 0, sym b_is ∙ e, add-one)
