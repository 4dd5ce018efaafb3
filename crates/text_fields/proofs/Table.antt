-- The table of the classes: the rule of its letters at each byte, from the table as a whole, and what a letter tells.
use Prim.Native.Nat.{ℕ, zero, suc, ◌+◌, ◌<◌}
use mathlib.Core.Path.{◌≡◌, refl}
use mathlib.Core.List.{List}
use native.Mathlib.Omega.{arith}
use native.Mathlib.Nat.{zero-add, add-zero, add-suc, suc-add}
use borrow.Author.Tests.{ne_eqb}
use lib.Dec.{eqb}
use lib.ListN.{get_or}
use Rattle.text_fields.specs.Split.{pick}
use Rattle.text_fields.specs.Class.{class_of, letter, letters_from, class_table}
use Rattle.text_fields.specs.declared.ByteClass.{ByteClass}
use Rattle.text_fields.specs.declared.ByteClass.TheVariants.{Space, Newline, Name, Other}

letters_at : (b n k : ℕ) → k < n → get_or (letters_from b n) k 0 ≡ letter (class_of (b + k))
letters_at b zero k h = absurd (omega arith)
letters_at b (suc n) zero h = rw add-zero
letters_at b (suc n) (suc k) h = rw (add-suc, letters_at (suc b) n k (omega arith), suc-add)

-- the table has at each byte the letter of its class
pub table_at : (b : ℕ) → b < 256 → get_or class_table b 0 ≡ letter (class_of b)
unfolding class_table
table_at b h = rw zero-add at (letters_at 0 256 b h)

-- the class that a letter stands for
abbrev read_back : ℕ → ByteClass
read_back n = pick (eqb n (letter Space)) Space (pick (eqb n (letter Newline)) Newline (pick (eqb n (letter Name)) Name Other))

read_back_lem : (k : ByteClass) → read_back (letter k) ≡ k
read_back_lem Space = refl
read_back_lem Newline = refl
read_back_lem Name = refl
read_back_lem Other = refl

-- what the letter of a byte tells
module _ (t : List ℕ) (b : ℕ) (is : t ≡ class_table) (h : b < 256) where
  tells : read_back (get_or t b 0) ≡ class_of b
  tells = rw (is, table_at b h) (read_back_lem (class_of b))

  pub tells_space : get_or t b 0 ≡ letter Space → Space ≡ class_of b
  tells_space e = rw e at tells

  pub tells_newline : get_or t b 0 ≡ letter Newline → Newline ≡ class_of b
  tells_newline e = rw e at tells

  pub tells_name : get_or t b 0 ≡ letter Name → Name ≡ class_of b
  tells_name e = rw e at tells

  pub tells_other : (get_or t b 0 ≡ letter Space → ⊥) → (get_or t b 0 ≡ letter Newline → ⊥) → (get_or t b 0 ≡ letter Name → ⊥) → Other ≡ class_of b
  tells_other s l n = rw (ne_eqb _ _ s, ne_eqb _ _ l, ne_eqb _ _ n) at tells
