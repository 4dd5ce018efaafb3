-- The class of a byte: a space, a newline, part of a name, or none of these.
use Rattle.std.specs.Prelude.{ℕ, zero, suc, ◌+◌, Bool, true, false, List, [], ◌∷◌, eqb, leb, drop}
use Prim.Native.Char.{code}
use Rattle.text_fields.specs.Split.{pick}
use Rattle.text_fields.specs.declared.ByteClass.{ByteClass}
use Rattle.text_fields.specs.declared.ByteClass.TheVariants.{Space, Newline, Name, Other}

-- bytes from 33 to 126 are parts of names
abbrev pub class_of : ℕ → ByteClass
class_of b =
    pick (eqb b 32) Space (pick (eqb b 10) Newline (pick (leb 33 b) (pick (leb b 126) Name Other) Other))

-- the letter of a class in the table of the bytes
abbrev pub letter : ByteClass → ℕ
letter Space = code "S"
letter Newline = code "L"
letter Name = code "N"
letter Other = code "."

-- the letters of n bytes from b on
abbrev pub letters_from : ℕ → ℕ → List ℕ
letters_from b zero = []
letters_from b (suc n) = letter (class_of b) ∷ letters_from (suc b) n

-- the table: the letter of every byte
unfoldable pub class_table : List ℕ
class_table = letters_from 0 256

abbrev pub is_space : ByteClass → Bool
is_space Space = true
is_space Newline = false
is_space Name = false
is_space Other = false

abbrev pub is_name : ByteClass → Bool
is_name Space = false
is_name Newline = false
is_name Name = true
is_name Other = false

abbrev pub is_newline : ByteClass → Bool
is_newline Space = false
is_newline Newline = true
is_newline Name = false
is_newline Other = false

-- whether every byte is part of a name
abbrev pub named : List ℕ → Bool
named [] = true
named (b ∷ bs) = pick (is_name (class_of b)) (named bs) false

-- how many bytes at the front are parts of names
abbrev pub run : List ℕ → ℕ
run [] = 0
run (b ∷ bs) = pick (is_name (class_of b)) (suc (run bs)) 0

-- where the bytes of names that stand from `at` on end
abbrev pub name_end : List ℕ → ℕ → ℕ
name_end l at = at + run (drop at l)
