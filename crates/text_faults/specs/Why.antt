-- Why a line, or the end of a text, is malformed: the first cause that is met. A person is told it; no number depends on it.
use Rattle.std.specs.Prelude.{Option, Some, None, ℕ, Bool, true, false, List, [], ◌∷◌, eqb, ltb, length, take}
use Rattle.text_fields.specs.Split.{pick, before, same}
use Rattle.text_fields.specs.Class.{class_of}
use Rattle.text_fields.specs.declared.ByteClass.{ByteClass}
use Rattle.text_fields.specs.declared.ByteClass.TheVariants.{Space, Newline, Name, Other}
use Rattle.text_faults.specs.declared.Why.{Why}
use Rattle.text_faults.specs.declared.Why.TheVariants as why

-- whether byte c stands in a line
abbrev pub holds : ℕ → List ℕ → Bool
holds c l = ltb (before c l) (length l)

-- the three bytes that some editors put before a text
abbrev pub byte_order_mark : List ℕ
byte_order_mark = 239 ∷ 187 ∷ 191 ∷ []

abbrev pub marked : List ℕ → Bool
marked l = same (take 3 l) byte_order_mark

-- a space, or part of a name
abbrev pub is_plain : ByteClass → Bool
is_plain Space = true
is_plain Newline = false
is_plain Name = true
is_plain Other = false

-- whether every byte is one or the other
abbrev pub plain : List ℕ → Bool
plain [] = true
plain (b ∷ bs) = pick (is_plain (class_of b)) (plain bs) false

-- a line that stands where a header has to, and is another
unfoldable pub header_why : List ℕ → Why
header_why l = pick (marked l) why.Mark (pick (holds 13 l) why.Return why.Header)

-- a row that is malformed at place p, 0 for the line as a whole, in a sheet whose value column is v
unfoldable pub row_why : ℕ → ℕ → List ℕ → Why
row_why v p l =
    pick (holds 13 l) why.Return (pick (eqb p 0) (pick (plain l) why.Fields why.Byte) (pick (eqb p v) why.Value why.Name))

-- the number of each, as a caller of the library gets it: 0 where there is none
abbrev pub why_number : Option Why → ℕ
why_number None = 0
why_number (Some why.Mark) = 1
why_number (Some why.Return) = 2
why_number (Some why.Long) = 3
why_number (Some why.Header) = 4
why_number (Some why.Empty) = 5
why_number (Some why.Byte) = 6
why_number (Some why.Fields) = 7
why_number (Some why.Name) = 8
why_number (Some why.Value) = 9
why_number (Some why.Early) = 10
why_number (Some why.Cut) = 11
