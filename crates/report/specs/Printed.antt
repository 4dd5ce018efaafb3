-- The two lines that a result is printed as: the names of its fields, and the fields.
use Rattle.std.specs.Prelude.{ℕ, zero, suc, ◌+◌, ◌/◌, ◌%◌, List, [], ◌∷◌, ◌++◌, ltb, get_or}
use Rattle.text_fields.specs.Split.{pick, bytes, pieces}
use Rattle.calculus.specs.declared.Outcome.{Outcome}

-- the decimal digits of n in ASCII, without leading zeros, where k is as many as there are or more
unfoldable pub digits_of : ℕ → ℕ → List ℕ
digits_of zero n = []
digits_of (suc k) n = pick (ltb n 10) ((48 + n) ∷ []) (digits_of k (n / 10) ++ ((48 + n % 10) ∷ []))

-- a number of 64 bits in decimal: twenty digits are the most
unfoldable pub decimal : ℕ → List ℕ
decimal n = digits_of 20 n

-- the words of the verdicts, from 0
abbrev pub verdict_words : List (List ℕ)
verdict_words = pieces 32 (bytes "open refuted refused")

-- a number that no verdict has is printed as refused
unfoldable pub verdict_word : ℕ → List ℕ
verdict_word v = get_or verdict_words v (bytes "refused")

-- a field that holds a number, with the space before it
unfoldable pub number_field : ℕ → List ℕ
number_field n = bytes " " ++ decimal n

-- a result: the verdict, how many steps were allowed, the number of the refusal or 0, how many entries the trail has, and the place or 0
unfoldable pub printed : Outcome → List ℕ
printed o =
    bytes "verdict steps code trail place\n"
    ++ verdict_word o.verdict
    ++ number_field o.steps
    ++ number_field o.number
    ++ number_field o.entries
    ++ number_field o.place
    ++ bytes "\n"
