-- The words of the text form: its header lines, and the words that stand for numbers, each list in the order of its numbers.
use Rattle.std.specs.Prelude.{Option, Some, None, ℕ, suc, List, [], ◌∷◌}
use Rattle.text_fields.specs.Split.{pick, same, bytes, pieces}

-- steps, from 0
abbrev pub step_words : List (List ℕ)
step_words = pieces 32 (bytes "decide deduce clash resolve clear jump flip fail learn")

-- rules, from 0
abbrev pub rule_words : List (List ℕ)
rule_words = pieces 32 (bytes "same differ refl sym trans neg part unit eval cong pred read skip deep")

-- heads that are not free, from 0
abbrev pub head_words : List (List ℕ)
head_words = pieces 32 (bytes "eq not and or select store")

-- the header lines of the four sheets
abbrev pub sort_header : List ℕ
sort_header = bytes "sort index value"

abbrev pub term_header : List ℕ
term_header = bytes "term head sort a b c d"

abbrev pub input_header : List ℕ
input_header = bytes "term value"

abbrev pub step_header : List ℕ
step_header = bytes "step rule term value p q r s t"

-- where a name stands first in a list, counted from k
abbrev pub index_from : ℕ → List (List ℕ) → List ℕ → Option ℕ
index_from k [] name = None
index_from k (x ∷ xs) name = pick (same x name) (Some k) (index_from (suc k) xs name)

-- a name or a word that is not in its list is 65,534
abbrev pub index_or : Option ℕ → ℕ
index_or (Some k) = k
index_or None = 65534

-- what a field says of a list of names or words: "-" is blank, 65,535
unfoldable pub ref_of : List (List ℕ) → List ℕ → ℕ
ref_of names f = pick (same f (bytes "-")) 65535 (index_or (index_from 0 names f))
