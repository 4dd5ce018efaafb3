-- The place of a row's arguments, and a row's number by what is known of it.
use Rattle.std.specs.Prelude.{Bool, ◌&&◌, ◌||◌, List, ℕ, eqb, ltb}
use Rattle.calculus.specs.Lists.{all}
use Rattle.calculus.specs.Numbers.{unless}
use Rattle.calculus.specs.Sheets.{blank}
use Rattle.calculus.specs.Terms.{head, cells, left_filled, head_of, earlier, suits}

-- the most numbers that a term sheet has: 256 rows of six
abbrev pub most_numbers : ℕ
most_numbers = 1536

-- a column of row t is blank or an earlier row; all are, and they are filled from the left
abbrev pub before : ℕ → ℕ → Bool
before t x = eqb x blank || ltb x t

abbrev pub placed : ℕ → List ℕ → Bool
placed t xs = all (before t) xs && left_filled xs

-- a row's number, where g says whether it is fresh
unfoldable pub row_refusal : List ℕ → List ℕ → ℕ → Bool → ℕ
row_refusal ss ts t g =
    unless (earlier ts t) 3 (
    unless (left_filled (cells ts t) && suits ss ts t (head_of (head ts t))) 4 (
    unless g 5 0))
