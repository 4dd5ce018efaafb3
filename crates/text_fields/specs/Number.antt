-- What a field that holds a value says.
use Rattle.std.specs.Prelude.{Option, Some, None, ℕ, ◌+◌, ◌-◌, ◌*◌, Bool, true, false, List, [], ◌∷◌, eqb, leb}
use Rattle.text_fields.specs.Split.{pick, same, bytes}

-- the digits after a number n: each makes it ten times as large, up to 65,534
abbrev pub digits : ℕ → List ℕ → Option ℕ
digits n [] = Some n
digits n (b ∷ bs) =
    pick (leb 48 b)
    (pick (leb b 57) (pick (leb (n * 10 + (b - 48)) 65534) (digits (n * 10 + (b - 48)) bs) None) None)
    None

-- a decimal number with no leading zero: "0", or digits of which the first is not 0
abbrev pub decimal : List ℕ → Option ℕ
decimal [] = None
decimal (b ∷ bs) = pick (eqb b 48) (pick (same bs []) (Some 0) None) (digits 0 (b ∷ bs))

-- "-" is blank, 65,535
abbrev pub number : List ℕ → Option ℕ
number f = pick (same f (bytes "-")) (Some 65535) (decimal f)

-- "true" is 1 and "false" is 0
abbrev pub value : List ℕ → Option ℕ
value f = pick (same f (bytes "true")) (Some 1) (pick (same f (bytes "false")) (Some 0) (number f))

abbrev pub is_number : Option ℕ → Bool
is_number (Some n) = true
is_number None = false

-- the number of a value that is well formed
abbrev pub number_or : Option ℕ → ℕ
number_or (Some n) = n
number_or None = 65535
