-- The number of one input row, by what the code knows of it: its term, its value, and whether the term is given already.
use Rattle.std.specs.Prelude.{◌≡◌, refl, Bool, true, false, not, ◌&&◌, List, ℕ, eqb, ltb}
use Rattle.calculus.specs.Numbers.{unless, or_else}
use Rattle.calculus.specs.Sheets.{blank, term_rows}
use Rattle.calculus.specs.Trail.{on}
use Rattle.calculus.specs.Inputs.{input_term, input_value, input_trail, input_refusal, value_suits}

-- numbers 6 and 7: the term is a row, and the value suits it
unfoldable pub fit_refusal : List ℕ → ℕ → ℕ → ℕ
fit_refusal ts t v =
    unless (ltb t (term_rows ts)) 6 (
    unless (not (eqb v blank) && value_suits ts t v) 7 0)

-- number 8: the term is not given before
unfoldable pub given_refusal : Bool → ℕ
given_refusal given = unless (not given) 8 0

-- numbers 6, 7, 8
unfoldable pub input_row_refusal : List ℕ → ℕ → ℕ → Bool → ℕ
input_row_refusal ts t v given = or_else (fit_refusal ts t v) (given_refusal given)

both : (a b : Bool) (x : ℕ) → unless a 6 (unless b 7 x) ≡ or_else (unless a 6 (unless b 7 0)) x
unfolding unless or_else
both true true x = refl
both true false x = refl
both false b x = refl

-- the number of the n-th input row
pub input_row : (ts is : List ℕ) (n : ℕ) → input_refusal ts is n
    ≡ input_row_refusal ts (input_term is n) (input_value is n) (on (input_trail is n) (input_term is n))
unfolding input_refusal input_row_refusal fit_refusal given_refusal
input_row ts is n = both _ _ _
