-- What the reading of a head leaves in the table of names.
use Rattle.std.specs.Prelude.{ℕ, ◌+◌, ◌≤◌, ◌≡◌, List}
use Rattle.text_names.specs.Table.{names_from}
use Rattle.text_rows.specs.Rows.{Head}
use Rattle.text_terms.specs.declared.HeadNumber.{HeadNumber}

-- from a table t with n free heads: the number and the free heads are those of h, and the names of sorts and terms stay
pub record HeadIs (t : List ℕ) (n : ℕ) (h : Head) (r : HeadNumber) (t' : List ℕ) : Type 0 where
  pub number_is : r.number ≡ h.number
  pub heads_are : names_from t' 288 r.heads ≡ h.heads
  pub others_stay : (b m : ℕ) → b ≤ 32 → b + m ≤ 288 → names_from t' b m ≡ names_from t b m
  pub at_most : r.heads ≤ n + 1
