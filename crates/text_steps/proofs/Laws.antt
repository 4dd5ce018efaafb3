-- Input rows and step rows, from the numbers of their columns.
use Prim.Native.Nat.{ℕ, ◌+◌}
use mathlib.Core.Path.{◌≡◌}
use mathlib.Core.List.{List, [], ◌∷◌}
use lib.ListN.{take, get_or}
use Rattle.text_fields.specs.Number.{value, number_or}
use Rattle.text_fields.specs.Words.{ref_of}
use Rattle.text_rows.specs.Rows.{Kept, input_added, step_cells, step_added}

module _ (k : Kept) (fs : List (List ℕ)) where
  pub input_added_lem : (a b : ℕ)
      → a ≡ ref_of k.terms (get_or fs 0 []) → b ≡ number_or (value (get_or fs 1 []))
      → record {
        number = 0;
        place = 0;
        kept = record { sorts = k.sorts; terms = k.terms; heads = k.heads; inputs = k.inputs + 1; steps = k.steps };
        cells = a ∷ b ∷ [];
      } ≡ input_added k fs
  input_added_lem a b p q = rw (p, q)

  pub step_added_lem : (cells : List ℕ) → cells ≡ step_cells k fs
      → record {
        number = 0;
        place = 0;
        kept = record { sorts = k.sorts; terms = k.terms; heads = k.heads; inputs = k.inputs; steps = k.steps + 1 };
        cells = take 9 cells;
      } ≡ step_added k fs
  step_added_lem cells e = rw e
