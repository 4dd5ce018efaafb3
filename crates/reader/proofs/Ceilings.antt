-- No text keeps more rows than the ceilings allow.
use Prim.Native.Nat.{ℕ, ◌<◌}
use mathlib.Core.Path.{◌≡◌, refl}
use mathlib.Core.Bool.{Bool, true, false}
use mathlib.Core.List.{List, [], ◌∷◌}
use native.Mathlib.Omega.{arith}
use borrow.Author.Tests.{ltb-true}
use lib.Dec.{eqb, leb, ltb}
use lib.ListN.{length, length-append, get_or}
use Rattle.text_fields.specs.Split.{pick, same, pieces}
use Rattle.std.specs.Prelude.{Ok, Err}
use Rattle.text_fields.specs.Shape.{Shape, shape_of}
use Rattle.text_faults.specs.Why.{header_why}
use Rattle.text_faults.specs.declared.Why.TheVariants.{Long}
use Rattle.text_rows.specs.Rows.{Kept, Taken, shaped, below, refused, fresh, is_taken}
use Rattle.text_rows.specs.Rows.{sort_added, sort_row, term_added, term_row, input_added, input_row, step_added, step_row}
use Rattle.text_position.specs.Place.{next_line}
use Rattle.text_lines.specs.declared.Sheet.{Sheet}
use Rattle.text_lines.specs.declared.Sheet.TheVariants.{Sorts, Terms, Inputs, Steps}
use Rattle.text_lines.specs.Lines.{Control, quiet, bad, enter, header_of, header, next_sheet, row_of, row, read_line, numbered, line_effect}
use Rattle.reader.specs.Text.{State, line_step, lines_fold, start_state, text_state}
use Rattle.reader.specs.Ceilings.{Within, TextsWithin}
use Rattle.reader.proofs.Sizes.{step_control}

-- ---- rows

module _ (k : Kept) (h : Within k) where
  within_shaped : (s : Shape) (t : Taken) → Within t.kept → Within (shaped k s t).kept
  within_shaped (Ok u) t w = w
  within_shaped (Err p) t w = h

  within_below : (n ceiling : ℕ) (t : Taken) → (n < ceiling → Within t.kept) → Within (below k n ceiling t).kept
  within_below n ceiling t w = go (ltb n ceiling) refl where
    go : (b : Bool) → ltb n ceiling ≡ b → Within (pick b t (refused k 30 0)).kept
    go true e = w (ltb-true n ceiling e)
    go false e = h

  within_fresh : (b : Bool) (t : Taken) → Within t.kept → Within (fresh k b t).kept
  within_fresh true t w = h
  within_fresh false t w = w

  within_row : (fs : List (List ℕ)) (sheet : Sheet) → Within (row_of sheet k fs).kept
  unfolding sort_row term_row input_row step_row
  within_row fs Sorts =
      within_shaped (shape_of 3 0 fs) _ (within_below (length k.sorts) 32 _ (λ l. within_fresh (is_taken k.sorts (get_or fs 0 [])) (sort_added k fs)
      (omega (arith, length-append k.sorts (get_or fs 0 [] ∷ [])), h.1, h.2, h.3)))
  within_row fs Terms =
      within_shaped (shape_of 7 0 fs) _ (within_below (length k.terms) 256 _ (λ l. within_fresh (is_taken k.terms (get_or fs 0 [])) (term_added k fs)
      (h.0, omega (arith, length-append k.terms (get_or fs 0 [] ∷ [])), h.2, h.3)))
  within_row fs Inputs =
      within_shaped (shape_of 2 2 fs) _ (within_below k.inputs 256 (input_added k fs) (λ l. (h.0, h.1, omega arith, h.3)))
  within_row fs Steps =
      within_shaped (shape_of 9 4 fs) _ (within_below k.steps 1024 (step_added k fs) (λ l. (h.0, h.1, h.2, omega arith)))

-- ---- lines

within_next : (c : Control) (sheet : Sheet) → Within c.kept → Within (next_sheet c sheet).control.kept
within_next c Sorts h = h
within_next c Terms h = h
within_next c Inputs h = h
within_next c Steps h = h

within_header : (c : Control) (l : List ℕ) → Within c.kept → Within (header c l).control.kept
within_header c l h = go (same l (header_of c.sheet)) where
  go : (b : Bool) → Within (pick b (enter c c.sheet true) (bad c (header_why l))).control.kept
  go true = h
  go false = h

within_read : (c : Control) (l : List ℕ) → Within c.kept → Within (read_line c l).control.kept
unfolding read_line
within_read c l h = one c.headed where
  two : (b : Bool) → Within (pick b (next_sheet c c.sheet) (row c (row_of c.sheet c.kept (pieces 32 l)) l)).control.kept
  two true = within_next c c.sheet h
  two false = within_row c.kept h (pieces 32 l) c.sheet

  one : (b : Bool)
      → Within (pick b (pick (same l []) (next_sheet c c.sheet) (row c (row_of c.sheet c.kept (pieces 32 l)) l)) (header c l)).control.kept
  one true = two (same l [])
  one false = within_header c l h

within_line : (c : Control) (n : ℕ) (l : List ℕ) → Within c.kept → Within (line_effect c n l).control.kept
unfolding line_effect
within_line c n l h = one (eqb c.number 0) where
  two : (b : Bool) → Within (pick b (read_line (numbered c n) l) (bad (numbered c n) Long)).control.kept
  two true = within_read (numbered c n) l h
  two false = h

  one : (b : Bool) → Within (pick b (pick (leb (length l) 525) (read_line (numbered c n) l) (bad (numbered c n) Long)) (quiet c)).control.kept
  one true = two (leb (length l) 525)
  one false = h

-- ---- texts

within_lines : (n : ℕ) (s : State) (ps : List (List ℕ)) → Within s.control.kept → Within (lines_fold n s ps).control.kept
within_lines n s [] h = h
within_lines n s (l ∷ []) h = h
within_lines n s (l ∷ m ∷ ms) h = within_lines (next_line n) (line_step s n l) (m ∷ ms) (rw (step_control s n l) (within_line s.control n l h))

pub texts_within : TextsWithin
unfolding text_state
texts_within bs = within_lines 1 start_state (pieces 10 bs) (omega arith, omega arith, omega arith, omega arith)
