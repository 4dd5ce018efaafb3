-- The rows of a sheet and the count of its rows grow together.
use Prim.Native.Nat.{ℕ, ◌+◌, ◌*◌}
use mathlib.Core.Path.{◌≡◌, refl, ap, sym, ◌∙◌}
use mathlib.Core.Bool.{Bool, true, false}
use mathlib.Core.List.{List, [], ◌∷◌, ◌++◌}
use native.Mathlib.Omega.{arith}
use lib.Dec.{eqb, leb, ltb}
use lib.ListN.{length, length-append, get_or}
use Rattle.text_fields.specs.Split.{pick, same, pieces}
use Rattle.std.specs.Prelude.{Ok, Err}
use Rattle.text_fields.specs.Shape.{Shape, shape_of}
use Rattle.text_rows.specs.Rows.{Kept, Taken, refused, shaped, below, fresh, is_taken, sort_added, sort_row, term_added, term_row, input_added, input_row, step_added, step_row}
use Rattle.text_faults.specs.Why.{header_why}
use Rattle.text_faults.specs.declared.Why.TheVariants.{Long}
use Rattle.text_lines.specs.declared.Sheet.{Sheet}
use Rattle.text_lines.specs.declared.Sheet.TheVariants.{Sorts, Terms, Inputs, Steps}
use Rattle.text_lines.specs.Lines.{Control, Effect, quiet, bad, enter, header_of, header, next_sheet, row_of, row, read_line, numbered, line_effect}
use Rattle.reader.specs.Text.{State, applied, line_step, start_state}

-- how many numbers the rows of the sheets have
pub record Sizes : Type 0 where
  pub sorts : ℕ
  pub terms : ℕ
  pub inputs : ℕ
  pub steps : ℕ

abbrev sizes_of : Kept → Sizes
sizes_of k = record { sorts = length k.sorts * 2; terms = length k.terms * 6; inputs = k.inputs * 2; steps = k.steps * 9 }

-- so many numbers more in one sheet
abbrev pub grown : Sheet → Sizes → ℕ → Sizes
grown Sorts s n = record { sorts = s.sorts + n; terms = s.terms; inputs = s.inputs; steps = s.steps }
grown Terms s n = record { sorts = s.sorts; terms = s.terms + n; inputs = s.inputs; steps = s.steps }
grown Inputs s n = record { sorts = s.sorts; terms = s.terms; inputs = s.inputs + n; steps = s.steps }
grown Steps s n = record { sorts = s.sorts; terms = s.terms; inputs = s.inputs; steps = s.steps + n }

add_none : (n : ℕ) → n + 0 ≡ n
add_none n = omega arith

grown_none : (sheet : Sheet) (s : Sizes) → s ≡ grown sheet s 0
grown_none Sorts s = rw (add_none s.sorts)
grown_none Terms s = rw (add_none s.terms)
grown_none Inputs s = rw (add_none s.inputs)
grown_none Steps s = rw (add_none s.steps)

-- what a row keeps has grown by its numbers
Adds : Sheet → Kept → Taken → Type 0
Adds sheet k t = sizes_of t.kept ≡ grown sheet (sizes_of k) (length t.cells)

adds_refused : (sheet : Sheet) (k : Kept) (number place : ℕ) → Adds sheet k (refused k number place)
unfolding Adds
adds_refused sheet k number place = grown_none sheet (sizes_of k)

adds_shaped : (sheet : Sheet) (k : Kept) (s : Shape) (t : Taken) → Adds sheet k t → Adds sheet k (shaped k s t)
adds_shaped sheet k (Ok u) t h = h
adds_shaped sheet k (Err p) t h = adds_refused sheet k 31 p

adds_below : (sheet : Sheet) (k : Kept) (n ceiling : ℕ) (t : Taken) → Adds sheet k t → Adds sheet k (below k n ceiling t)
adds_below sheet k n ceiling t h = go (ltb n ceiling) where
  go : (b : Bool) → Adds sheet k (pick b t (refused k 30 0))
  go true = h
  go false = adds_refused sheet k 30 0

adds_fresh : (sheet : Sheet) (k : Kept) (b : Bool) (t : Taken) → Adds sheet k t → Adds sheet k (fresh k b t)
adds_fresh sheet k true t h = adds_refused sheet k 2 1
adds_fresh sheet k false t h = h

-- one name more
one_more : (l : List (List ℕ)) (f : List ℕ) (w : ℕ) → length (l ++ (f ∷ [])) * w ≡ length l * w + w
one_more l f w =
    let e : length (l ++ (f ∷ [])) ≡ length l + 1 = length-append l (f ∷ []) in
    let g : (length l + 1) * w ≡ length l * w + w = times (length l) w in ap (λ (n : ℕ). n * w) e ∙ g where
      times : (n w : ℕ) → (n + 1) * w ≡ n * w + w
      times n w = native.Mathlib.Nat.add-mul n 1 w ∙ ap (λ (x : ℕ). n * w + x) (native.Mathlib.Nat.one-mul w)

module _ (k : Kept) (fs : List (List ℕ)) where
  adds_sort : Adds Sorts k (sort_row k fs)
  unfolding sort_row Adds
  adds_sort =
      adds_shaped Sorts k (shape_of 3 0 fs) _ (adds_below Sorts k (length k.sorts) 32 _
      (adds_fresh Sorts k (is_taken k.sorts (get_or fs 0 [])) (sort_added k fs) (rw (one_more k.sorts (get_or fs 0 []) 2))))

  adds_term : Adds Terms k (term_row k fs)
  unfolding term_row Adds
  adds_term =
      adds_shaped Terms k (shape_of 7 0 fs) _ (adds_below Terms k (length k.terms) 256 _
      (adds_fresh Terms k (is_taken k.terms (get_or fs 0 [])) (term_added k fs) (rw (one_more k.terms (get_or fs 0 []) 6))))

  adds_input : Adds Inputs k (input_row k fs)
  unfolding input_row Adds
  adds_input =
      let e : (k.inputs + 1) * 2 ≡ k.inputs * 2 + 2 = omega arith in
      adds_shaped Inputs k (shape_of 2 2 fs) _ (adds_below Inputs k k.inputs 256 (input_added k fs) (rw e))

  adds_step : Adds Steps k (step_row k fs)
  unfolding step_row Adds
  adds_step =
      let e : (k.steps + 1) * 9 ≡ k.steps * 9 + 9 = omega arith in
      adds_shaped Steps k (shape_of 9 4 fs) _ (adds_below Steps k k.steps 1024 (step_added k fs) (rw e))

  adds_row : (sheet : Sheet) → Adds sheet k (row_of sheet k fs)
  adds_row Sorts = adds_sort
  adds_row Terms = adds_term
  adds_row Inputs = adds_input
  adds_row Steps = adds_step

-- what a line keeps has grown by its numbers, in the sheet that it goes to
Grows : Control → Effect → Type 0
Grows c e = sizes_of e.control.kept ≡ grown c.sheet (sizes_of c.kept) (length e.cells)

-- a line that leaves what is kept and adds no number
grows_quiet : (c d : Control) → d.kept ≡ c.kept → Grows c (quiet d)
unfolding Grows
grows_quiet c d e = rw e (grown_none c.sheet (sizes_of c.kept))

grows_next : (c : Control) (sheet : Sheet) → Grows c (next_sheet c sheet)
grows_next c Sorts = grows_quiet c _ refl
grows_next c Terms = grows_quiet c _ refl
grows_next c Inputs = grows_quiet c _ refl
grows_next c Steps = grows_quiet c _ refl

grows_header : (c : Control) (l : List ℕ) → Grows c (header c l)
grows_header c l = go (same l (header_of c.sheet)) where
  go : (b : Bool) → Grows c (pick b (enter c c.sheet true) (bad c (header_why l)))
  go true = grows_quiet c _ refl
  go false = grows_quiet c _ refl

grows_row : (c : Control) (l : List ℕ) → Grows c (row c (row_of c.sheet c.kept (pieces 32 l)) l)
unfolding Grows Adds
grows_row c l = adds_row c.kept (pieces 32 l) c.sheet

grows_read : (c : Control) (l : List ℕ) → Grows c (read_line c l)
unfolding read_line
grows_read c l = one c.headed where
  two : (b : Bool) → Grows c (pick b (next_sheet c c.sheet) (row c (row_of c.sheet c.kept (pieces 32 l)) l))
  two true = grows_next c c.sheet
  two false = grows_row c l

  one : (b : Bool) → Grows c (pick b (pick (same l []) (next_sheet c c.sheet) (row c (row_of c.sheet c.kept (pieces 32 l)) l)) (header c l))
  one true = two (same l [])
  one false = grows_header c l

grows_numbered : (c : Control) (n : ℕ) (e : Effect) → Grows (numbered c n) e → Grows c e
unfolding Grows
grows_numbered c n e h = h

grows_line : (c : Control) (n : ℕ) (l : List ℕ) → Grows c (line_effect c n l)
unfolding line_effect
grows_line c n l = one (eqb c.number 0) where
  two : (b : Bool) → Grows c (pick b (read_line (numbered c n) l) (bad (numbered c n) Long))
  two true = grows_numbered c n (read_line (numbered c n) l) (grows_read (numbered c n) l)
  two false = grows_quiet c _ refl

  one : (b : Bool) → Grows c (pick b (pick (leb (length l) 525) (read_line (numbered c n) l) (bad (numbered c n) Long)) (quiet c))
  one true = two (leb (length l) 525)
  one false = grows_quiet c c refl

-- how many numbers the sheets' rows have
abbrev lengths_of : State → Sizes
lengths_of s = record { sorts = length s.sorts; terms = length s.terms; inputs = length s.inputs; steps = length s.steps }

lengths_applied : (sheet : Sheet) (s : State) (e : Effect) → lengths_of (applied sheet s e) ≡ grown sheet (lengths_of s) (length e.cells)
lengths_applied Sorts s e = rw (length-append s.sorts e.cells)
lengths_applied Terms s e = rw (length-append s.terms e.cells)
lengths_applied Inputs s e = rw (length-append s.inputs e.cells)
lengths_applied Steps s e = rw (length-append s.steps e.cells)

control_applied : (sheet : Sheet) (s : State) (e : Effect) → (applied sheet s e).control ≡ e.control
control_applied Sorts s e = refl
control_applied Terms s e = refl
control_applied Inputs s e = refl
control_applied Steps s e = refl

-- the numbers of a sheet's rows are as many as its count says
pub Sized : State → Type 0
Sized s = lengths_of s ≡ sizes_of s.control.kept

pub start_sized : Sized start_state
unfolding Sized
start_sized = refl

pub step_control : (s : State) (n : ℕ) (l : List ℕ) → (line_step s n l).control ≡ (line_effect s.control n l).control
unfolding line_step
step_control s n l = control_applied s.control.sheet s (line_effect s.control n l)

pub sized_step : (s : State) (n : ℕ) (l : List ℕ) → Sized s → Sized (line_step s n l)
unfolding Sized line_step Grows
sized_step s n l h =
    let e = line_effect s.control n l in
    lengths_applied s.control.sheet s e ∙ ap (λ (x : Sizes). grown s.control.sheet x (length e.cells)) h
    ∙ sym (grows_line s.control n l) ∙ ap (λ (c : Control). sizes_of c.kept) (sym (control_applied s.control.sheet s e))

module _ (s : State) (h : Sized s) where
  pub sized_sorts : length s.sorts ≡ length s.control.kept.sorts * 2
  unfolding Sized
  sized_sorts = ap (λ (x : Sizes). x.sorts) h

  pub sized_terms : length s.terms ≡ length s.control.kept.terms * 6
  unfolding Sized
  sized_terms = ap (λ (x : Sizes). x.terms) h

  pub sized_inputs : length s.inputs ≡ s.control.kept.inputs * 2
  unfolding Sized
  sized_inputs = ap (λ (x : Sizes). x.inputs) h

  pub sized_steps : length s.steps ≡ s.control.kept.steps * 9
  unfolding Sized
  sized_steps = ap (λ (x : Sizes). x.steps) h
