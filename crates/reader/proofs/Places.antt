-- Rows stand on the lines that their counts tell.
use Prim.Native.Nat.{ℕ, ◌+◌}
use mathlib.Core.Path.{◌≡◌, refl, ap, sym, ◌∙◌}
use mathlib.Core.Bool.{Bool, true, false}
use mathlib.Core.List.{List, [], ◌∷◌, ◌++◌}
use native.Mathlib.Omega.{arith}
use native.Mathlib.Nat.{add-zero}
use borrow.Author.Tests.{eq-eqb, eqb-true, eqb-false}
use lib.Dec.{eqb, leb, ltb}
use lib.ListN.{length, length-append, get_or}
use Rattle.text_fields.specs.Split.{pick, same, pieces}
use Rattle.std.specs.Prelude.{Ok, Err}
use Rattle.text_fields.specs.Shape.{Shape, shape_of}
use Rattle.text_faults.specs.Why.{header_why}
use Rattle.text_faults.specs.declared.Why.TheVariants.{Long}
use Rattle.text_rows.specs.Rows.{Kept, Taken, shaped, below, refused, fresh, is_taken}
use Rattle.text_rows.specs.Rows.{sort_added, sort_row, term_added, term_row, input_added, input_row, step_added, step_row}
use Rattle.text_position.specs.Place.{next_line}
use Rattle.text_lines.specs.declared.Sheet.{Sheet}
use Rattle.text_lines.specs.declared.Sheet.TheVariants.{Sorts, Terms, Inputs, Steps}
use Rattle.text_lines.specs.Lines.{Control, Effect, bad, enter, header_of, header, next_sheet, row_of, row, read_line, numbered, line_effect}
use Rattle.text_lines.proofs.Lines.{effect_late}
use Rattle.reader.specs.Text.{State, line_step, lines_fold, start_state}
use Rattle.reader.specs.Places.{next_row_line, after_lines, RowsHaveLines}
use Rattle.reader.proofs.Sizes.{Sizes, grown, step_control}

-- ---- a good row is one row more

abbrev rows_of : Kept → Sizes
rows_of k = record { sorts = length k.sorts; terms = length k.terms; inputs = k.inputs; steps = k.steps }

OneMore : Sheet → Kept → Taken → Type 0
OneMore sheet k t = t.number ≡ 0 → rows_of t.kept ≡ grown sheet (rows_of k) 1

one_shaped : (sheet : Sheet) (k : Kept) (s : Shape) (t : Taken) → OneMore sheet k t → OneMore sheet k (shaped k s t)
unfolding OneMore
one_shaped sheet k (Ok u) t h = h
one_shaped sheet k (Err p) t h = λ z. absurd (omega (arith, z))

one_below : (sheet : Sheet) (k : Kept) (n ceiling : ℕ) (t : Taken) → OneMore sheet k t → OneMore sheet k (below k n ceiling t)
unfolding OneMore
one_below sheet k n ceiling t h = go (ltb n ceiling) where
  go : (b : Bool) → OneMore sheet k (pick b t (refused k 30 0))
  go true = h
  go false = λ z. absurd (omega (arith, z))

one_fresh : (sheet : Sheet) (k : Kept) (b : Bool) (t : Taken) → OneMore sheet k t → OneMore sheet k (fresh k b t)
unfolding OneMore
one_fresh sheet k true t h = λ z. absurd (omega (arith, z))
one_fresh sheet k false t h = h

one_row : (k : Kept) (fs : List (List ℕ)) (sheet : Sheet) → OneMore sheet k (row_of sheet k fs)
unfolding OneMore sort_row term_row input_row step_row
one_row k fs Sorts =
    one_shaped Sorts k (shape_of 3 0 fs) _ (one_below Sorts k (length k.sorts) 32 _
    (one_fresh Sorts k (is_taken k.sorts (get_or fs 0 [])) (sort_added k fs) (λ z. rw (length-append k.sorts (get_or fs 0 [] ∷ [])))))
one_row k fs Terms =
    one_shaped Terms k (shape_of 7 0 fs) _ (one_below Terms k (length k.terms) 256 _
    (one_fresh Terms k (is_taken k.terms (get_or fs 0 [])) (term_added k fs) (λ z. rw (length-append k.terms (get_or fs 0 [] ∷ [])))))
one_row k fs Inputs = one_shaped Inputs k (shape_of 2 2 fs) _ (one_below Inputs k k.inputs 256 (input_added k fs) (λ z. refl))
one_row k fs Steps = one_shaped Steps k (shape_of 9 4 fs) _ (one_below Steps k k.steps 1024 (step_added k fs) (λ z. refl))

-- ---- a good line is one line more

-- the headers and empty lines that were read
abbrev headings : Sheet → Bool → ℕ
headings Sorts false = 0
headings Sorts true = 1
headings Terms false = 2
headings Terms true = 3
headings Inputs false = 4
headings Inputs true = 5
headings Steps false = 6
headings Steps true = 7

-- after m lines: they are the rows, the headers and the empty lines, and the sheets to come have no rows
abbrev StandsAt : Sheet → Bool → Sizes → ℕ → Type 0
StandsAt Sorts h r m = (m ≡ r.sorts + headings Sorts h) × (r.terms ≡ 0) × (r.inputs ≡ 0) × (r.steps ≡ 0)
StandsAt Terms h r m = (m ≡ r.sorts + r.terms + headings Terms h) × (r.inputs ≡ 0) × (r.steps ≡ 0)
StandsAt Inputs h r m = (m ≡ r.sorts + r.terms + r.inputs + headings Inputs h) × (r.steps ≡ 0)
StandsAt Steps h r m = m ≡ r.sorts + r.terms + r.inputs + r.steps + headings Steps h

Stands : Control → ℕ → Type 0
Stands c m = StandsAt c.sheet c.headed (rows_of c.kept) m

-- what a line makes of it, if the line is good
Goes : ℕ → Effect → Type 0
Goes m e = e.control.number ≡ 0 → Stands e.control (m + 1)

goes_bad : (m : ℕ) (e : Effect) → e.control.number ≡ 31 → Goes m e
unfolding Goes
goes_bad m e is = λ z. absurd (omega (arith, is, z))

headed_at : (sheet : Sheet) (r : Sizes) (m : ℕ) → StandsAt sheet false r m → StandsAt sheet true r (m + 1)
headed_at Sorts r m h = (omega (arith, h.0), h.1, h.2, h.3)
headed_at Terms r m h = (omega (arith, h.0), h.1, h.2)
headed_at Inputs r m h = (omega (arith, h.0), h.1)
headed_at Steps r m h = omega (arith, h)

goes_header : (c : Control) (l : List ℕ) (m : ℕ) → c.headed ≡ false → Stands c m → Goes m (header c l)
unfolding Goes Stands
goes_header c l m e h = go (same l (header_of c.sheet)) where
  go : (b : Bool) → Goes m (pick b (enter c c.sheet true) (bad c (header_why l)))
  go true = λ z. headed_at c.sheet (rows_of c.kept) m (rw e at h)
  go false = goes_bad m (bad c (header_why l)) refl

goes_next : (c : Control) (sheet : Sheet) (m : ℕ) → StandsAt sheet true (rows_of c.kept) m → Goes m (next_sheet c sheet)
unfolding Goes Stands
goes_next c Sorts m h = λ z. (omega (arith, h.0, h.1), h.2, h.3)
goes_next c Terms m h = λ z. (omega (arith, h.0, h.1), h.2)
goes_next c Inputs m h = λ z. omega (arith, h.0, h.1)
goes_next c Steps m h = goes_bad m (next_sheet c Steps) refl

grown_at : (sheet : Sheet) (r r' : Sizes) (m : ℕ) → r' ≡ grown sheet r 1 → StandsAt sheet true r m → StandsAt sheet true r' (m + 1)
grown_at Sorts r r' m e h = rw e (omega (arith, h.0), h.1, h.2, h.3)
grown_at Terms r r' m e h = rw e (omega (arith, h.0), h.1, h.2)
grown_at Inputs r r' m e h = rw e (omega (arith, h.0), h.1)
grown_at Steps r r' m e h = rw e (omega (arith, h))

goes_row : (c : Control) (l : List ℕ) (m : ℕ) → c.headed ≡ true → Stands c m → Goes m (row c (row_of c.sheet c.kept (pieces 32 l)) l)
unfolding Goes Stands OneMore
goes_row c l m e h = λ z. rw e (grown_at c.sheet (rows_of c.kept) _ m (one_row c.kept (pieces 32 l) c.sheet z) (rw e at h))

goes_read : (c : Control) (l : List ℕ) (m : ℕ) → Stands c m → Goes m (read_line c l)
unfolding read_line Stands
goes_read c l m h = one c.headed refl where
  two : c.headed ≡ true → (b : Bool) → Goes m (pick b (next_sheet c c.sheet) (row c (row_of c.sheet c.kept (pieces 32 l)) l))
  two e true = goes_next c c.sheet m (rw e at h)
  two e false = goes_row c l m e h

  one : (b : Bool) → c.headed ≡ b
      → Goes m (pick b (pick (same l []) (next_sheet c c.sheet) (row c (row_of c.sheet c.kept (pieces 32 l)) l)) (header c l))
  one true e = two e (same l [])
  one false e = goes_header c l m e h

goes_line : (c : Control) (n : ℕ) (l : List ℕ) (m : ℕ) → c.number ≡ 0 → Stands c m → Goes m (line_effect c n l)
unfolding line_effect Stands
goes_line c n l m good h = rw (eq-eqb c.number 0 good) (go (leb (length l) 525)) where
  go : (b : Bool) → Goes m (pick b (read_line (numbered c n) l) (bad (numbered c n) Long))
  go true = goes_read (numbered c n) l m h
  go false = goes_bad m (bad (numbered c n) Long) refl

-- ---- all lines

-- after a bad line nothing moves
late : (n : ℕ) (s : State) (ps : List (List ℕ)) → (s.control.number ≡ 0 → ⊥) → (lines_fold n s ps).control ≡ s.control
late n s [] h = refl
late n s (l ∷ []) h = refl
late n s (l ∷ k ∷ ks) h =
    let e : (line_step s n l).control ≡ s.control =
    step_control s n l ∙ ap (λ (x : Effect). x.control) (sym (effect_late s.control n l h)) in
    late (next_line n) (line_step s n l) (k ∷ ks) (λ z. h (sym (ap (λ (c : Control). c.number) e) ∙ z)) ∙ e

-- the lines ls, from a good state after m lines on
GoodAfter : ℕ → State → ℕ → List (List ℕ) → List ℕ → Type 0
GoodAfter n s m ls rest =
    let c = (lines_fold n s (ls ++ (rest ∷ []))).control in
    c.number ≡ 0 → Stands c (m + length ls)

behind : (n : ℕ) (s : State) (l : List ℕ) (ls : List (List ℕ)) (rest : List ℕ)
    → lines_fold n s ((l ∷ ls) ++ (rest ∷ [])) ≡ lines_fold (next_line n) (line_step s n l) (ls ++ (rest ∷ []))
behind n s l [] rest = refl
behind n s l (k ∷ ks) rest = refl

-- one line, and then those behind it
good_next : (l : List ℕ) (ls : List (List ℕ)) (rest : List ℕ) (n : ℕ) (s : State) (m : ℕ) → s.control.number ≡ 0 → Stands s.control m
    → ((line_step s n l).control.number ≡ 0 → Stands (line_step s n l).control (m + 1) → GoodAfter (next_line n) (line_step s n l) (m + 1) ls rest)
    → GoodAfter n s m (l ∷ ls) rest
unfolding GoodAfter Goes
good_next l ls rest n s m good h further = rw (behind n s l ls rest) (λ z. go z (eqb s'.control.number 0) refl) where
  s' : State
  s' = line_step s n l

  final : Control
  final = (lines_fold (next_line n) s' (ls ++ (rest ∷ []))).control

  go : final.number ≡ 0 → (b : Bool) → eqb s'.control.number 0 ≡ b → Stands final (m + length (l ∷ ls))
  go z true e =
      let good' = eqb-true s'.control.number 0 e in
      let is = step_control s n l in
      let stands = goes_line s.control n l m good h (ap (λ (c : Control). c.number) (sym is) ∙ good') in
      let sum : m + length (l ∷ ls) ≡ m + 1 + length ls = omega arith in
      rw sum (further good' (rw is stands) z)
  go z false e =
      let stuck = late (next_line n) s' (ls ++ (rest ∷ [])) (eqb-false s'.control.number 0 e) in
      absurd (eqb-false s'.control.number 0 e (sym (ap (λ (c : Control). c.number) stuck) ∙ z))

good_after : (ls : List (List ℕ)) (rest : List ℕ) (n : ℕ) (s : State) (m : ℕ) → s.control.number ≡ 0 → Stands s.control m
    → GoodAfter n s m ls rest
unfolding GoodAfter
good_after [] rest n s m good h = λ z. rw (add-zero m) h
good_after (l ∷ ls) rest n s m good h =
    good_next l ls rest n s m good h (good_after ls rest (next_line n) (line_step s n l) (m + 1))

next_line_lem : (sheet : Sheet) (c : Control) (m : ℕ) → c.sheet ≡ sheet → StandsAt sheet true (rows_of c.kept) m → m + 1 ≡ next_row_line c
next_line_lem Sorts c m e h = rw e (omega (arith, h.0))
next_line_lem Terms c m e h = rw e (omega (arith, h.0))
next_line_lem Inputs c m e h = rw e (omega (arith, h.0))
next_line_lem Steps c m e h = rw e (omega (arith, h))

pub rows_have_lines : RowsHaveLines
unfolding GoodAfter Stands
rows_have_lines ls rest good headed =
    let stands = good_after ls rest 1 start_state 0 refl (refl, refl, refl, refl) good in
    let sum : 0 + length ls ≡ length ls = omega arith in
    next_line_lem (after_lines ls rest).sheet (after_lines ls rest) (length ls) refl (rw (sum, headed) at stands)
