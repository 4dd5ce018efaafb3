-- The bytes of a text, fed one by one, do what its lines do.
use Prim.Native.Nat.{ℕ, ◌+◌, ◌≤◌, ◌<◌, min}
use mathlib.Core.Path.{◌≡◌, refl, ap, sym, ◌∙◌}
use mathlib.Core.Bool.{Bool, true, false}
use mathlib.Core.List.{List, [], ◌∷◌, ◌++◌, append_assoc}
use native.Mathlib.Omega.{arith}
use borrow.Author.Tests.{ltb-true, ltb-false}
use lib.Dec.{eqb, ltb}
use lib.ListN.{length, take, length-append}
use lib.Seq.{take_all, take-append-le}
use Rattle.text_fields.specs.Split.{pick, pieces, prepend}
use Rattle.text_fields.specs.Class.{class_of, is_newline}
use Rattle.text_fields.proofs.Laws.{newline_is}
use Rattle.buffers.specs.Room.{pad_to}
use Rattle.buffers.proofs.Room.{store_row, append_nil}
use Rattle.text_position.specs.Place.{next_line}
use Rattle.text_lines.specs.declared.Sheet.{Sheet}
use Rattle.text_lines.specs.declared.Sheet.TheVariants.{Sorts, Terms, Inputs, Steps}
use Rattle.text_lines.specs.Lines.{Effect, line_effect}
use Rattle.reader.specs.Text.{State, Lent, applied, line_step, lines_fold, last, last_line, start_state}
use Rattle.text_lines.specs.View.{Sheets, sheets_of, stored}
use Rattle.text_stream.specs.Stream.{Stream, step_byte, feed_all, fresh_stream}
use Rattle.text_lines.proofs.Lines.{effect_cut}
use Rattle.reader.proofs.Sizes.{Sized, sized_step, sized_sorts, sized_terms, sized_inputs, sized_steps, step_control, start_sized}

-- p goes in front of the first piece
front : List ℕ → List (List ℕ) → List (List ℕ)
front p [] = p ∷ []
front p (q ∷ qs) = (p ++ q) ∷ qs

front_none : (bs : List ℕ) → front [] (pieces 10 bs) ≡ pieces 10 bs
unfolding front
front_none [] = refl
front_none (x ∷ xs) = step (eqb x 10) where
  pre : (ps : List (List ℕ)) → front [] (prepend x ps) ≡ prepend x ps
  pre [] = refl
  pre (p ∷ ps) = refl

  step : (t : Bool) → front [] (pick t ([] ∷ pieces 10 xs) (prepend x (pieces 10 xs))) ≡ pick t ([] ∷ pieces 10 xs) (prepend x (pieces 10 xs))
  step true = refl
  step false = pre (pieces 10 xs)

front_more : (p : List ℕ) (b : ℕ) (ps : List (List ℕ)) → front p (prepend b ps) ≡ front (p ++ (b ∷ [])) ps
unfolding front
front_more p b [] = refl
front_more p b (q ∷ qs) = ap (λ (r : List ℕ). r ∷ qs) (sym (append_assoc p (b ∷ []) q))

-- where the pieces of a text lead: the state after its lines, the piece that no newline ends, and that piece's number
pub record Reached : Type 0 where
  pub state : State
  pub rest : List ℕ
  pub line : ℕ

abbrev pub reached : ℕ → State → List (List ℕ) → Reached
reached k s ps = record { state = lines_fold k s ps; rest = last ps; line = last_line k ps }

-- a piece before other pieces is a line
line_more : (k : ℕ) (s : State) (l : List ℕ) (bs : List ℕ) → reached k s (l ∷ pieces 10 bs) ≡ reached (next_line k) (line_step s k l) (pieces 10 bs)
line_more k s l [] = refl
line_more k s l (x ∷ xs) = step (eqb x 10) where
  behind : (ps : List (List ℕ)) → reached k s (l ∷ prepend x ps) ≡ reached (next_line k) (line_step s k l) (prepend x ps)
  behind [] = refl
  behind (p ∷ ps) = refl

  step : (t : Bool) → reached k s (l ∷ pick t ([] ∷ pieces 10 xs) (prepend x (pieces 10 xs)))
      ≡ reached (next_line k) (line_step s k l) (pick t ([] ∷ pieces 10 xs) (prepend x (pieces 10 xs)))
  step true = refl
  step false = behind (pieces 10 xs)

-- sheets of given lengths that hold the rows and then zeros
abbrev pub padded : Lent → State → Sheets
padded n s =
    sheets_of (pad_to n.sorts s.sorts) (pad_to n.terms s.terms) (pad_to n.inputs s.inputs) (pad_to n.steps s.steps)

padded_stored : (n : Lent) (s : State) (sheet : Sheet) (e : Effect) → Sized s
    → stored sheet s.control.kept (padded n s) e.cells ≡ padded n (applied sheet s e)
unfolding stored
padded_stored n s Sorts e h = rw (sym (sized_sorts s h), store_row n.sorts s.sorts e.cells)
padded_stored n s Terms e h = rw (sym (sized_terms s h), store_row n.terms s.terms e.cells)
padded_stored n s Inputs e h = rw (sym (sized_inputs s h), store_row n.inputs s.inputs e.cells)
padded_stored n s Steps e h = rw (sym (sized_steps s h), store_row n.steps s.steps e.cells)

-- a stream that has come as far as some lines and an unfinished one
pub record Follows (n : Lent) (s : Stream) (r : Reached) : Type 0 where
  pub partial_is : s.partial ≡ take 526 r.rest
  pub at_is : s.pos.at ≡ min (length r.rest) 526
  pub line_is : s.pos.line ≡ r.line
  pub control_is : s.control ≡ r.state.control
  pub sheets_are : s.sheets ≡ padded n r.state
  pub sized : Sized r.state

module _ (n : Lent) (s : Stream) (b : ℕ) (st : State) (p : List ℕ) (k : ℕ) (h : Follows n s (record { state = st; rest = p; line = k })) where
  effect_is : line_effect s.control s.pos.line s.partial ≡ line_effect st.control k p
  effect_is = rw (h.partial_is, h.line_is, h.control_is) (effect_cut st.control k p)

  sheets_next : stored s.control.sheet s.control.kept s.sheets (line_effect s.control s.pos.line s.partial).cells
      ≡ padded n (line_step st k p)
  unfolding line_step
  sheets_next = rw (effect_is, h.control_is, h.sheets_are) (padded_stored n st st.control.sheet (line_effect st.control k p) h.sized)

  newline_follows : is_newline (class_of b) ≡ true → Follows n (step_byte s b) (record { state = line_step st k p; rest = []; line = next_line k })
  unfolding step_byte
  newline_follows e =
      record {
        partial_is = rw e;
        at_is = rw e;
        line_is = rw (e, h.line_is);
        control_is = rw e (rw effect_is (sym (step_control st k p)));
        sheets_are = rw e sheets_next;
        sized = sized_step st k p h.sized;
      }

  size : length (p ++ (b ∷ [])) ≡ length p + 1
  size = length-append p (b ∷ [])

  plain_follows : is_newline (class_of b) ≡ false → Follows n (step_byte s b) (record { state = st; rest = p ++ (b ∷ []); line = k })
  unfolding step_byte
  plain_follows e = go (ltb s.pos.at 526) refl where
    go : (t : Bool) → ltb s.pos.at 526 ≡ t → Follows n (step_byte s b) (record { state = st; rest = p ++ (b ∷ []); line = k })
    go true f =
        let l = ltb-true s.pos.at 526 f in
        let m : length p < 526 = omega (arith, h.at_is) in
        record {
          partial_is = rw (e, f, h.partial_is, take_all 526 p (omega arith), take_all 526 (p ++ (b ∷ [])) (omega (arith, size)));
          at_is = rw (e, f) (omega (arith, size, h.at_is));
          line_is = rw e h.line_is;
          control_is = rw e h.control_is;
          sheets_are = rw e h.sheets_are;
          sized = h.sized;
        }
    go false f =
        let l = ltb-false s.pos.at 526 f in
        let m : 526 ≤ length p = omega (arith, h.at_is) in
        record {
          partial_is = rw (e, f, h.partial_is, take-append-le 526 p (b ∷ []) m);
          at_is = rw (e, f) (omega (arith, size, h.at_is));
          line_is = rw e h.line_is;
          control_is = rw e h.control_is;
          sheets_are = rw e h.sheets_are;
          sized = h.sized;
        }

follows : (n : Lent) (s : Stream) (st : State) (p : List ℕ) (k : ℕ) (bs : List ℕ)
    → Follows n s (record { state = st; rest = p; line = k }) → Follows n (feed_all s bs) (reached k st (front p (pieces 10 bs)))
unfolding front
follows n s st p k [] h = rw append_nil h
follows n s st p k (b ∷ bs) h = go (λ st' p' k' h'. follows n (step_byte s b) st' p' k' bs h') (eqb b 10) refl where
  go : ((st' : State) (p' : List ℕ) (k' : ℕ) → Follows n (step_byte s b) (record { state = st'; rest = p'; line = k' })
      → Follows n (feed_all (step_byte s b) bs) (reached k' st' (front p' (pieces 10 bs))))
      → (t : Bool) → eqb b 10 ≡ t
      → Follows n (feed_all (step_byte s b) bs) (reached k st (front p (pick t ([] ∷ pieces 10 bs) (prepend b (pieces 10 bs)))))
  go ih true e =
      rw (append_nil p, line_more k st p bs)
      (rw (front_none bs) at (ih (line_step st k p) [] (next_line k) (newline_follows n s b st p k h (newline_is b ∙ e))))
  go ih false e = rw (front_more p b (pieces 10 bs)) (ih st (p ++ (b ∷ [])) k (plain_follows n s b st p k h (newline_is b ∙ e)))

-- a text, fed from the start, does what its lines do, in order
pub whole_text : (n : Lent) (bs : List ℕ) → Follows n (feed_all (fresh_stream (padded n start_state)) bs) (reached 1 start_state (pieces 10 bs))
whole_text n bs =
    rw (front_none bs) at (follows n (fresh_stream (padded n start_state)) start_state [] 1 bs
    (record { partial_is = refl; at_is = refl; line_is = refl; control_is = refl; sheets_are = refl; sized = start_sized }))
