-- A text that was fed from the start and finished leaves what the definition of the text form says.
use Prim.Native.Nat.{ℕ, min}
use mathlib.Core.Path.{◌≡◌, ap, ◌∙◌}
use mathlib.Core.List.{List, [], ◌∷◌}
use native.Mathlib.Omega.{arith}
use borrow.Author.Tests.{ne_eqb}
use lib.Dec.{eqb}
use lib.ListN.{length, replicate}
use Rattle.text_fields.specs.Split.{pieces, same}
use Rattle.buffers.specs.Room.{pad_to}
use Rattle.buffers.proofs.Room.{length_pad_to, pad_none}
use Rattle.text_stream.specs.declared.Progress.{Progress}
use Rattle.reader.specs.declared.ReadOutcome.{ReadOutcome}
use Rattle.reader.specs.Text.{Lent, lent_of, last, lines_fold, start_state, fits, text_state, text_fault, text_number, text_outcome, text_sheet, TextRead}
use Rattle.text_stream.specs.Stream.{Stream, feed_all, fresh_stream, stream_of}
use Rattle.reader.specs.Stream.{start_progress, stream_fault, stream_number, hold_rows, left_sheet, Begun, Finished}
use Rattle.reader.proofs.Sizes.{Sized, sized_sorts, sized_terms, sized_inputs, sized_steps}
use Rattle.reader.proofs.Whole.{Follows, reached, padded, whole_text}

-- before the first byte
pub fresh_is : (n : Lent) (f : Progress) (line t a b c d : List ℕ) → f ≡ start_progress
    → a ≡ replicate n.sorts 0 → b ≡ replicate n.terms 0 → c ≡ replicate n.inputs 0 → d ≡ replicate n.steps 0
    → stream_of f line t a b c d ≡ fresh_stream (padded n start_state)
fresh_is n f line t a b c d e p q u v = rw (e, p, q, u, v, pad_none n.sorts, pad_none n.terms, pad_none n.inputs, pad_none n.steps)

no_rest : (p : List ℕ) (n : ℕ) → n ≡ min (length p) 526 → eqb n 0 ≡ same p []
no_rest [] n e = rw e
no_rest (x ∷ xs) n e = ne_eqb n 0 (λ z. omega (arith, e))

-- a sheet at the end
left_padded : (number n : ℕ) (rows : List ℕ) → left_sheet number (pad_to n rows) ≡ text_sheet number n rows
unfolding text_sheet
left_padded number n rows = rw (length_pad_to n rows)

module _ (n : Lent) (bs : List ℕ) (s : Stream) (is : s ≡ feed_all (fresh_stream (padded n start_state)) bs) where
  ran : Follows n s (reached 1 start_state (pieces 10 bs))
  ran = rw is (whole_text n bs)

  control_is : s.control ≡ (text_state bs).control
  unfolding text_state
  control_is = ran.control_is

  sheets_are : s.sheets ≡ padded n (text_state bs)
  unfolding text_state
  sheets_are = ran.sheets_are

  fault_is : stream_fault s ≡ text_fault bs
  unfolding stream_fault text_fault
  fault_is = rw (control_is, ran.line_is, no_rest (last (pieces 10 bs)) s.pos.at ran.at_is)

  room_is : hold_rows (length s.control.kept.sorts) (length s.control.kept.terms) s.control.kept.inputs s.control.kept.steps
      (length s.sheets.sorts) (length s.sheets.terms) (length s.sheets.inputs) (length s.sheets.steps) ≡ fits n (text_state bs)
  unfolding text_state
  room_is =
      let st = lines_fold 1 start_state (pieces 10 bs) in
      let z = ran.sized in
      rw (
        ran.control_is,
        ran.sheets_are,
        length_pad_to n.sorts st.sorts,
        length_pad_to n.terms st.terms,
        length_pad_to n.inputs st.inputs,
        length_pad_to n.steps st.steps,
        sized_sorts st z,
        sized_terms st z,
        sized_inputs st z,
        sized_steps st z,
      )

  number_is : stream_number s ≡ text_number n bs
  unfolding stream_number text_number
  number_is = rw (fault_is, room_is)

  pub read_is : (r : ReadOutcome) (line' names' a' b' c' d' : List ℕ) → Finished s r line' names' a' b' c' d' → TextRead bs n r a' b' c' d'
  unfolding text_outcome
  read_is r line' names' a' b' c' d' h =
      let st = text_state bs in
      record {
        outcome_is = h.outcome_is ∙ rw (number_is, fault_is, control_is);
        sorts_is = h.sorts_is ∙ rw (number_is, sheets_are) (left_padded (text_number n bs) n.sorts st.sorts);
        terms_is = h.terms_is ∙ rw (number_is, sheets_are) (left_padded (text_number n bs) n.terms st.terms);
        inputs_is = h.inputs_is ∙ rw (number_is, sheets_are) (left_padded (text_number n bs) n.inputs st.inputs);
        steps_is = h.steps_is ∙ rw (number_is, sheets_are) (left_padded (text_number n bs) n.steps st.steps);
      }

-- the numbers of each sheet's rows are as many as the counts say
pub text_sized : (bs : List ℕ) → Sized (text_state bs)
unfolding text_state
text_sized bs = (whole_text (record { sorts = 0; terms = 0; inputs = 0; steps = 0 }) bs).sized

-- a whole text, begun, fed and finished
pub whole_read : (text a b c d : List ℕ) {f : Progress} {a₁ b₁ c₁ d₁ : List ℕ} → Begun a b c d f a₁ b₁ c₁ d₁
    → (line names : List ℕ) (s : Stream) → s ≡ feed_all (stream_of f line names a₁ b₁ c₁ d₁) text
    → {r : ReadOutcome} {line' names' a' b' c' d' : List ℕ} → Finished s r line' names' a' b' c' d'
    → TextRead text (lent_of a b c d) r a' b' c' d'
whole_read text a b c d {f} {a₁} {b₁} {c₁} {d₁} h line names s is end =
    let n = lent_of a b c d in
    let fresh = fresh_is n f line names a₁ b₁ c₁ d₁ h.starts h.sorts_is h.terms_is h.inputs_is h.steps_is in
    read_is n text s (is ∙ ap (λ (x : Stream). feed_all x text) fresh) _ _ _ _ _ _ _ end
