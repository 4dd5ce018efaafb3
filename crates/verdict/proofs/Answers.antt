-- Laws of the answer to a text.
use Prim.Native.Nat.{ℕ, ◌*◌, ◌≤◌}
use mathlib.Core.Path.{◌≡◌, refl, ap, sym, subst, ◌∙◌}
use mathlib.Core.Bool.{Bool, true, false}
use mathlib.Core.List.{List, [], ◌∷◌}
use native.Mathlib.Omega.{arith}
use borrow.Author.Tests.{eq-eqb, ne_eqb, le-leb, eqb-true}
use lib.Dec.{eqb}
use lib.ListN.{length, take, replicate, length-replicate}
use Rattle.buffers.specs.Room.{pad_to}
use Rattle.buffers.proofs.Room.{append_nil, take_pad}
use Rattle.report.specs.Put.{Laid}
use Rattle.report.specs.Complaint.{complained}
use Rattle.text_fields.specs.Split.{pick}
use Rattle.reader.specs.declared.ReadOutcome.{ReadOutcome}
use Rattle.reader.specs.Text.{State, lent_of, fits, text_state, text_fault, text_number, outcome_of, text_outcome, text_sheet, TextRead}
use Rattle.text_stream.specs.declared.Progress.{Progress}
use Rattle.text_stream.specs.Stream.{Stream, feed_all, stream_of, fresh_stream}
use Rattle.reader.specs.Stream.{Begun, Finished, fed_pieces, joined, zero_sheets}
use Rattle.reader.proofs.Pieces.{read_in_pieces, begun_fresh}
use Rattle.reader.proofs.Ceilings.{texts_within}
use Rattle.reader.proofs.Sizes.{sized_sorts, sized_terms, sized_inputs, sized_steps}
use Rattle.reader.proofs.Final.{text_sized}
use Rattle.verdict.specs.declared.Answer.{Answer}
use Rattle.verdict.specs.Verdict.{most, verdict_of}
use Rattle.verdict.specs.Fault.{complaint_of}
use Rattle.verdict.specs.Contract.{unread_answer, run_answer, answer_of, Concluded, Checked}

-- rows that the greatest sheets hold, as those of every text
record Held (s : State) : Type 0 where
  sorts : length s.sorts ≤ 64
  terms : length s.terms ≤ 1536
  inputs : length s.inputs ≤ 512
  steps : length s.steps ≤ 9216

held_all : (bs : List ℕ) → Held (text_state bs)
held_all bs =
    let s = text_state bs in
    let sized = text_sized bs in
    let within = texts_within bs in
    record {
      sorts = omega (arith, sized_sorts s sized, within.0);
      terms = omega (arith, sized_terms s sized, within.1);
      inputs = omega (arith, sized_inputs s sized, within.2);
      steps = omega (arith, sized_steps s sized, within.3);
    }

fits_most : (s : State) → Held s → fits most s ≡ true
fits_most s h =
    rw (
      le-leb (length s.sorts) 64 h.sorts,
      le-leb (length s.terms) 1536 h.terms,
      le-leb (length s.inputs) 512 h.inputs,
      le-leb (length s.steps) 9216 h.steps,
    )

-- the rows come back from a sheet that holds them
rows_back : (n count w : ℕ) (rows sheet : List ℕ) → length rows ≤ n → length rows ≡ count * w → sheet ≡ text_sheet 0 n rows
    → take (count * w) sheet ≡ rows
unfolding text_sheet
rows_back n count w rows sheet h e is = rw (is, ← e) (take_pad n rows h)

module _ (bs : List ℕ) where
  held : Held (text_state bs)
  held = held_all bs

  -- a text's number is its fault's
  number_is : text_number most bs ≡ (text_fault bs).number
  unfolding text_number
  number_is = go (eqb (text_fault bs).number 0) refl where
    go : (b : Bool) → eqb (text_fault bs).number 0 ≡ b
        → pick (eqb (text_fault bs).number 0) (pick (fits most (text_state bs)) 0 32) (text_fault bs).number ≡ (text_fault bs).number
    go true e = rw (e, fits_most (text_state bs) held) (sym (eqb-true (text_fault bs).number 0 e))
    go false e = rw e

  module _ (r : ReadOutcome) (sorts terms inputs steps : List ℕ) (read : TextRead bs most r sorts terms inputs steps) where
    fault_is : r.number ≡ (text_fault bs).number
    unfolding text_outcome
    fault_is = ap (λ (x : ReadOutcome). x.number) read.outcome_is ∙ number_is

    -- a text that is not read
    pub judged_unread : (r.number ≡ 0 → ⊥) → {a : Answer} → a ≡ unread_answer r → a ≡ answer_of bs
    unfolding answer_of verdict_of complaint_of text_outcome
    judged_unread h is =
        let e : eqb (text_fault bs).number 0 ≡ false = ne_eqb (text_fault bs).number 0 (λ z. h (fault_is ∙ z)) in
        is ∙ rw (read.outcome_is, number_is, e)

    -- a text that is read
    module _ (good : r.number ≡ 0) where
      zero_is : text_number most bs ≡ 0
      zero_is = number_is ∙ sym fault_is ∙ good

      counts_are : r ≡ outcome_of 0 (text_fault bs) (text_state bs).control.kept
      unfolding text_outcome
      counts_are = read.outcome_is ∙ ap (λ (x : ℕ). outcome_of x (text_fault bs) (text_state bs).control.kept) zero_is

      abbrev s : State
      s = text_state bs

      sorts_back : take (r.sorts * 2) sorts ≡ s.sorts
      sorts_back =
          rows_back 64 r.sorts 2 s.sorts sorts held.sorts (rw counts_are (sized_sorts s (text_sized bs))) (rw zero_is at read.sorts_is)

      terms_back : take (r.terms * 6) terms ≡ s.terms
      terms_back =
          rows_back 1536 r.terms 6 s.terms terms held.terms (rw counts_are (sized_terms s (text_sized bs))) (rw zero_is at read.terms_is)

      inputs_back : take (r.inputs * 2) inputs ≡ s.inputs
      inputs_back =
          rows_back 512 r.inputs 2 s.inputs inputs held.inputs (rw counts_are (sized_inputs s (text_sized bs))) (rw zero_is at read.inputs_is)

      steps_back : take (r.steps * 9) steps ≡ s.steps
      steps_back =
          rows_back 9216 r.steps 9 s.steps steps held.steps (rw counts_are (sized_steps s (text_sized bs))) (rw zero_is at read.steps_is)

      pub judged_run : (a b c d : List ℕ)
          → a ≡ take (r.sorts * 2) sorts → b ≡ take (r.terms * 6) terms → c ≡ take (r.inputs * 2) inputs → d ≡ take (r.steps * 9) steps
          → {x : Answer} → x ≡ run_answer r.sorts r.terms r.inputs a b c d → x ≡ answer_of bs
      unfolding answer_of verdict_of complaint_of
      judged_run a b c d p q u v is =
          let e : eqb (text_fault bs).number 0 ≡ true = eq-eqb (text_fault bs).number 0 (sym fault_is ∙ good) in
          is ∙ rw (p ∙ sorts_back, q ∙ terms_back, u ∙ inputs_back, v ∙ steps_back, counts_are, e)

-- a text that came in pieces, finished and judged
module _ (ps : List (List ℕ)) (f : Progress) (line t a b c d : List ℕ)
    (is : stream_of f line t a b c d ≡ fed_pieces (fresh_stream (zero_sheets most)) ps) where
  pub concluded : {r : ReadOutcome} {line' names' a' b' c' d' : List ℕ} → Finished (stream_of f line t a b c d) r line' names' a' b' c' d'
      → {x : Answer} → ((bs : List ℕ) → TextRead bs most r a' b' c' d' → x ≡ answer_of bs)
      → Concluded (joined ps) x line' names' a' b' c' d'
  concluded {r} {line'} {names'} {a'} {b'} {c'} {d'} end judged =
      let whole = subst (λ (s : Stream). Finished s r line' names' a' b' c' d') is end in
      let read = read_in_pieces most ps r line' names' a' b' c' d' whole in
      record {
        answer_is = judged (joined ps) read;
        line_is = end.line_is;
        names_is = end.names_is;
        sorts_is = read.sorts_is;
        terms_is = read.terms_is;
        inputs_is = read.inputs_is;
        steps_is = read.steps_is;
      }

-- cleared arrays of these lengths are the greatest sheets
pub arrays_are_most : lent_of (replicate 64 0) (replicate 1536 0) (replicate 512 0) (replicate 9216 0) ≡ most
arrays_are_most =
    let long = length-replicate {A = ℕ} in
    rw (long 64 0, long 1536 0, long 512 0, long 9216 0)

-- a text in memory: one piece
module _ (text : List ℕ) {a b c d : List ℕ} (lent : lent_of a b c d ≡ most) {f : Progress} {a₀ b₀ c₀ d₀ : List ℕ} (begun : Begun a b c d f a₀ b₀ c₀ d₀)
    (line names : List ℕ) (s : Stream) (fed : s ≡ feed_all (stream_of f line names a₀ b₀ c₀ d₀) text) where
  one_piece : s ≡ fed_pieces (fresh_stream (zero_sheets most)) (text ∷ [])
  one_piece = fed ∙ ap (λ (x : Stream). feed_all x text) (begun_fresh most lent begun line names)

  module _ (x : Answer) {line' names' a' b' c' d' : List ℕ}
      (end : (ps : List (List ℕ)) → s ≡ fed_pieces (fresh_stream (zero_sheets most)) ps → Concluded (joined ps) x line' names' a' b' c' d') where
    pub answered : x ≡ answer_of text
    answered = (end (text ∷ []) one_piece).answer_is ∙ ap answer_of (append_nil text)

    pub checked : (n k : ℕ) {said : List ℕ} → Laid n (complained x.complaint) k said → Checked text n x.outcome said
    unfolding answer_of
    checked n k told =
        record {
          result = ap (λ (y : Answer). y.outcome) answered;
          told = told.out_is ∙ ap (λ (y : Answer). pad_to n (complained y.complaint)) answered;
        }
