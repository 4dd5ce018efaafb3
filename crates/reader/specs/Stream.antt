-- The beginning and the end of a text that comes in pieces, and that the pieces make the whole.
use Rattle.std.specs.Prelude.{ℕ, ◌*◌, Bool, false, ◌≡◌, List, [], ◌∷◌, ◌++◌, None, eqb, leb, length, replicate}
use Rattle.text_fields.specs.Split.{pick}
use Rattle.text_lines.specs.View.{Sheets}
use Rattle.text_lines.specs.declared.Sheet.TheVariants.{Sorts}
use Rattle.text_stream.specs.Stream.{Stream, feed_all, fresh_stream}
use Rattle.text_stream.specs.declared.Progress.{Progress}
use Rattle.reader.specs.Text.{Lent, Fault, fault_of, outcome_of, TextRead}
use Rattle.reader.specs.declared.ReadOutcome.{ReadOutcome}

-- what the reader carries before the first byte
abbrev pub start_progress : Progress
start_progress =
    record {
      pos = record { line = 1; at = 0 };
      core =
          record {
            fault = None;
            sheet = Sorts;
            headed = false;
            line = 0;
            counts = record { sorts = 0; terms = 0; heads = 0; inputs = 0; steps = 0 };
          };
    }

-- a text that begins: all sheets are zero
pub record Begun (sorts terms inputs steps : List ℕ) (r : Progress) (sorts' terms' inputs' steps' : List ℕ) : Type 0 where
  pub starts : r ≡ start_progress
  pub sorts_is : sorts' ≡ replicate (length sorts) 0
  pub terms_is : terms' ≡ replicate (length terms) 0
  pub inputs_is : inputs' ≡ replicate (length inputs) 0
  pub steps_is : steps' ≡ replicate (length steps) 0

-- ---- the end of the text

unfoldable pub stream_fault : Stream → Fault
stream_fault s = fault_of s.control (eqb s.pos.at 0) s.pos.line

-- whether the sheets hold so many rows
abbrev pub hold_rows : ℕ → ℕ → ℕ → ℕ → ℕ → ℕ → ℕ → ℕ → Bool
hold_rows sorts terms inputs steps a b c d =
    pick (leb (sorts * 2) a) (pick (leb (terms * 6) b) (pick (leb (inputs * 2) c) (leb (steps * 9) d) false) false) false

abbrev pub number_of : ℕ → Bool → ℕ
number_of number room = pick (eqb number 0) (pick room 0 32) number

unfoldable pub stream_number : Stream → ℕ
stream_number s =
    number_of (stream_fault s).number
    (hold_rows (length s.control.kept.sorts) (length s.control.kept.terms) s.control.kept.inputs s.control.kept.steps
    (length s.sheets.sorts) (length s.sheets.terms) (length s.sheets.inputs) (length s.sheets.steps))

-- a sheet after a refusal is all zero
abbrev pub left_sheet : ℕ → List ℕ → List ℕ
left_sheet number sheet = pick (eqb number 0) sheet (replicate (length sheet) 0)

-- a text that has been finished: what is returned, the four sheets, and the other buffers, which are all zero
pub record Finished (s : Stream) (r : ReadOutcome) (line' names' sorts' terms' inputs' steps' : List ℕ) : Type 0 where
  pub outcome_is : r ≡ outcome_of (stream_number s) (stream_fault s) s.control.kept
  pub line_is : line' ≡ replicate 526 0
  pub names_is : names' ≡ replicate 55392 0
  pub sorts_is : sorts' ≡ left_sheet (stream_number s) s.sheets.sorts
  pub terms_is : terms' ≡ left_sheet (stream_number s) s.sheets.terms
  pub inputs_is : inputs' ≡ left_sheet (stream_number s) s.sheets.inputs
  pub steps_is : steps' ≡ left_sheet (stream_number s) s.sheets.steps

-- ---- a text in pieces

abbrev pub fed_pieces : Stream → List (List ℕ) → Stream
fed_pieces s [] = s
fed_pieces s (p ∷ ps) = fed_pieces (feed_all s p) ps

abbrev pub joined : List (List ℕ) → List ℕ
joined [] = []
joined (p ∷ ps) = p ++ joined ps

abbrev pub zero_sheets : Lent → Sheets
zero_sheets n =
    record { sorts = replicate n.sorts 0; terms = replicate n.terms 0; inputs = replicate n.inputs 0; steps = replicate n.steps 0 }

-- the claim: a text that was begun, fed in any pieces and finished leaves what the definition of the text form says of the whole
abbrev pub ReadInPieces : Type 0
ReadInPieces =
    (n : Lent) (ps : List (List ℕ)) (r : ReadOutcome) (line' names' sorts' terms' inputs' steps' : List ℕ)
    → Finished (fed_pieces (fresh_stream (zero_sheets n)) ps) r line' names' sorts' terms' inputs' steps'
    → TextRead (joined ps) n r sorts' terms' inputs' steps'
