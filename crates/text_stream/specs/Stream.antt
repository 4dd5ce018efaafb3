-- A text that comes in pieces, byte after byte.
use Rattle.std.specs.Prelude.{ℕ, List, [], ◌∷◌, ◌++◌, ltb, take}
use Rattle.text_fields.specs.Split.{pick}
use Rattle.text_fields.specs.Class.{class_of, is_newline}
use Rattle.text_position.specs.Place.{advanced}
use Rattle.text_position.specs.declared.Position.{Position}
use Rattle.text_lines.specs.Lines.{Control, Effect, line_effect, started}
use Rattle.text_lines.specs.View.{Sheets, sheets_of, stored, control_of}
use Rattle.text_stream.specs.declared.Progress.{Progress}

-- where the reader is, the unfinished line, what the finished lines made, and the sheets
pub record Stream : Type 0 where
  pub pos : Position
  pub partial : List ℕ
  pub control : Control
  pub sheets : Sheets

-- a newline ends a line
abbrev pub ended : Stream → Position → Effect → Stream
ended s pos e =
    record { pos = pos; partial = []; control = e.control; sheets = stored s.control.sheet s.control.kept s.sheets e.cells }

-- one byte; of a line the first 526 bytes are held, which tell that it is too long
unfoldable pub step_byte : Stream → ℕ → Stream
step_byte s b =
    pick (is_newline (class_of b))
    (ended s (advanced s.pos b) (line_effect s.control s.pos.line s.partial))
    (record {
      pos = advanced s.pos b;
      partial = pick (ltb s.pos.at 526) (s.partial ++ (b ∷ [])) s.partial;
      control = s.control;
      sheets = s.sheets;
    })

-- all bytes of a piece, in order
abbrev pub feed_all : Stream → List ℕ → Stream
feed_all s [] = s
feed_all s (b ∷ bs) = feed_all (step_byte s b) bs

-- before the first byte
abbrev pub fresh_stream : Sheets → Stream
fresh_stream sheets = record { pos = record { line = 1; at = 0 }; partial = []; control = started; sheets = sheets }

-- what the code's values and buffers stand for: of the line's buffer the bytes up to the place in the line
abbrev pub holding : Position → List ℕ → Control → Sheets → Stream
holding pos line control sheets = record { pos = pos; partial = take pos.at line; control = control; sheets = sheets }

abbrev pub stream_of : Progress → List ℕ → List ℕ → List ℕ → List ℕ → List ℕ → List ℕ → Stream
stream_of f line table sorts terms inputs steps = holding f.pos line (control_of f.core table) (sheets_of sorts terms inputs steps)
