-- What a text gets: its bytes are read, and the log that they hold is run.
use Rattle.std.specs.Prelude.{ℕ, List, eqb, replicate}
use Rattle.calculus.specs.declared.Outcome.{Outcome}
use Rattle.calculus.specs.Sheets.{Call}
use Rattle.calculus.specs.Run.{turned_away, outcome_of, outcome}
use Rattle.checker.specs.Contract.{call_of}
use Rattle.text_fields.specs.Split.{pick}
use Rattle.reader.specs.Text.{Lent, State, text_state, text_fault}

-- sheets that hold as many rows as a text can have
abbrev pub most : Lent
most = record { sorts = 64; terms = 1536; inputs = 512; steps = 9216 }

-- a run of these sheets with a workspace and a trail buffer for as many terms as a text can have
abbrev pub call_with : List ℕ → List ℕ → List ℕ → List ℕ → Call
call_with sorts terms inputs steps = call_of sorts terms inputs steps (replicate 2060 0) (replicate 1024 0)

-- the run of the rows that were read
abbrev pub call_from : State → Call
call_from s = call_with s.sorts s.terms s.inputs s.steps

-- refused by the reader: no steps and no entries
abbrev pub unread : ℕ → Outcome
unread number = outcome_of (turned_away number)

-- the reader's number, or the outcome of the run
unfoldable pub verdict_of : List ℕ → Outcome
verdict_of bs = pick (eqb (text_fault bs).number 0) (outcome (call_from (text_state bs))) (unread (text_fault bs).number)
