-- What is stated of a text: the result, the line for a person, and every lent buffer.
use Rattle.std.specs.Prelude.{ℕ, ◌≡◌, List, replicate}
use Rattle.buffers.specs.Room.{pad_to}
use Rattle.calculus.specs.declared.Outcome.{Outcome}
use Rattle.calculus.specs.Run.{outcome}
use Rattle.report.specs.Complaint.{complained}
use Rattle.reader.specs.Text.{text_state, text_number, text_sheet}
use Rattle.reader.specs.declared.ReadOutcome.{ReadOutcome}
use Rattle.verdict.specs.declared.Answer.{Answer}
use Rattle.verdict.specs.Verdict.{most, call_with, unread, verdict_of}
use Rattle.verdict.specs.Fault.{line_of, line_meant, complaint_of}

-- of a text that is not read, by what the reader returns
abbrev pub unread_answer : ReadOutcome → Answer
unread_answer r =
    record { outcome = unread r.number; complaint = record { number = r.number; line = r.line; field = r.place; why = r.why } }

-- of a text that is read, by its rows, and how many of them the first three sheets have
abbrev pub run_answer : ℕ → ℕ → ℕ → List ℕ → List ℕ → List ℕ → List ℕ → Answer
run_answer a b c sorts terms inputs steps =
    let o = outcome (call_with sorts terms inputs steps) in
    record {
      outcome = o;
      complaint = record { number = o.number; line = line_of o a b c sorts terms inputs; field = o.place; why = line_meant o steps };
    }

-- the result of a text, and what a person is told of it
unfoldable pub answer_of : List ℕ → Answer
answer_of bs = record { outcome = verdict_of bs; complaint = complaint_of bs }

-- a text that came to its end: the answer, the four sheets with its rows, and the other buffers, which are all zero
pub record Concluded (bs : List ℕ) (r : Answer) (line' names' sorts' terms' inputs' steps' : List ℕ) : Type 0 where
  pub answer_is : r ≡ answer_of bs
  pub line_is : line' ≡ replicate 526 0
  pub names_is : names' ≡ replicate 55392 0
  pub sorts_is : sorts' ≡ text_sheet (text_number most bs) 64 (text_state bs).sorts
  pub terms_is : terms' ≡ text_sheet (text_number most bs) 1536 (text_state bs).terms
  pub inputs_is : inputs' ≡ text_sheet (text_number most bs) 512 (text_state bs).inputs
  pub steps_is : steps' ≡ text_sheet (text_number most bs) 9216 (text_state bs).steps

-- a text in memory, and a buffer of n bytes for the line that a person is told: the line, cut where the buffer is short, and zeros
pub record Checked (bs : List ℕ) (n : ℕ) (r : Outcome) (said : List ℕ) : Type 0 where
  pub result : r ≡ verdict_of bs
  pub told : said ≡ pad_to n (complained (complaint_of bs))
