-- Worked examples: texts, the sheets lent for them, and what reading them gives. One table, and one theorem by computation.
use Rattle.std.specs.Prelude.{ℕ, ◌≡◌, refl, List, [], ◌∷◌, ◌++◌, Option, Some, None, map, replicate}
use Rattle.text_fields.specs.Split.{bytes}
use Rattle.text_fields.specs.Words.{ref_of}
use Rattle.text_fields.specs.Shape.{shape_of}
use Rattle.text_faults.specs.Why.{byte_order_mark, header_why, row_why, why_number}
use Rattle.text_faults.specs.declared.Why.{Why}
use Rattle.text_faults.specs.declared.Why.TheVariants.{Mark, Return, Long, Header, Empty, Byte, Fields, Name, Value, Early, Cut}
use Rattle.text_rows.specs.Rows.{is_taken, head_of, sort_row, term_row, input_row, step_row}
use Rattle.text_lines.specs.Lines.{read_line, line_effect}
use Rattle.reader.specs.Text.{Lent, line_step, text_state, text_fault, text_number, text_outcome, text_sheet}
use Rattle.reader.specs.declared.ReadOutcome.{ReadOutcome}

-- what a text that is read leaves in the four sheets
pub record Left : Type 0 where
  pub outcome : ReadOutcome
  pub sorts : List ℕ
  pub terms : List ℕ
  pub inputs : List ℕ
  pub steps : List ℕ

pub record Example : Type 0 where
  pub text : List ℕ
  pub lent : Lent
  pub left : Left

abbrev pub reading : Example → Left
reading e =
    record {
      outcome = text_outcome e.lent e.text;
      sorts = text_sheet (text_number e.lent e.text) e.lent.sorts (text_state e.text).sorts;
      terms = text_sheet (text_number e.lent e.text) e.lent.terms (text_state e.text).terms;
      inputs = text_sheet (text_number e.lent e.text) e.lent.inputs (text_state e.text).inputs;
      steps = text_sheet (text_number e.lent e.text) e.lent.steps (text_state e.text).steps;
    }

-- four sheets of so many numbers
lend : ℕ → ℕ → ℕ → ℕ → Lent
lend a b c d = record { sorts = a; terms = b; inputs = c; steps = d }

-- a text that leaves no rows in sheets of 4, 12, 4 and 9 numbers: the number, the line, the place and the cause
no_rows : List ℕ → ℕ → ℕ → ℕ → Option Why → Example
no_rows text number line place why =
    record {
      text = text;
      lent = lend 4 12 4 9;
      left =
          record {
            outcome =
                record { number = number; sorts = 0; terms = 0; inputs = 0; steps = 0; why = why_number why; line = line; place = place };
            sorts = replicate 4 0;
            terms = replicate 12 0;
            inputs = replicate 4 0;
            steps = replicate 9 0;
          };
    }

listing : List ℕ
listing =
    bytes "sort index value\nS - -\n\nterm head sort a b c d\na A S - - - -\nb B S - - - -\ne eq prop a b - -\n"
    ++ bytes "fa F S a - - -\nfb F S b - - -\ng eq prop fa fb - -\n\nterm value\ne true\ng false\n\n"
    ++ bytes "step rule term value p q r s t\nfail cong g true e - - - -\n"

-- as many sorts as there can be
sorts32 : List ℕ
sorts32 =
    bytes "sort index value\ns0 - -\ns1 - -\ns2 - -\ns3 - -\ns4 - -\ns5 - -\ns6 - -\ns7 - -\ns8 - -\ns9 - -\ns10 - -\n"
    ++ bytes "s11 - -\ns12 - -\ns13 - -\ns14 - -\ns15 - -\ns16 - -\ns17 - -\ns18 - -\ns19 - -\ns20 - -\ns21 - -\n"
    ++ bytes "s22 - -\ns23 - -\ns24 - -\ns25 - -\ns26 - -\ns27 - -\ns28 - -\ns29 - -\ns30 - -\ns31 - -\n"

pub table : List Example
table =
    record {
      text = listing;
      lent = lend 4 38 4 9;
      left =
          record {
            outcome = record { number = 0; sorts = 1; terms = 6; inputs = 2; steps = 1; why = 0; line = 0; place = 0 };
            sorts = 65535 ∷ 65535 ∷ 0 ∷ 0 ∷ [];
            terms =
                16 ∷ 1 ∷ 65535 ∷ 65535 ∷ 65535 ∷ 65535 ∷ 17 ∷ 1 ∷ 65535 ∷ 65535 ∷ 65535 ∷ 65535 ∷ 0 ∷ 0 ∷ 0 ∷ 1 ∷ 65535 ∷ 65535
                ∷ 18 ∷ 1 ∷ 0 ∷ 65535 ∷ 65535 ∷ 65535 ∷ 18 ∷ 1 ∷ 1 ∷ 65535 ∷ 65535 ∷ 65535 ∷ 0 ∷ 0 ∷ 3 ∷ 4 ∷ 65535 ∷ 65535 ∷ 0 ∷ 0 ∷ [];
            inputs = 2 ∷ 1 ∷ 5 ∷ 0 ∷ [];
            steps = 7 ∷ 9 ∷ 5 ∷ 1 ∷ 2 ∷ 65535 ∷ 65535 ∷ 65535 ∷ 65535 ∷ [];
          };
    }
    -- the shortest file: four headers, no rows (a good one, so its sheets are zeros too)
    ∷ no_rows (bytes "sort index value\n\nterm head sort a b c d\n\nterm value\n\nstep rule term value p q r s t\n") 0 0 0 None
    -- nothing at all: the file ends early, in line 1
    ∷ no_rows (bytes "") 31 1 0 (Some Early)
    -- the file ends inside its first line
    ∷ no_rows (bytes "sort index") 31 1 0 (Some Cut)
    -- it ends before the step header, in line 6
    ∷ no_rows (bytes "sort index value\n\nterm head sort a b c d\n\nterm value\n") 31 6 0 (Some Early)
    -- a wrong header
    ∷ no_rows (bytes "sort index value\n\nterm head sort a b c\n\nterm value\n\nstep rule term value p q r s t\n") 31 3 0 (Some Header)
    -- two empty lines
    ∷ no_rows (bytes "sort index value\n\n\nterm head sort a b c d\n\nterm value\n\nstep rule term value p q r s t\n") 31 3 0 (Some Header)
    -- an empty line after the step sheet
    ∷ no_rows (bytes "sort index value\n\nterm head sort a b c d\n\nterm value\n\nstep rule term value p q r s t\n\n") 31 8 0 (Some Empty)
    -- two spaces
    ∷ no_rows (bytes "sort index value\nS  - -\n") 31 2 0 (Some Fields)
    -- a field too few
    ∷ no_rows (bytes "sort index value\nS -\n") 31 2 0 (Some Fields)
    -- a byte order mark; a carriage return, in a header and in a row; a tab; a line that is too long
    ∷ no_rows (byte_order_mark ++ bytes "sort index value\n") 31 1 0 (Some Mark)
    ∷ no_rows (bytes "sort index value" ++ (13 ∷ 10 ∷ [])) 31 1 0 (Some Return)
    ∷ no_rows (bytes "sort index value\nS - -" ++ (13 ∷ 10 ∷ [])) 31 2 0 (Some Return)
    ∷ no_rows (bytes "sort index value\nS - " ++ (9 ∷ []) ++ bytes "-\n") 31 2 0 (Some Byte)
    ∷ no_rows (bytes "sort index value\n" ++ replicate 526 120 ++ bytes "\n") 31 2 0 (Some Long)
    -- a leading zero, in field 2 of line 7
    ∷ no_rows (bytes "sort index value\n\nterm head sort a b c d\na A - - - - -\n\nterm value\na 07\n") 31 7 2 (Some Value)
    -- 65,535 is no value
    ∷ no_rows (bytes "sort index value\n\nterm head sort a b c d\na A - - - - -\n\nterm value\na 65535\n") 31 7 2 (Some Value)
    -- a name of 65 bytes
    ∷ no_rows (bytes "sort index value\nS - xxxxxxxxxxxxxxxxxxxxxxxxxxxxxxxxxxxxxxxxxxxxxxxxxxxxxxxxxxxxxxxxx\n") 31 2 3 (Some Name)
    -- a repeated name
    ∷ no_rows (bytes "sort index value\nS - -\nS - -\n") 2 3 1 None
    -- a reserved name
    ∷ no_rows (bytes "sort index value\n\nterm head sort a b c d\nprop A - - - - -\n") 2 4 1 None
    -- the first bad line decides: 2 in line 3, and not 31 in line 4
    ∷ no_rows (bytes "sort index value\nS - -\n- - -\nT -\n") 2 3 1 None
    -- no line is bad, and the input sheet is short by one row
    ∷ no_rows (bytes "sort index value\n\nterm head sort a b c d\na A - - - - -\n\nterm value\na 1\na 2\na 3\n\nstep rule term value p q r s t\n") 32 0 0 None
    -- the 33rd sort
    ∷ no_rows (sorts32 ++ bytes "s32 - -\n") 30 34 0 None
    -- within one line 31 comes before 30
    ∷ no_rows (sorts32 ++ bytes "s0 -\n") 31 34 0 (Some Fields)
    -- within one line 30 comes before 2
    ∷ no_rows (sorts32 ++ bytes "s0 - -\n") 30 34 0 None
    -- names are told apart by all their bytes; a forward name and an unknown word are 65,534; a head may be called prop; values up to 65,534
    ∷ record {
      text =
          bytes "sort index value\nS prop S\n\nterm head sort a b c d\nabcdefghijklmnopqrst1 prop Q abcdefghijklmnopqrst2 - - -\n"
          ++ bytes "abcdefghijklmnopqrst2 eq prop abcdefghijklmnopqrst2 abcdefghijklmnopqrst1 - -\nc - S - - - -\n"
          ++ bytes "\nterm value\nabcdefghijklmnopqrst2 65534\n\nstep rule term value p q r s t\ndecide fail c - nobody abcdefghijklmnopqrst1 - - -\n";
      lent = lend 2 18 2 9;
      left =
          record {
            outcome = record { number = 0; sorts = 1; terms = 3; inputs = 1; steps = 1; why = 0; line = 0; place = 0 };
            sorts = 0 ∷ 65534 ∷ [];
            terms = 16 ∷ 65534 ∷ 65534 ∷ 65535 ∷ 65535 ∷ 65535 ∷ 0 ∷ 0 ∷ 65534 ∷ 0 ∷ 65535 ∷ 65535 ∷ 65535 ∷ 1 ∷ 65535 ∷ 65535 ∷ 65535 ∷ 65535 ∷ [];
            inputs = 1 ∷ 65534 ∷ [];
            steps = 0 ∷ 65534 ∷ 2 ∷ 65535 ∷ 65534 ∷ 0 ∷ 65535 ∷ 65535 ∷ 65535 ∷ [];
          };
    }
    ∷ []

pub readings : map reading table ≡ map (λ (e : Example). e.left) table
unfolding table listing sorts32 lend no_rows ref_of shape_of is_taken head_of sort_row term_row input_row step_row header_why row_why read_line line_effect line_step text_state text_fault text_number text_outcome text_sheet
readings = refl
