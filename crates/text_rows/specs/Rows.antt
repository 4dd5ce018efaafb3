-- What a line of values does, sheet by sheet. The fields of a line are `fs`, counted from 0 here and from 1 in a place.
use Rattle.std.specs.Prelude.{Option, Some, None, Ok, Err, ℕ, ◌+◌, Bool, true, false, List, [], ◌∷◌, ◌++◌, ltb, length, get_or}
use Rattle.text_fields.specs.Split.{pick, same, bytes}
use Rattle.text_fields.specs.Number.{value, number_or}
use Rattle.text_fields.specs.Words.{step_words, rule_words, head_words, index_from, ref_of}
use Rattle.text_fields.specs.Shape.{Shape, shape_of}

-- what later rows need of the rows so far: the names that sorts, terms and free heads got, in order, and how many inputs and steps there are
pub record Kept : Type 0 where
  pub sorts : List (List ℕ)
  pub terms : List (List ℕ)
  pub heads : List (List ℕ)
  pub inputs : ℕ
  pub steps : ℕ

-- what a line does: the number and the place of its fault, both 0 where it has none; what is kept; the numbers of its row
pub record Taken : Type 0 where
  pub number : ℕ
  pub place : ℕ
  pub kept : Kept
  pub cells : List ℕ

-- a bad line changes nothing
abbrev pub refused : Kept → ℕ → ℕ → Taken
refused k number place = record { number = number; place = place; kept = k; cells = [] }

-- a malformed line is 31; the other tests come after that
abbrev pub shaped : Kept → Shape → Taken → Taken
shaped k (Err place) t = refused k 31 place
shaped k (Ok u) t = t

-- more rows than the ceiling are 30
abbrev pub below : Kept → ℕ → ℕ → Taken → Taken
below k n ceiling t = pick (ltb n ceiling) t (refused k 30 0)

abbrev pub is_at : Option ℕ → Bool
is_at (Some k) = true
is_at None = false

-- a name that a row of its kind has, and the two reserved ones
unfoldable pub is_taken : List (List ℕ) → List ℕ → Bool
is_taken names f = pick (same f (bytes "-")) true (pick (same f (bytes "prop")) true (is_at (index_from 0 names f)))

-- such a name is 2, at the line's first field
abbrev pub fresh : Kept → Bool → Taken → Taken
fresh k true t = refused k 2 1
fresh k false t = t

-- a sort's number: prop is 0, and rows count from 1
abbrev pub sort_ref : List (List ℕ) → List ℕ → ℕ
sort_ref sorts f = ref_of (bytes "prop" ∷ sorts) f

-- a head's number, and the free heads with it
pub record Head : Type 0 where
  pub number : ℕ
  pub heads : List (List ℕ)

-- free heads count from 16 by first use
abbrev pub free_head : List (List ℕ) → List ℕ → Option ℕ → Head
free_head heads f (Some k) = record { number = 16 + k; heads = heads }
free_head heads f None = record { number = 16 + length heads; heads = heads ++ (f ∷ []) }

abbrev pub head_word : List (List ℕ) → List ℕ → Option ℕ → Head
head_word heads f (Some k) = record { number = k; heads = heads }
head_word heads f None = free_head heads f (index_from 0 heads f)

unfoldable pub head_of : List (List ℕ) → List ℕ → Head
head_of heads f =
    pick (same f (bytes "-")) (record { number = 65535; heads = heads }) (head_word heads f (index_from 0 head_words f))

-- sort rows: name, index sort, value sort
abbrev pub sort_added : Kept → List (List ℕ) → Taken
sort_added k fs =
    record {
      number = 0;
      place = 0;
      kept = record { sorts = k.sorts ++ (get_or fs 0 [] ∷ []); terms = k.terms; heads = k.heads; inputs = k.inputs; steps = k.steps };
      cells = sort_ref k.sorts (get_or fs 1 []) ∷ sort_ref k.sorts (get_or fs 2 []) ∷ [];
    }

unfoldable pub sort_row : Kept → List (List ℕ) → Taken
sort_row k fs =
    shaped k (shape_of 3 0 fs) (below k (length k.sorts) 32 (fresh k (is_taken k.sorts (get_or fs 0 [])) (sort_added k fs)))

-- term rows: name, head, sort, four arguments
abbrev pub term_cells : Kept → List (List ℕ) → List ℕ
term_cells k fs =
    (head_of k.heads (get_or fs 1 [])).number ∷ sort_ref k.sorts (get_or fs 2 [])
    ∷ ref_of k.terms (get_or fs 3 []) ∷ ref_of k.terms (get_or fs 4 []) ∷ ref_of k.terms (get_or fs 5 [])
    ∷ ref_of k.terms (get_or fs 6 []) ∷ []

abbrev pub term_added : Kept → List (List ℕ) → Taken
term_added k fs =
    record {
      number = 0;
      place = 0;
      kept =
          record {
            sorts = k.sorts;
            terms = k.terms ++ (get_or fs 0 [] ∷ []);
            heads = (head_of k.heads (get_or fs 1 [])).heads;
            inputs = k.inputs;
            steps = k.steps;
          };
      cells = term_cells k fs;
    }

unfoldable pub term_row : Kept → List (List ℕ) → Taken
term_row k fs =
    shaped k (shape_of 7 0 fs) (below k (length k.terms) 256 (fresh k (is_taken k.terms (get_or fs 0 [])) (term_added k fs)))

-- input rows: term, value
abbrev pub input_added : Kept → List (List ℕ) → Taken
input_added k fs =
    record {
      number = 0;
      place = 0;
      kept = record { sorts = k.sorts; terms = k.terms; heads = k.heads; inputs = k.inputs + 1; steps = k.steps };
      cells = ref_of k.terms (get_or fs 0 []) ∷ number_or (value (get_or fs 1 [])) ∷ [];
    }

unfoldable pub input_row : Kept → List (List ℕ) → Taken
input_row k fs = shaped k (shape_of 2 2 fs) (below k k.inputs 256 (input_added k fs))

-- step rows: step, rule, term, value, five premises
abbrev pub step_cells : Kept → List (List ℕ) → List ℕ
step_cells k fs =
    ref_of step_words (get_or fs 0 []) ∷ ref_of rule_words (get_or fs 1 [])
    ∷ ref_of k.terms (get_or fs 2 []) ∷ number_or (value (get_or fs 3 []))
    ∷ ref_of k.terms (get_or fs 4 []) ∷ ref_of k.terms (get_or fs 5 []) ∷ ref_of k.terms (get_or fs 6 [])
    ∷ ref_of k.terms (get_or fs 7 []) ∷ ref_of k.terms (get_or fs 8 []) ∷ []

abbrev pub step_added : Kept → List (List ℕ) → Taken
step_added k fs =
    record {
      number = 0;
      place = 0;
      kept = record { sorts = k.sorts; terms = k.terms; heads = k.heads; inputs = k.inputs; steps = k.steps + 1 };
      cells = step_cells k fs;
    }

unfoldable pub step_row : Kept → List (List ℕ) → Taken
step_row k fs = shaped k (shape_of 9 4 fs) (below k k.steps 1024 (step_added k fs))
