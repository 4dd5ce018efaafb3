-- Laws of the row at fault and of its line, case after case as the code has them.
use Prim.Native.Nat.{ℕ, suc, ◌+◌, ◌-◌, ◌*◌, ◌≤◌, ◌<◌}
use mathlib.Core.Path.{◌≡◌, sym, ◌∙◌}
use mathlib.Core.Bool.{Bool, true, false}
use mathlib.Core.List.{List}
use native.Mathlib.Omega.{arith}
use native.Mathlib.Numerals.{add-one}
use borrow.Author.Tests.{eq-eqb, ne_eqb, lt-ltb, le-ltb}
use lib.ListN.{take}
use Rattle.calculus.specs.declared.Outcome.{Outcome}
use Rattle.calculus.specs.Run.{outcome}
use Rattle.text_lines.specs.declared.Sheet.{Sheet}
use Rattle.text_lines.specs.declared.Sheet.TheVariants.{Sorts, Terms, Inputs, Steps}
use Rattle.reader.specs.Places.{row_line}
use Rattle.verdict.specs.Verdict.{call_with}
use Rattle.verdict.specs.Fault.{sheet_of, cut_call, cut_refused, first_refused, refused_row, row_in, line_of}

-- sheets cut behind the first k rows of one of them
module _ {sheet : Sheet} (k : ℕ) (a b c : List ℕ) {r : Outcome} (none : List ℕ) (none_is : none ≡ take 0 a) where
  pub cut_sorts : sheet ≡ Sorts → (a' : List ℕ) → a' ≡ take (k * 2) a → r ≡ outcome (call_with a' none none none) → r ≡ outcome (cut_call sheet k a b c)
  cut_sorts e a' is r_is = r_is ∙ rw (e, is, none_is)

  pub cut_terms : sheet ≡ Terms → (b' : List ℕ) → b' ≡ take (k * 6) b → r ≡ outcome (call_with a b' none none) → r ≡ outcome (cut_call sheet k a b c)
  cut_terms e b' is r_is = r_is ∙ rw (e, is, none_is)

  pub cut_inputs : sheet ≡ Inputs → (c' : List ℕ) → c' ≡ take (k * 2) c → r ≡ outcome (call_with a b c' none) → r ≡ outcome (cut_call sheet k a b c)
  cut_inputs e c' is r_is = r_is ∙ rw (e, is, none_is)

  pub cut_steps : sheet ≡ Steps → r ≡ outcome (call_with a b c none) → r ≡ outcome (cut_call sheet k a b c)
  cut_steps e r_is = r_is ∙ rw (e, none_is)

-- the first row behind which a cut is refused is sought from row k on
module _ (sheet : Sheet) (rows : ℕ) (a b c : List ℕ) where
  abbrev pub Sought : ℕ → Type 0
  Sought k = first_refused (cut_refused sheet a b c) k (rows - k) ≡ refused_row sheet rows a b c

  pub sought_first : Sought 0
  unfolding refused_row
  sought_first = let e : rows - 0 ≡ rows = omega arith in rw e

  module _ (k : ℕ) (so_far : Sought k) where
    module _ (h : k < rows) {bad : Bool} (bad_is : bad ≡ cut_refused sheet a b c (k + 1)) where
      left : rows - k ≡ suc (rows - (k + 1))
      left = omega (arith, add-one (rows - (k + 1)))

      pub sought_here : bad ≡ true → k ≡ refused_row sheet rows a b c
      sought_here e = rw (left, sym bad_is ∙ e) at so_far

      pub sought_later : bad ≡ false → Sought (k + 1)
      sought_later e = rw (left, sym bad_is ∙ e) at so_far

    pub sought_all : rows ≤ k → k ≡ refused_row sheet rows a b c
    sought_all h = let e : rows - k ≡ 0 = omega arith in rw e at so_far

-- the sheet of a number
module _ (number : ℕ) where
  pub sheet_sorts : number < 3 → Sorts ≡ sheet_of number
  sheet_sorts h = rw (lt-ltb number 3 h)

  module _ (past : 3 ≤ number) where
    pub sheet_terms : number < 6 → Terms ≡ sheet_of number
    sheet_terms h = rw (le-ltb number 3 past, lt-ltb number 6 h)

    module _ (beyond : 6 ≤ number) where
      pub sheet_inputs : number < 9 → Inputs ≡ sheet_of number
      sheet_inputs h = rw (le-ltb number 3 past, le-ltb number 6 beyond, lt-ltb number 9 h)

      pub sheet_steps : 9 ≤ number → Steps ≡ sheet_of number
      sheet_steps h = rw (le-ltb number 3 past, le-ltb number 6 beyond, le-ltb number 9 h)

-- the row at fault, by the sheet of the number
module _ (o : Outcome) (n : ℕ) (a b c : ℕ) (sorts terms inputs : List ℕ) {sheet : Sheet} (sheet_is : sheet ≡ sheet_of n) where
  pub row_sorts : {row : ℕ} → sheet ≡ Sorts → row ≡ refused_row Sorts a sorts terms inputs → row ≡ row_in (sheet_of n) o a b c sorts terms inputs
  row_sorts e is = is ∙ rw (sym sheet_is ∙ e)

  pub row_terms : {row : ℕ} → sheet ≡ Terms → row ≡ refused_row Terms b sorts terms inputs → row ≡ row_in (sheet_of n) o a b c sorts terms inputs
  row_terms e is = is ∙ rw (sym sheet_is ∙ e)

  pub row_inputs : {row : ℕ} → sheet ≡ Inputs → row ≡ refused_row Inputs c sorts terms inputs → row ≡ row_in (sheet_of n) o a b c sorts terms inputs
  row_inputs e is = is ∙ rw (sym sheet_is ∙ e)

  pub row_steps : sheet ≡ Steps → o.steps ≡ row_in (sheet_of n) o a b c sorts terms inputs
  row_steps e = rw (sym sheet_is ∙ e)

-- its line
module _ (o : Outcome) (a b c : ℕ) (sorts terms inputs : List ℕ) where
  pub line_none : o.number ≡ 0 → 0 ≡ line_of o a b c sorts terms inputs
  unfolding line_of
  line_none e = rw (eq-eqb o.number 0 e)

  pub line_some : (o.number ≡ 0 → ⊥) → (row : ℕ) → row ≡ row_in (sheet_of o.number) o a b c sorts terms inputs
      → (sheet : Sheet) → sheet ≡ sheet_of o.number → {l : ℕ} → l ≡ row_line sheet a b c row → l ≡ line_of o a b c sorts terms inputs
  unfolding line_of
  line_some e row is sheet sheet_is l-is = l-is ∙ rw (ne_eqb o.number 0 e, sheet_is, is)
