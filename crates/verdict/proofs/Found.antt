-- The row at fault is there.
use Prim.Native.Nat.{ℕ, zero, suc, ◌+◌, ◌*◌, ◌/◌, ◌%◌, ◌≤◌, ◌<◌}
use mathlib.Core.Path.{◌≡◌, refl, sym, ◌∙◌}
use mathlib.Core.Bool.{Bool, true, false, true≢false}
use mathlib.Core.List.{List, []}
use native.Mathlib.Omega.{arith}
use borrow.Author.Tests.{eq-eqb, ne_eqb, le-leb}
use lib.ListN.{length, length-replicate}
use lib.Seq.{take_all}
use Rattle.calculus.specs.declared.Outcome.{Outcome}
use Rattle.calculus.specs.Numbers.{unless, or_else, first_refusal}
use Rattle.calculus.specs.Sheets.{work_words, trail_numbers, length_refusal}
use Rattle.calculus.specs.Sorts.{sort_refusal, sorts_refusal}
use Rattle.calculus.specs.Terms.{term_refusal, terms_refusal}
use Rattle.calculus.specs.Inputs.{input_refusal, inputs_refusal}
use Rattle.calculus.specs.Run.{sheets_refusal, call_refusal, ending_of, ending, outcome}
use Rattle.calculus.proofs.Blame.{blame, log_from_9}
use Rattle.text_fields.specs.Split.{pick}
use Rattle.text_rows.specs.Rows.{Kept}
use Rattle.text_lines.specs.declared.Sheet.{Sheet}
use Rattle.text_lines.specs.declared.Sheet.TheVariants.{Sorts, Terms, Inputs}
use Rattle.reader.specs.Text.{State, text_state}
use Rattle.reader.specs.Places.{rows_in}
use Rattle.reader.proofs.Sizes.{sized_sorts, sized_terms, sized_inputs, sized_steps}
use Rattle.reader.proofs.Final.{text_sized}
use Rattle.reader.proofs.Ceilings.{texts_within}
use Rattle.verdict.specs.Verdict.{call_with, call_from}
use Rattle.verdict.specs.Fault.{sheet_of, cut_call, cut_refused, first_refused, refused_row, row_in, FaultsAreRows}
use Rattle.verdict.proofs.Cuts.{sheet_sorts, sheet_terms, sheet_inputs, sheet_steps}

-- ---- lengths

-- sheets of whole rows within a text's ceilings have no trouble with their lengths
lengths_pass : (a b c d : List ℕ) (i j k l : ℕ) → length a ≡ i * 2 → i ≤ 32 → length b ≡ j * 6 → j ≤ 256 → length c ≡ k * 2 → k ≤ 256
    → length d ≡ l * 9 → l ≤ 1024 → length_refusal (call_with a b c d) ≡ 0
unfolding length_refusal unless
lengths_pass a b c d i j k l la hi lb hj lc hk ld hl =
    let work = length-replicate {A = ℕ} 2060 0 in
    let trail = length-replicate {A = ℕ} 1024 0 in
    rw (
      eq-eqb (length a % 2) 0 (omega (arith, la)),
      eq-eqb (length b % 6) 0 (omega (arith, lb)),
      eq-eqb (length c % 2) 0 (omega (arith, lc)),
      eq-eqb (length d % 9) 0 (omega (arith, ld)),
      le-leb (length a / 2) 32 (omega (arith, la)),
      le-leb (length b / 6) 256 (omega (arith, lb)),
      le-leb (length c / 2) 256 (omega (arith, lc)),
      le-leb (length d / 9) 65535 (omega (arith, ld)),
      work,
      trail,
      le-leb (work_words (length b / 6)) 2060 (omega (arith, lb)),
      le-leb (trail_numbers (length b / 6)) 1024 (omega (arith, lb)),
    )

-- ---- the search

-- where the cut behind all rows is refused, a row is found
found : (bad : ℕ → Bool) (n k : ℕ) → bad (k + suc n) ≡ true → first_refused bad k (suc n) < k + suc n
found bad zero k e = go (bad (k + 1)) refl where
  go : (b : Bool) → bad (k + 1) ≡ b → pick b k (k + 1) < k + 1
  go true f = omega arith
  go false f = absurd (true≢false (sym e ∙ f))
found bad (suc n) k e = go (found bad n (k + 1)) (bad (k + 1)) where
  sum : k + suc (suc n) ≡ k + 1 + suc n
  sum = omega arith

  go : (bad (k + 1 + suc n) ≡ true → first_refused bad (k + 1) (suc n) < k + 1 + suc n) → (b : Bool)
      → pick b k (first_refused bad (k + 1) (suc n)) < k + suc (suc n)
  go ih true = omega arith
  go ih false = omega (arith, ih (rw sum at e))

module _ (sheet : Sheet) (a b c : List ℕ) where
  -- a cut that gets a number is refused
  is_cut : (k n : ℕ) → (outcome (cut_call sheet k a b c)).number ≡ suc n → cut_refused sheet a b c k ≡ true
  unfolding cut_refused
  is_cut k n e = rw (ne_eqb (outcome (cut_call sheet k a b c)).number 0 (λ z. absurd (omega (arith, e, z))))

  row_found : (rows : ℕ) → 0 < rows → cut_refused sheet a b c rows ≡ true → refused_row sheet rows a b c < rows
  unfolding refused_row
  row_found zero h e = absurd (omega arith)
  row_found (suc n) h e =
      let sum : 0 + suc n ≡ suc n = omega arith in
      rw sum at (found (cut_refused sheet a b c) n 0 (rw sum e))

-- ---- the call

module _ (a b c d : List ℕ) (lengths : length_refusal (call_with a b c d) ≡ 0) where
  sorts_refused : (n : ℕ) → sorts_refusal a ≡ suc n → (outcome (call_with a b c d)).number ≡ suc n
  unfolding outcome ending ending_of call_refusal sheets_refusal or_else
  sorts_refused n e = rw (lengths, e)

  module _ (sorts : sorts_refusal a ≡ 0) where
    terms_refused : (n : ℕ) → terms_refusal a b ≡ suc n → (outcome (call_with a b c d)).number ≡ suc n
    unfolding outcome ending ending_of call_refusal sheets_refusal or_else
    terms_refused n e = rw (lengths, sorts, e)

    module _ (terms : terms_refusal a b ≡ 0) where
      inputs_refused : (n : ℕ) → inputs_refusal b c ≡ suc n → (outcome (call_with a b c d)).number ≡ suc n
      unfolding outcome ending ending_of call_refusal sheets_refusal or_else
      inputs_refused n e = rw (lengths, sorts, terms, e)

      not_refused : inputs_refusal b c ≡ 0 → call_refusal (call_with a b c d) ≡ 0
      unfolding call_refusal sheets_refusal or_else
      not_refused e = rw (lengths, sorts, terms, e)

-- a sheet that gets a number has a row
some_row : (rows : ℕ) (f : ℕ → ℕ) (n : ℕ) → first_refusal rows f ≡ suc n → 0 < rows
unfolding first_refusal
some_row zero f n e = absurd (omega (arith, e))
some_row (suc k) f n e = omega arith

-- a sheet that gets a number has a row
sorts_some : (ss : List ℕ) (n : ℕ) → sorts_refusal ss ≡ suc n → 0 < length ss / 2
unfolding sorts_refusal
sorts_some ss n e = some_row (length ss / 2) (sort_refusal ss) n e

terms_some : (ss ts : List ℕ) (n : ℕ) → terms_refusal ss ts ≡ suc n → 0 < length ts / 6
unfolding terms_refusal
terms_some ss ts n e = some_row (length ts / 6) (term_refusal ss ts) n e

inputs_some : (ts is : List ℕ) (n : ℕ) → inputs_refusal ts is ≡ suc n → 0 < length is / 2
unfolding inputs_refusal
inputs_some ts is n e = some_row (length is / 2) (input_refusal ts is) n e

-- ---- a text

module _ (bs : List ℕ) where
  abbrev s : State
  s = text_state bs

  abbrev k : Kept
  k = s.control.kept

  abbrev o : Outcome
  o = outcome (call_from s)

  abbrev Found : Type 0
  Found =
      row_in (sheet_of o.number) o (length k.sorts) (length k.terms) k.inputs s.sorts s.terms s.inputs
      < rows_in (sheet_of o.number) k

  sorts_are : length s.sorts ≡ length k.sorts * 2
  sorts_are = sized_sorts s (text_sized bs)

  terms_are : length s.terms ≡ length k.terms * 6
  terms_are = sized_terms s (text_sized bs)

  inputs_are : length s.inputs ≡ k.inputs * 2
  inputs_are = sized_inputs s (text_sized bs)

  steps_are : length s.steps ≡ k.steps * 9
  steps_are = sized_steps s (text_sized bs)

  -- the sheets cut behind so many of them pass their lengths
  pass : (b c d : List ℕ) (j m n : ℕ) → length b ≡ j * 6 → j ≤ 256 → length c ≡ m * 2 → m ≤ 256 → length d ≡ n * 9 → n ≤ 1024
      → length_refusal (call_with s.sorts b c d) ≡ 0
  pass b c d j m n lb hj lc hm ld hn =
      lengths_pass s.sorts b c d (length k.sorts) j m n sorts_are (texts_within bs).0 lb hj lc hm ld hn

  lengths : length_refusal (call_from s) ≡ 0
  lengths =
      let w = texts_within bs in
      pass s.terms s.inputs s.steps (length k.terms) k.inputs k.steps terms_are w.1 inputs_are w.2 steps_are w.3

  in_sorts : (n : ℕ) → sorts_refusal s.sorts ≡ suc n → Found
  in_sorts n e =
      let number = sorts_refused s.sorts s.terms s.inputs s.steps lengths n e in
      let range = (blame (call_from s)).sorts (λ z. absurd (omega (arith, e, z))) in
      let sheet = sym (sheet_sorts o.number (omega (arith, number, e, range.1))) in
      let whole = take_all (length k.sorts * 2) s.sorts (omega (arith, sorts_are)) in
      let short = pass [] [] [] 0 0 0 refl (omega arith) refl (omega arith) refl (omega arith) in
      let cut : (outcome (cut_call Sorts (length k.sorts) s.sorts s.terms s.inputs)).number ≡ suc n =
      rw whole (sorts_refused s.sorts [] [] [] short n e) in
      let some = sorts_some s.sorts n e in
      rw sheet (row_found Sorts s.sorts s.terms s.inputs (length k.sorts) (omega (arith, some, sorts_are))
      (is_cut Sorts s.sorts s.terms s.inputs (length k.sorts) n cut))

  module _ (sorts : sorts_refusal s.sorts ≡ 0) where
    in_terms : (n : ℕ) → terms_refusal s.sorts s.terms ≡ suc n → Found
    in_terms n e =
        let number = terms_refused s.sorts s.terms s.inputs s.steps lengths sorts n e in
        let range = (blame (call_from s)).terms (λ z. absurd (omega (arith, e, z))) in
        let sheet = sym (sheet_terms o.number (omega (arith, number, e, range.0)) (omega (arith, number, e, range.1))) in
        let whole = take_all (length k.terms * 6) s.terms (omega (arith, terms_are)) in
        let short = pass s.terms [] [] (length k.terms) 0 0 terms_are (texts_within bs).1 refl (omega arith) refl (omega arith) in
        let cut : (outcome (cut_call Terms (length k.terms) s.sorts s.terms s.inputs)).number ≡ suc n =
        rw whole (terms_refused s.sorts s.terms [] [] short sorts n e) in
        let some = terms_some s.sorts s.terms n e in
        rw sheet (row_found Terms s.sorts s.terms s.inputs (length k.terms) (omega (arith, some, terms_are))
        (is_cut Terms s.sorts s.terms s.inputs (length k.terms) n cut))

    module _ (terms : terms_refusal s.sorts s.terms ≡ 0) where
      in_inputs : (n : ℕ) → inputs_refusal s.terms s.inputs ≡ suc n → Found
      in_inputs n e =
          let number = inputs_refused s.sorts s.terms s.inputs s.steps lengths sorts terms n e in
          let range = (blame (call_from s)).inputs (λ z. absurd (omega (arith, e, z))) in
          let sheet = sym (sheet_inputs o.number (omega (arith, number, e, range.0)) (omega (arith, number, e, range.0))
          (omega (arith, number, e, range.1))) in
          let whole = take_all (k.inputs * 2) s.inputs (omega (arith, inputs_are)) in
          let w = texts_within bs in
          let short = pass s.terms s.inputs [] (length k.terms) k.inputs 0 terms_are w.1 inputs_are w.2 refl (omega arith) in
          let cut : (outcome (cut_call Inputs k.inputs s.sorts s.terms s.inputs)).number ≡ suc n =
          rw whole (inputs_refused s.sorts s.terms s.inputs [] short sorts terms n e) in
          let some = inputs_some s.terms s.inputs n e in
          rw sheet (row_found Inputs s.sorts s.terms s.inputs k.inputs (omega (arith, some, inputs_are))
          (is_cut Inputs s.sorts s.terms s.inputs k.inputs n cut))

      in_steps : inputs_refusal s.terms s.inputs ≡ 0 → (o.number ≡ 0 → ⊥) → Found
      in_steps e bad =
          let ok = not_refused s.sorts s.terms s.inputs s.steps lengths sorts terms e in
          let at = (blame (call_from s)).row ok bad in
          let l = log_from_9 (call_from s) ok bad in
          let sheet = sym (sheet_steps o.number (omega (arith, l)) (omega (arith, l)) l) in
          rw sheet (omega (arith, at, steps_are))

pub faults_are_rows : FaultsAreRows
faults_are_rows bs bad = one (sorts_refusal (text_state bs).sorts) refl where
  three : sorts_refusal (text_state bs).sorts ≡ 0 → terms_refusal (text_state bs).sorts (text_state bs).terms ≡ 0
      → (n : ℕ) → inputs_refusal (text_state bs).terms (text_state bs).inputs ≡ n → Found bs
  three e f zero g = in_steps bs e f g bad
  three e f (suc n) g = in_inputs bs e f n g

  two : sorts_refusal (text_state bs).sorts ≡ 0 → (n : ℕ) → terms_refusal (text_state bs).sorts (text_state bs).terms ≡ n → Found bs
  two e zero f = three e f (inputs_refusal (text_state bs).terms (text_state bs).inputs) refl
  two e (suc n) f = in_terms bs e n f

  one : (n : ℕ) → sorts_refusal (text_state bs).sorts ≡ n → Found bs
  one zero e = two e (terms_refusal (text_state bs).sorts (text_state bs).terms) refl
  one (suc n) e = in_sorts bs n e
