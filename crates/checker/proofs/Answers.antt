-- What a function of the call answers, from what its callees ensure: each law's conclusion is a contract, and its premises are what the
-- calls on the way gave, so that `search` finds them.
use mathlib.Core.Path.{◌≡◌, sym, ap, ◌∙◌}
use mathlib.Core.Bool.{false}
use mathlib.Core.List.{List}
use Prim.Native.Nat.{ℕ, ◌*◌, ◌≤◌}
use native.Mathlib.Omega.{arith}
use lib.ListN.{length, replicate}
use Rattle.std.specs.Prelude.{Result, Ok, Err}
use Rattle.calculus.specs.declared.Refusal.{Refusal}
use Rattle.calculus.specs.declared.Outcome.{Outcome}
use Rattle.calculus.specs.Numbers.{or_else, number}
use Rattle.calculus.specs.Sheets.{Call, term_rows, input_rows, step_rows, length_refusal}
use Rattle.calculus.specs.Sorts.{sorts_refusal}
use Rattle.calculus.specs.Terms.{terms_refusal}
use Rattle.calculus.specs.Trail.{trail_numbers_of}
use Rattle.calculus.specs.Steps.{trail_of}
use Rattle.calculus.specs.Run.{Ending, run, turned_away, outcome_of, written}
use Rattle.calculus.proofs.Facts.{or_else_ok}
use Rattle.calculus.proofs.WellSorted.{well_sorted}
use Rattle.calculus.proofs.Rows.{equation_prop}
use Rattle.term_sheet.specs.Found.{most_numbers}
use Rattle.inputs.specs.Loaded.{Loaded}
use Rattle.sheets.proofs.Lengths as lengths
use Rattle.state.specs.declared.Status.{Status}
use Rattle.std.specs.Result.{IsErrAnd}
use Rattle.state.specs.States.{state_in, Standing}
use Rattle.state.proofs.States.{some_number}
use Rattle.checker.specs.Contract.{call_of, outcome_in, Ran, Answered}
use Rattle.checker.proofs.Laws.{lengths_refusal, sheets_refusal_lem, input_refusal_lem, away_outcome, away_trail, work_kept, work_cleared, input_standing, input_start, ran_outcome, ran_trail}

module _ (sorts terms inputs steps work trail : List ℕ) where
  abbrev the_call : Call
  the_call = call_of sorts terms inputs steps work trail

  abbrev sheets : ℕ
  sheets = or_else (sorts_refusal sorts) (terms_refusal sorts terms)

  -- where the run starts: the input's entries, at level 0
  abbrev begun : Status
  begun = record { count = input_rows inputs; top = record { 0 = 0 }; conflict = false }

  fitting : length_refusal the_call ≡ 0 → lengths.Fitting the_call
  fitting z = lengths.lengths_passed the_call z

  -- ---- what the calls ask

  pub sheets_fit : length_refusal the_call ≡ 0 → (length sorts ≤ 64) × (length terms ≤ most_numbers)
  sheets_fit z = let f = fitting z in (f.sorts_low, omega (arith, f.terms_whole, f.terms_low))

  -- ---- refused: by the lengths, by the sheets, by the input

  pub lengths_away : {r : Outcome} (c : Refusal) → number c ≡ length_refusal the_call → r ≡ outcome_of (turned_away (number c)) → Answered the_call r work trail
  lengths_away c e a =
      let h : number c ≡ 0 → ⊥ = λ z. omega (arith, some_number c) in
      let n = lengths_refusal the_call (number c) (sym e) h in
      record { result = a ∙ away_outcome the_call _ n h; work = work_kept the_call _ (sym e) h; trail = away_trail the_call _ n h }

  pub sheets_away : (c : Refusal) (q : Result Outcome Refusal) → length_refusal the_call ≡ 0 → number c ≡ sheets → IsErrAnd q (λ p. p ≡ c)
      → Ran the_call (outcome_in q) trail
  sheets_away c (Ok o) z e i = absurd i
  sheets_away c (Err p) z e i =
      let h : number c ≡ 0 → ⊥ = λ z. omega (arith, some_number c) in
      let n = sheets_refusal_lem the_call (number c) z (sym e) h in
      record { result = ap (λ x. outcome_of (turned_away (number x))) i ∙ away_outcome the_call _ n h; trail = away_trail the_call _ n h }

  pub input_away : (w n : ℕ) (ws : List ℕ) (c : Refusal) (q : Result Outcome Refusal) → length_refusal the_call ≡ 0 → 0 ≡ sheets
      → Loaded w n terms inputs ws (Err c) → IsErrAnd q (λ p. p ≡ c) → Ran the_call (outcome_in q) trail
  unfolding Loaded
  input_away w n ws c (Ok o) z p e i = absurd i
  input_away w n ws c (Err d) z p e i =
      let h : number c ≡ 0 → ⊥ = λ z. omega (arith, some_number c) in
      let m = input_refusal_lem the_call (number c) z (sym p) e in
      record { result = ap (λ x. outcome_of (turned_away (number x))) i ∙ away_outcome the_call _ m h; trail = away_trail the_call _ m h }

  -- ---- the run

  pub log_fits : (w n : ℕ) (ws : List ℕ) → length_refusal the_call ≡ 0 → 0 ≡ sheets → n ≡ term_rows terms → Loaded w n terms inputs ws (Ok tt)
      → Standing w n terms ws begun × (step_rows steps ≤ 65535) × (n ≤ 65535) × (4 * n ≤ length trail)
  unfolding Loaded
  log_fits w n ws z s e l =
      let f = fitting z in
      let sorted = well_sorted sorts terms (or_else_ok _ _ (sym s)).1 in (
        input_standing w n terms inputs ws e (equation_prop sorted) l.0 l.1,
        omega (arith, f.steps_low),
        omega (arith, f.terms_low),
        omega (arith, f.trail_room),
      )

  abbrev the_run : ℕ → ℕ → List ℕ → Ending
  the_run w n ws = run terms steps (state_in w n ws begun) 0 (step_rows steps)

  pub run_answers : (w n : ℕ) (ws : List ℕ) {r : Outcome} {buffer : List ℕ} → length_refusal the_call ≡ 0 → 0 ≡ sheets → Loaded w n terms inputs ws (Ok tt)
      → (r ≡ outcome_of (the_run w n ws)) × (buffer ≡ written (trail_numbers_of (trail_of (the_run w n ws).state)) trail) → Ran the_call r buffer
  unfolding Loaded
  run_answers w n ws z e l a =
      let m = input_refusal_lem the_call 0 z (sym e) l.0 in
      let s = input_start w n inputs ws l.1.trail in
      record { result = a.0 ∙ ran_outcome the_call _ m s; trail = a.1 ∙ ran_trail the_call _ m s }

  -- the workspace cleared after the run
  pub cleared : {r o : Outcome} {buffer ws : List ℕ} (vs : List ℕ) → 0 ≡ length_refusal the_call → Ran the_call o buffer → r ≡ o
      → length vs ≡ length work → ws ≡ replicate (length vs) 0 → Answered the_call r ws buffer
  cleared vs z a e k h =
      record { result = e ∙ a.result; work = work_cleared the_call (length vs) (sym z) h k; trail = a.trail }
