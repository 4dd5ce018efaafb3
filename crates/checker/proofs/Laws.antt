-- The call's number, its ending and its buffers.
use mathlib.Core.Path.{◌≡◌, refl, sym, ap, subst, ◌∙◌}
use mathlib.Core.Bool.{false}
use mathlib.Core.List.{List}
use Prim.Native.Nat.{ℕ, zero, suc, ◌≤◌}
use native.Mathlib.Omega.{arith}
use lib.ListN.{length, replicate}
use lib.Dec.{eqb-suc-zero}
use Rattle.calculus.specs.declared.Outcome.{Outcome}
use Rattle.calculus.specs.Numbers.{or_else, number_at, place_at}
use Rattle.calculus.specs.Sheets.{Call, term_rows, input_rows, step_rows, length_refusal}
use Rattle.calculus.specs.Sorts.{sorts_refusal}
use Rattle.calculus.specs.Terms.{terms_refusal}
use Rattle.calculus.specs.Trail.{top_level, trail_numbers_of}
use Rattle.calculus.specs.Inputs.{input_trail, input_refusal, inputs_refusal}
use Rattle.calculus.specs.Steps.{State, searching, trail_of}
use Rattle.calculus.specs.Run.{Ending, run, sheets_refusal, call_refusal, start, turned_away, ending_of, ending, verdict_number, outcome_of, outcome, written, trail_after, work_after}
use Rattle.calculus.specs.WellFormed.{WellFormed, WellFormedState}
use Rattle.calculus.proofs.Facts.{first_ok}
use Rattle.calculus.proofs.WellFormed.{input_well_formed, top_length}
use Rattle.trail.specs.Words.{trail_in}
use Rattle.calculus.proofs.Trails.{room}
use Rattle.trail.proofs.Laws.{trail_length}
use Rattle.moves.specs.Post.{Stands}
use Rattle.state.specs.declared.Status.{Status}
use Rattle.state.specs.States.{state_in, PropEquations, Standing}
use Rattle.state.proofs.States.{in_search, trail_there, trail_well_formed}
use Rattle.run.specs.declared.Ended.{Ended}
use Rattle.run.specs.Ends.{Ends}

-- ---- numbers

first_two : (a b c : ℕ) → or_else (or_else a b) c ≡ or_else a (or_else b c)
unfolding or_else
first_two zero b c = refl
first_two (suc a) b c = refl

or_first : (a b c : ℕ) → a ≡ c → (c ≡ 0 → ⊥) → or_else a b ≡ c
unfolding or_else
or_first zero b c e h = absurd (h (sym e))
or_first (suc a) b c e h = e

or_second : (a b : ℕ) → a ≡ 0 → or_else a b ≡ b
unfolding or_else
or_second a b e = rw e

module _ (x : Call) where
  abbrev sheets : ℕ
  sheets = or_else (sorts_refusal x.sorts) (terms_refusal x.sorts x.terms)

  abbrev input : ℕ
  input = inputs_refusal x.terms x.inputs

  pub lengths_refusal : (c : ℕ) → length_refusal x ≡ c → (c ≡ 0 → ⊥) → call_refusal x ≡ c
  unfolding call_refusal
  lengths_refusal c e h = or_first (length_refusal x) _ c e h

  -- where the lengths are no trouble: sort and term rows, then the input
  past_lengths : length_refusal x ≡ 0 → call_refusal x ≡ or_else sheets input
  unfolding call_refusal sheets_refusal
  past_lengths z = or_second (length_refusal x) _ z ∙ sym (first_two (sorts_refusal x.sorts) (terms_refusal x.sorts x.terms) input)

  pub sheets_refusal_lem : (c : ℕ) → length_refusal x ≡ 0 → sheets ≡ c → (c ≡ 0 → ⊥) → call_refusal x ≡ c
  sheets_refusal_lem c z e h = past_lengths z ∙ or_first sheets input c e h

  pub input_refusal_lem : (c : ℕ) → length_refusal x ≡ 0 → sheets ≡ 0 → input ≡ c → call_refusal x ≡ c
  input_refusal_lem c z s e = past_lengths z ∙ or_second sheets input s ∙ e

  -- ---- the ending

  pub away_outcome : (c : ℕ) → call_refusal x ≡ c → (c ≡ 0 → ⊥) → outcome_of (turned_away c) ≡ outcome x
  unfolding outcome ending ending_of
  away_outcome zero e h = absurd (h refl)
  away_outcome (suc c) e h = sym (ap (λ m. outcome_of (ending_of m x)) e)

  pub away_trail : (c : ℕ) → call_refusal x ≡ c → (c ≡ 0 → ⊥) → x.trail ≡ trail_after x
  unfolding trail_after ending ending_of trail_numbers_of
  away_trail zero e h = absurd (h refl)
  away_trail (suc c) e h = sym (ap (λ m. written (trail_numbers_of (trail_of (ending_of m x).state)) x.trail) e)

  pub run_ending : call_refusal x ≡ 0 → ending x ≡ run x.terms x.steps (start x) 0 (step_rows x.steps)
  unfolding ending ending_of
  run_ending e = ap (λ m. ending_of m x) e

  pub work_kept : (c : ℕ) → length_refusal x ≡ c → (c ≡ 0 → ⊥) → x.work ≡ work_after x
  unfolding work_after
  work_kept zero e h = absurd (h refl)
  work_kept (suc c) e h = rw (e, eqb-suc-zero)

  pub work_cleared : {ws : List ℕ} (k : ℕ) → length_refusal x ≡ 0 → ws ≡ replicate k 0 → k ≡ length x.work → ws ≡ work_after x
  unfolding work_after
  work_cleared k z e q = e ∙ ap (λ j. replicate j 0) q ∙ rw z

-- ---- a run from the input's trail is the call's

pub ran_outcome : (x : Call) (s : State) → call_refusal x ≡ 0 → s ≡ start x → outcome_of (run x.terms x.steps s 0 (step_rows x.steps)) ≡ outcome x
unfolding outcome
ran_outcome x s z e = ap (λ t. outcome_of (run x.terms x.steps t 0 (step_rows x.steps))) e ∙ sym (ap outcome_of (run_ending x z))

pub ran_trail : (x : Call) (s : State) → call_refusal x ≡ 0 → s ≡ start x
    → written (trail_numbers_of (trail_of (run x.terms x.steps s 0 (step_rows x.steps)).state)) x.trail ≡ trail_after x
unfolding trail_after
ran_trail x s z e =
    ap (λ t. written (trail_numbers_of (trail_of (run x.terms x.steps t 0 (step_rows x.steps)).state)) x.trail) e
    ∙ sym (ap (λ (y : Ending). written (trail_numbers_of (trail_of y.state)) x.trail) (run_ending x z))

-- ---- where the run starts

pub input_standing : (w n : ℕ) (ts is ws : List ℕ) → n ≡ term_rows ts → PropEquations ts → inputs_refusal ts is ≡ 0
    → Stands w n ws (input_rows is) 0 (input_trail is (input_rows is))
    → Standing w n ts ws (record { count = input_rows is; top = record { 0 = 0 }; conflict = false })
unfolding WellFormedState inputs_refusal
input_standing w n ts is ws e h z s =
    let r : WellFormed (term_rows ts) (input_trail is (input_rows is)) =
    input_well_formed ts is (input_rows is) (λ k l. first_ok (input_rows is) (input_refusal ts is) k z l) in
    record {
      held = record { rows = e; laid = s.laid; top = s.greatest ∙ ap top_level (sym s.trail) };
      well_formed =
          subst (WellFormedState n) (sym (in_search w n ws (record { count = input_rows is; top = record { 0 = 0 }; conflict = false }) refl))
          (subst (WellFormed n) (sym s.trail) (subst (λ m. WellFormed m (input_trail is (input_rows is))) (sym e) r));
      equations = h;
    }

-- the input's trail in the words is the state that the definition starts in
pub input_start : (w n : ℕ) (is ws : List ℕ) → trail_in w n ws (input_rows is) ≡ input_trail is (input_rows is)
    → state_in w n ws (record { count = input_rows is; top = record { 0 = 0 }; conflict = false }) ≡ searching (input_trail is (input_rows is))
input_start w n is ws e = in_search w n ws _ refl ∙ ap searching e

-- ---- what the caller sees

pub standing_small : (w n : ℕ) (ts ws : List ℕ) (st : Status) → Standing w n ts ws st → (st.count ≤ n) × (top_level (trail_in w n ws st.count) ≤ n)
standing_small w n ts ws st s =
    let d = s.held.laid in
    let a = top_length (trail_in w n ws st.count) (trail_well_formed w n ws st s.well_formed) in
    let b = room n (trail_in w n ws st.count) d.distinct d.below in
    let c = trail_length w n ws st.count in
    (omega arith, omega arith)

module _ (w n : ℕ) (ts ws : List ℕ) (e : Ending) (r : Ended) (h : Ends w n ts ws e r) where
  -- the trail that is left
  pub left : trail_in w n ws r.status.count ≡ trail_of e.state
  left = sym (trail_there w n ws r.status) ∙ ap trail_of h.state

  pub left_written : {buffer : List ℕ} (trail : List ℕ) → buffer ≡ written (trail_numbers_of (trail_in w n ws r.status.count)) trail
      → buffer ≡ written (trail_numbers_of (trail_of e.state)) trail
  left_written trail q = rw (← left) q

  pub seen : (v m p : ℕ) → v ≡ verdict_number r.verdict → m ≡ number_at r.refusal → p ≡ place_at r.refusal
      → ◌≡◌ {A = Outcome} (record { verdict = v; steps = r.steps; number = m; entries = r.status.count; place = p }) (outcome_of e)
  seen v m p a b d i =
      record {
        verdict = (a ∙ ap verdict_number h.verdict) i;
        steps = h.steps i;
        number = (b ∙ h.number) i;
        entries = (sym (trail_length w n ws r.status.count) ∙ ap length left) i;
        place = (d ∙ h.place) i;
      }
