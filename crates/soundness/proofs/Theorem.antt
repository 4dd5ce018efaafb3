-- Demand 3: the claim holds of every call, whatever its sheets hold and whoever wrote the log.
use mathlib.Core.Path.{◌≡◌, refl}
use mathlib.Core.Logic.{inl}
use mathlib.Core.Bool.{true}
use mathlib.Core.List.Memᴰ
use mathlib.Core.List.{List}
use Prim.Native.Nat.{ℕ, zero, suc, ◌≤◌}
use native.Mathlib.Omega.{arith}
use Rattle.calculus.specs.Sheets.{Call, input_rows, step_rows, length_refusal}
use Rattle.calculus.specs.Sorts.{sorts_refusal}
use Rattle.calculus.specs.Terms.{terms_refusal}
use Rattle.calculus.specs.Inputs.{given, input_term, input_value, input_trail}
use Rattle.calculus.specs.Steps.{State, trail_of, conflict_of, in_conflict, Answer, allowed, refuted, refused, step_at, step}
use Rattle.calculus.specs.Place.{place_of}
use Rattle.calculus.specs.Run.{Ending, follow, run, sheets_refusal, call_refusal, start, ending_of, ending, verdict_number, outcome}
use Rattle.calculus.specs.WellFormed.{Coherent}
use Rattle.calculus.proofs.Facts.{true_or_false, or_else_ok}
use Rattle.calculus.proofs.Truths.{step_coherent, start_coherent}
use Rattle.soundness.specs.Interpretation.{Unsatisfiable}
use Rattle.soundness.specs.Claim.{Given, Sound}
use Rattle.calculus.proofs.WellSorted.{WellSorted, well_sorted}
use Rattle.soundness.proofs.Invariant.{AllValid, Unendorsed, push_valid}
use Rattle.soundness.proofs.Steps.{Good, GoodAnswer, good_search, step_good}

-- what is to be shown of a run's end
record SoundEnding (ss ts is : List ℕ) (e : Ending) : Type 1 where
  refutation : verdict_number e.verdict ≡ 1 → Unsatisfiable ss ts (Given is)
  entries : AllValid ss ts (Given is) (trail_of e.state)
  conflicts : in_conflict e.state ≡ true → Unendorsed ss ts (Given is) (trail_of e.state) (conflict_of e.state)

-- ---- the input

input_valid : (ss ts is : List ℕ) (n : ℕ) → n ≤ input_rows is → AllValid ss ts (Given is) (input_trail is n)
unfolding input_trail Given
input_valid ss ts is zero l = λ e m. absurd (Memᴰ.not-nil m)
input_valid ss ts is (suc n) l =
    let t = input_term is n in
    let v = input_value is n in
    let g : Given is t v = (n, omega arith, refl, refl) in
    push_valid ss ts (Given is) (given t v) (input_trail is n) (input_valid ss ts is n (omega arith))
    (record {
      given = λ d z. g;
      entailed = λ d z M N. N.props t v (inl g) z;
      base = λ q z M N. N.props t v g z;
    })

-- ---- the run

module _ {ss ts : List ℕ} (W : WellSorted ss ts) (is log : List ℕ) where
  run_sound : (s : State) (n k : ℕ) → Coherent ts s → Good W (Given is) s → SoundEnding ss ts is (run ts log s n k)
  unfolding run follow
  run_sound s n zero r g = record { refutation = λ h. absurd (omega arith); entries = g.entries; conflicts = g.conflicting }
  run_sound s n (suc k) r g =
      go (λ s' q c. run_sound s' (suc n) k q c) (step ts s (step_at log n)) refl (step_good W (Given is) s (step_at log n) r g)
    where
      go : ((s' : State) → Coherent ts s' → Good W (Given is) s' → SoundEnding ss ts is (run ts log s' (suc n) k))
          → (a : Answer) → step ts s (step_at log n) ≡ a → GoodAnswer W (Given is) a
          → SoundEnding ss ts is (follow (λ s'. run ts log s' (suc n) k) (place_of ts (trail_of s) (step_at log n)) s n a)
      go f (allowed s') e c = f s' (step_coherent ts s s' (step_at log n) r e) c
      go f refuted e c = record { refutation = λ _. c; entries = g.entries; conflicts = g.conflicting }
      go f (refused q) e c = record { refutation = λ h. absurd (omega arith); entries = g.entries; conflicts = g.conflicting }

-- ---- the call

ending_sound : (x : Call) → SoundEnding x.sorts x.terms x.inputs (ending x)
unfolding ending ending_of call_refusal sheets_refusal
ending_sound x = go (call_refusal x) refl
  where
    go : (c : ℕ) → call_refusal x ≡ c → SoundEnding x.sorts x.terms x.inputs (ending_of c x)
    go zero e =
        let a = or_else_ok (length_refusal x) _ e in
        let b = or_else_ok (sorts_refusal x.sorts) _ a.1 in
        let c = or_else_ok (terms_refusal x.sorts x.terms) _ b.1 in
        let W = well_sorted x.sorts x.terms c.0 in
        run_sound W x.inputs x.steps (start x) 0 (step_rows x.steps)
        (start_coherent x.terms x.inputs c.1)
        (good_search W (Given x.inputs) (input_valid x.sorts x.terms x.inputs (input_rows x.inputs) (omega arith)))
    go (suc c) e =
        record {
          refutation = λ h. absurd (omega arith);
          entries = λ y m. absurd (Memᴰ.not-nil m);
          conflicts = λ h. absurd (true_or_false h refl);
        }

pub sound : (x : Call) → Sound x
unfolding outcome
sound x =
    let s = ending_sound x in
    record {
      refutation = s.refutation;
      entries = λ e m. (s.entries e m).entailed;
      settled = λ e m. (s.entries e m).base;
      conflicts = s.conflicts;
    }
