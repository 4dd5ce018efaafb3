-- A run, a row at a time.
use mathlib.Core.Path.{◌≡◌, refl, sym, ap, subst, ◌∙◌}
use mathlib.Core.List.{List}
use Prim.Native.Nat.{ℕ, ◌+◌, ◌-◌, ◌≤◌, ◌<◌}
use native.Mathlib.Omega.{arith}
use Rattle.calculus.specs.declared.Refusal.{Refusal}
use Rattle.calculus.specs.declared.Step.{Step}
use Rattle.calculus.specs.declared.Verdict.TheVariants.{Open, Refused}
use Rattle.calculus.specs.Sheets.{step_rows}
use Rattle.calculus.specs.Steps as calculus
use Rattle.calculus.specs.Steps.{trail_of, step_at, step}
use Rattle.calculus.specs.Place.{place_of}
use Rattle.calculus.specs.Run.{Ending, run}
use Rattle.calculus.specs.WellFormed.{WellFormedState}
use Rattle.calculus.proofs.WellFormed.{step_well_formed}
use Rattle.calculus.proofs.Running.{run_allowed, run_refuted, run_refused, run_over}
use Rattle.trail.specs.Words.{trail_in}
use Rattle.state.specs.declared.Status.{Status}
use Rattle.std.proofs.Common.{rules}
use Rattle.std.specs.Prelude.{Option, Some, None, Ok, Err}
use Rattle.calculus.specs.Numbers.{number, number_at, place_at}
use Rattle.state.specs.declared.Next.TheVariants as next
use Rattle.state.specs.declared.Next.TheVariants.{On}
use Rattle.state.specs.States.{state_in, Standing, Answer, Answers}
use Rattle.state.proofs.States.{trail_there}
use Rattle.run.specs.declared.Ended.{Ended}
use Rattle.run.specs.Ends.{onward, stopped_by, run_in, Ends}

-- a status is none, and is the status that it is
none_some : {x : Status} → ◌≡◌ {A = Option Status} None (Some x) → ⊥
none_some e = search rules

some_same : {x y : Status} → ◌≡◌ {A = Option Status} (Some x) (Some y) → x ≡ y
some_same e = search rules

module _ (w n : ℕ) (ts log : List ℕ) (e : Ending) where
  -- k rows are behind: what is ahead ends as the whole run does
  pub record Running (ws : List ℕ) (st : Status) (k : ℕ) : Type 0 where
    pub same : run ts log (state_in w n ws st) k (step_rows log - k) ≡ e
    pub standing : Standing w n ts ws st

  module _ (ws : List ℕ) (st : Status) (k : ℕ) (r : Running ws st k) where
    -- an ending in this state
    ended : (x : Ended) → x.status ≡ st
        → e ≡ record { verdict = x.verdict; steps = x.steps; number = number_at x.refusal; place = place_at x.refusal; state = state_in w n ws st }
        → Ends w n ts ws e x
    ended x q h =
        record {
          verdict = sym (ap (λ (y : Ending). y.verdict) h);
          steps = sym (ap (λ (y : Ending). y.steps) h);
          number = sym (ap (λ (y : Ending). y.number) h);
          place = sym (ap (λ (y : Ending). y.place) h);
          state = ap (state_in w n ws) q ∙ sym (ap (λ (y : Ending). y.state) h);
          standing = subst (Standing w n ts ws) (sym q) r.standing;
        }

    -- the rows run out
    pub runs_out : (m : ℕ) → m ≡ k → step_rows log ≤ k → Ends w n ts ws e (record { verdict = Open; steps = m; refusal = None; status = st })
    runs_out m i h = rw i (ended _ refl (sym r.same ∙ run_over ts log (state_in w n ws st) k (step_rows log) h))

    module _ (vs : List ℕ) (h : k < step_rows log) {x : Step} (x_is : x ≡ step_at log k) where
      abbrev before : calculus.State
      before = state_in w n ws st

      abbrev Said : Answer → Type 0
      Said a = Answers w n ts ws vs (place_of ts (trail_in w n ws st.count) x) (step ts before x) a

      -- the step of the row is the step of the log
      the_step : {a : calculus.Answer} → step ts before x ≡ a → step ts before (step_at log k) ≡ a
      the_step e = ap (step ts before) (sym x_is) ∙ e

      -- and so is its place
      the_place : (c : ℕ) → place_of ts (trail_of before) (step_at log k) c ≡ place_of ts (trail_in w n ws st.count) x c
      the_place c = rw (trail_there w n ws st, x_is)

      -- an allowed row
      pub goes_on : {o : Option Status} (next : Status) (a : Answer) → Said a → o ≡ onward a → o ≡ Some next → Running vs next (k + 1)
      unfolding Answers
      goes_on to (Err c) s p q = absurd (none_some (sym p ∙ q))
      goes_on to (Ok next.Refuted) s p q = absurd (none_some (sym p ∙ q))
      goes_on to (Ok (On b)) s p q =
          let a : Said (Ok (On to)) = subst (λ x. Said (Ok (On x))) (some_same (sym p ∙ q)) s in
          let n_is = r.standing.held.rows in
          let good = subst (λ m. WellFormedState m before) n_is r.standing.well_formed in
          let after = step_well_formed ts before (state_in w n vs to) (step_at log k) good (the_step a.0) in
          record {
            same = sym (run_allowed ts log before k (step_rows log) (state_in w n vs to) h (the_step a.0)) ∙ r.same;
            standing =
                record {
                  held = a.1;
                  well_formed = subst (λ m. WellFormedState m (state_in w n vs to)) (sym n_is) after;
                  equations = r.standing.equations;
                };
          }

      -- the words are as they were
      unmoved : vs ≡ ws → (y : Ended) → Ends w n ts ws e y → Ends w n ts vs e y
      unmoved q y z = subst (λ us. Ends w n ts us e y) (sym q) z

      -- a refutation
      refutes : Said (Ok next.Refuted) → Ends w n ts vs e (stopped_by (Ok next.Refuted) k st)
      unfolding Answers
      refutes a = unmoved a.1 _ (ended (stopped_by (Ok next.Refuted) k st) refl (sym r.same ∙ run_refuted ts log before k (step_rows log) h (the_step a.0)))

      -- a refusal
      refuses : (c : Refusal) → Said (Err c) → Ends w n ts vs e (stopped_by (Err c) k st)
      unfolding Answers
      refuses c a =
          let number_is = run_refused ts log before k (step_rows log) (number c) h (the_step a.0) in
          let placed : ℕ → Ending = λ p. record { verdict = Refused; steps = k; number = number c; place = p; state = before } in
          unmoved a.2 _ (ended (stopped_by (Err c) k st) refl (sym r.same ∙ number_is ∙ ap placed (the_place (number c) ∙ sym a.1)))

      -- any answer that lets the run not go on
      pub stops : {y : Ended} (a : Answer) → ((to : Status) → a ≡ Ok (On to) → ⊥) → Said a → y ≡ stopped_by a k st → Ends w n ts vs e y
      stops (Err c) t s q = rw q (refuses c s)
      stops (Ok next.Refuted) t s q = rw q (refutes s)
      stops (Ok (On to)) t s q = absurd (t to refl)

      -- the same, told by the status that it gives
      pub stops_none : {y : Ended} {o : Option Status} (a : Answer) → o ≡ onward a → o ≡ None → Said a → y ≡ stopped_by a k st → Ends w n ts vs e y
      stops_none a p z = stops a (λ to q. none_some (sym z ∙ p ∙ ap onward q))

-- no row is behind
pub starts : (w n : ℕ) (ts log ws : List ℕ) (st : Status) → Standing w n ts ws st → Running w n ts log (run_in w n ts log ws st) ws st 0
starts w n ts log ws st s = record { same = ap (run ts log (state_in w n ws st) 0) none; standing = s }
  where
    none : step_rows log - 0 ≡ step_rows log
    none = omega arith
