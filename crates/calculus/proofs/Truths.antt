-- On every trail that a list of steps can reach, props have truth values.
use mathlib.Core.Path.{◌≡◌, refl, sym, subst}
use mathlib.Core.Logic.{◌⊎◌, inl, inr}
use mathlib.Core.Bool.{not}
use mathlib.Core.List.Memᴰ
use mathlib.Core.List.{List, [], ◌∷◌, Memᴰ}
use Prim.Native.Nat.{ℕ, zero, suc, ◌≤◌, ◌<◌}
use native.Mathlib.Omega.{arith}
use lib.Dec.{T, eqb, leb, leb→le, T_not}
use Rattle.calculus.specs.declared.Step.{Step}
use Rattle.calculus.specs.declared.Kind.{Kind}
use Rattle.calculus.specs.declared.Kind.TheVariants.{Decide, Deduce, Clash, Resolve, Clear, Jump, Flip, Fail, Learn, Unlisted}
use Rattle.calculus.specs.Sheets.{blank, input_rows}
use Rattle.calculus.specs.Terms.{sort, prop, or_head}
use Rattle.calculus.specs.Rules.{is_head}
use Rattle.calculus.specs.Trail.{Trail, Entry, kept_to, decision}
use Rattle.calculus.specs.Inputs.{given, input_term, input_value, input_trail, value_suits, input_refusal, inputs_refusal}
use Rattle.calculus.specs.Steps.{State, searching, trail_of, Answer, allowed, refuted, refused, answer, step_at, kind_of, shaped, decide_refusal, decide, deduce, clash, fail, resolve, clear, jump, flip, learn, row_refusal, step_by, step}
use Rattle.calculus.specs.WellFormed.{WellFormedState, Truthful, Coherent}
use Rattle.calculus.specs.Place.{place_of}
use Rattle.calculus.specs.Run.{follow, run}
use Rattle.calculus.proofs.Facts.{num_le, eqb_of, and_r, or_cases, facts, unless_ok, first_ok, answer_case}
use Rattle.calculus.proofs.Entries.{kept_out}
use Rattle.calculus.proofs.WellFormed.{input_well_formed, step_well_formed}

module _ (ts : List ℕ) where
  pub value_suits_lem : (t v : ℕ) → T (value_suits ts t v) → sort ts t ≡ 0 → v ≤ 1
  value_suits_lem t v h = go (or_cases (not (prop ts t)) _ h)
    where
      go : T (not (prop ts t)) ⊎ T (leb v 1) → sort ts t ≡ 0 → v ≤ 1
      go (inl n) e = absurd (T_not (prop ts t) n (eqb_of e))
      go (inr l) e = leb→le v 1 l

  none_truthful : Truthful ts []
  none_truthful e m = absurd (Memᴰ.not-nil m)

  push_truthful : (x : Entry) (tr : Trail) → (sort ts x.term ≡ 0 → x.value ≤ 1) → Truthful ts tr → Truthful ts (x ∷ tr)
  push_truthful x tr s h e m = go (Memᴰ.cases_cons m)
    where
      go : (e ≡ x) ⊎ Memᴰ e tr → (sort ts e.term ≡ 0 → e.value ≤ 1)
      go (inl q) = subst (λ (y : Entry). sort ts y.term ≡ 0 → y.value ≤ 1) (sym q) s
      go (inr k) = h e k

  kept_truthful : (m : ℕ) (tr : Trail) → Truthful ts tr → Truthful ts (kept_to m tr)
  kept_truthful m tr h e k = h e (kept_out m tr e k).0

  -- of an answer: the state after an allowed step
  abbrev After : Answer → Type 0
  After (allowed s) = Truthful ts (trail_of s)
  After refuted = Unit {0}
  After (refused c) = Unit {0}

  after : (c : ℕ) (a : Answer) → (c ≡ 0 → After a) → After (answer c a)
  after c a f = answer_case After c a (λ k. tt) f

  inferred_value : (x : Step) → T (shaped x Deduce) → x.value ≤ 1
  unfolding shaped
  inferred_value x h = search facts

  step_by_truthful : (k : Kind) (s : State) (x : Step) → Truthful ts (trail_of s) → T (shaped x k) → After (step_by ts k s x)
  unfolding step_by decide decide_refusal deduce clash fail resolve clear jump flip learn shaped
  step_by_truthful Decide s x h p =
      after _ _ (λ e.
      push_truthful (decision (trail_of s) x.term x.value) (trail_of s)
      (value_suits_lem x.term x.value (unless_ok _ 22 _ (omega arith) e).0) h)
  step_by_truthful Deduce s x h p = after _ _ (λ e. push_truthful _ (trail_of s) (λ q. inferred_value x p) h)
  step_by_truthful Clash s x h p = after _ _ (λ e. h)
  step_by_truthful Resolve s x h p = after _ _ (λ e. h)
  step_by_truthful Clear s x h p = after _ _ (λ e. kept_truthful _ (trail_of s) h)
  step_by_truthful Jump s x h p = after _ _ (λ e. push_truthful _ _ (λ q. omega arith) (kept_truthful _ (trail_of s) h))
  step_by_truthful Flip s x h p = after _ _ (λ e. push_truthful _ _ (λ q. omega arith) (kept_truthful _ (trail_of s) h))
  step_by_truthful Fail s x h p = after _ _ (λ e. tt)
  step_by_truthful Learn s x h p =
      after _ _ (λ e. push_truthful _ _ (λ q. num_le (is_head ts x.term or_head)) (kept_truthful _ (trail_of s) h))
  step_by_truthful Unlisted s x h p = tt

  step_truthful : (s : State) (x : Step) → Truthful ts (trail_of s) → After (step ts s x)
  unfolding step row_refusal
  step_truthful s x h = after _ _ (λ e. step_by_truthful (kind_of x.step) s x h (unless_ok _ 9 _ (omega arith) e).0)

  -- an allowed step leads from a reachable state to a reachable one
  pub step_coherent : (s s' : State) (x : Step) → Coherent ts s → step ts s x ≡ allowed s' → Coherent ts s'
  step_coherent s s' x h e =
      record { well_formed = step_well_formed ts s s' x h.well_formed e; truths = subst After e (step_truthful s x h.truths) }

  pub run_coherent : (log : List ℕ) (s : State) (n k : ℕ) → Coherent ts s → Coherent ts (run ts log s n k).state
  unfolding run follow
  run_coherent log s n zero h = h
  run_coherent log s n (suc k) h = go (λ s' q. run_coherent log s' (suc n) k q) (step ts s (step_at log n)) refl
    where
      go : ((s' : State) → Coherent ts s' → Coherent ts (run ts log s' (suc n) k).state) → (a : Answer) → step ts s (step_at log n) ≡ a
          → Coherent ts (follow (λ s'. run ts log s' (suc n) k) (place_of ts (trail_of s) (step_at log n)) s n a).state
      go f (allowed s') e = f s' (step_coherent s s' (step_at log n) h e)
      go f refuted e = h
      go f (refused c) e = h

  input_truthful : (is : List ℕ) (n : ℕ) → ((k : ℕ) → k < n → input_refusal ts is k ≡ 0) → Truthful ts (input_trail is n)
  unfolding input_trail input_refusal
  input_truthful is zero h = none_truthful
  input_truthful is (suc n) h =
      let a = unless_ok _ 6 _ (omega arith) (h n (omega arith)) in
      let b = unless_ok _ 7 _ (omega arith) a.1 in
      push_truthful (given (input_term is n) (input_value is n)) (input_trail is n)
      (value_suits_lem (input_term is n) (input_value is n) (and_r (not (eqb (input_value is n) blank)) _ b.0)) (input_truthful is n (λ k l. h k (omega arith)))

  -- the input's trail is reachable where its rows get no number
  pub start_coherent : (is : List ℕ) → inputs_refusal ts is ≡ 0 → Coherent ts (searching (input_trail is (input_rows is)))
  unfolding inputs_refusal WellFormedState
  start_coherent is ok =
      let h : (k : ℕ) → k < input_rows is → input_refusal ts is k ≡ 0 = λ k l. first_ok (input_rows is) (input_refusal ts is) k ok l in
      record { well_formed = input_well_formed ts is (input_rows is) h; truths = input_truthful is (input_rows is) h }
