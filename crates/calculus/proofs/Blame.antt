-- Each number comes from its own sheet.
use mathlib.Core.Path.{◌≡◌, refl, sym, subst}
use mathlib.Core.Bool.{Bool, true, false, ◌&&◌}
use mathlib.Core.List.{List}
use Prim.Native.Nat.{ℕ, zero, suc, ◌+◌, ◌≤◌, ◌<◌}
use native.Mathlib.Omega.{arith}
use borrow.Author.Tests.{leb-true}
use lib.Dec.{T, leb, leb→le}
use Rattle.calculus.specs.declared.Step.{Step}
use Rattle.calculus.specs.declared.Kind.{Kind}
use Rattle.calculus.specs.declared.Kind.TheVariants.{Decide, Deduce, Clash, Resolve, Clear, Jump, Flip, Fail, Learn, Unlisted}
use Rattle.calculus.specs.Lists.{all}
use Rattle.calculus.specs.Numbers.{unless, or_else, first_refusal}
use Rattle.calculus.specs.Sheets.{Call, input_rows, step_rows, term_rows, sort_rows, length_refusal}
use Rattle.calculus.specs.Sorts.{sort_refusal, sorts_refusal}
use Rattle.calculus.specs.Terms.{term_refusal, terms_refusal}
use Rattle.calculus.specs.Inputs.{input_refusal, inputs_refusal}
use Rattle.calculus.specs.Steps as Steps
use Rattle.calculus.specs.Place.{place_of}
use Rattle.calculus.specs.Steps.{State, trail_of, Answer, allowed, refuted, refused, answer, row_refusal, step, kind_of, step_by, step_at}
use Rattle.calculus.specs.Run.{Ending, follow, run, start, call_refusal, ending_of, ending, outcome}
use Rattle.calculus.specs.Blame.{own_numbers, numbers_of, Between, OfStep, NoneOr, Blame}
use Rattle.calculus.proofs.Facts.{both_true, all_at, has_at}

-- ---- numbers of a group

between : (low high n : ℕ) → (leb low n && leb n high) ≡ true → Between low high n
between low high n e = let b = both_true (leb low n) (leb n high) e in (leb-true low n b.0, leb-true n high b.1)

module _ (Group : ℕ → Type 0) where
  none : NoneOr Group 0
  none h = absurd (h refl)

  one_of : (b : Bool) {c rest : ℕ} → Group c → NoneOr Group rest → NoneOr Group (unless b c rest)
  unfolding unless
  one_of true g r = r
  one_of false g r = λ z. g

  first_of : (a b : ℕ) → NoneOr Group a → NoneOr Group b → NoneOr Group (or_else a b)
  unfolding or_else
  first_of zero b f g = g
  first_of (suc a) b f g = f

  first_row : (n : ℕ) (f : ℕ → ℕ) → ((k : ℕ) → NoneOr Group (f k)) → NoneOr Group (first_refusal n f)
  unfolding first_refusal
  first_row zero f h = none
  first_row (suc n) f h = first_of (first_refusal n f) (f n) (first_row n f h) (h n)

-- ---- the sheets

-- a test of a group of consecutive numbers
test : (low high : ℕ) (b : Bool) (c : ℕ) {rest : ℕ} → (leb low c && leb c high) ≡ true → NoneOr (Between low high) rest
    → NoneOr (Between low high) (unless b c rest)
test low high b c e r = one_of (Between low high) b (between low high c e) r

lengths_blame : (x : Call) → NoneOr (Between 30 32) (length_refusal x)
unfolding length_refusal
lengths_blame x = test 30 32 _ 31 refl (test 30 32 _ 30 refl (test 30 32 _ 32 refl (none (Between 30 32))))

sorts_blame : (ss : List ℕ) → NoneOr (Between 1 1) (sorts_refusal ss)
unfolding sorts_refusal sort_refusal
sorts_blame ss = first_row (Between 1 1) (sort_rows ss) (sort_refusal ss) (λ k. test 1 1 _ 1 refl (none (Between 1 1)))

terms_blame : (ss ts : List ℕ) → NoneOr (Between 3 5) (terms_refusal ss ts)
unfolding terms_refusal term_refusal
terms_blame ss ts =
    first_row (Between 3 5) (term_rows ts) (term_refusal ss ts) (λ k. test 3 5 _ 3 refl (test 3 5 _ 4 refl (test 3 5 _ 5 refl (none (Between 3 5)))))

inputs_blame : (ts is : List ℕ) → NoneOr (Between 6 8) (inputs_refusal ts is)
unfolding inputs_refusal input_refusal
inputs_blame ts is =
    first_row (Between 6 8) (input_rows is) (input_refusal ts is) (λ k. test 6 8 _ 6 refl (test 6 8 _ 7 refl (test 6 8 _ 8 refl (none (Between 6 8)))))

-- ---- the steps

-- what a step of a kind may be refused with
abbrev StepBlame : Kind → Answer → Type 0
StepBlame k (allowed s) = Unit {0}
StepBlame k refuted = Unit {0}
StepBlame k (refused c) = OfStep k c

module _ (k : Kind) where
  ask : (b : Bool) (c : ℕ) {rest : ℕ} → OfStep k c → NoneOr (OfStep k) rest → NoneOr (OfStep k) (unless b c rest)
  ask b c g r = one_of (OfStep k) b g r

  no_trouble : NoneOr (OfStep k) 0
  no_trouble = none (OfStep k)

  answered : (n : ℕ) (a : Answer) → NoneOr (OfStep k) n → StepBlame k a → StepBlame k (answer n a)
  unfolding answer
  answered zero a h b = b
  answered (suc c) a h b = h (λ z. absurd (omega (arith, z)))

module _ (ts : List ℕ) where
  by_blame : (k : Kind) (s : State) (x : Step) → StepBlame k (step_by ts k s x)
  unfolding step_by Steps.decide Steps.decide_refusal Steps.inference_refusal Steps.deduce Steps.deduce_refusal Steps.contradiction_refusal Steps.clash Steps.clash_refusal Steps.fail Steps.fail_refusal Steps.resolve Steps.resolve_refusal Steps.clear Steps.clear_refusal Steps.jump Steps.jump_refusal Steps.flip Steps.flip_refusal Steps.learn Steps.learn_refusal
  by_blame Decide s x = answered Decide _ _ (ask Decide _ 22 tt (ask Decide _ 14 tt (ask Decide _ 27 tt (no_trouble Decide)))) tt
  by_blame Deduce s x =
      answered Deduce _ _
      (ask Deduce _ 22 tt (ask Deduce _ 12 tt (ask Deduce _ 13 tt (ask Deduce _ 14 tt (ask Deduce _ 15 tt (no_trouble Deduce)))))) tt
  by_blame Clash s x =
      answered Clash _ _
      (ask Clash _ 22 tt (ask Clash _ 12 tt (ask Clash _ 13 tt (ask Clash _ 16 tt (ask Clash _ 26 tt (no_trouble Clash)))))) tt
  by_blame Resolve s x = answered Resolve _ _ (ask Resolve _ 17 tt (ask Resolve _ 18 tt (ask Resolve _ 19 tt (no_trouble Resolve)))) tt
  by_blame Clear s x = answered Clear _ _ (ask Clear _ 17 tt (ask Clear _ 20 tt (ask Clear _ 21 tt (no_trouble Clear)))) tt
  by_blame Jump s x = answered Jump _ _ (ask Jump _ 17 tt (ask Jump _ 22 tt (ask Jump _ 21 tt (no_trouble Jump)))) tt
  by_blame Flip s x =
      answered Flip _ _ (ask Flip _ 17 tt (ask Flip _ 22 tt (ask Flip _ 18 tt (ask Flip _ 23 tt (no_trouble Flip))))) tt
  by_blame Fail s x =
      answered Fail _ _ (ask Fail _ 22 tt (ask Fail _ 12 tt (ask Fail _ 13 tt (ask Fail _ 16 tt (ask Fail _ 26 tt (no_trouble Fail)))))) tt
  by_blame Learn s x =
      answered Learn _ _
      (ask Learn _ 17 tt (ask Learn _ 22 tt (ask Learn _ 25 tt (ask Learn _ 14 tt (ask Learn _ 21 tt (no_trouble Learn)))))) tt
  by_blame Unlisted s x = tt

  step_blame : (s : State) (x : Step) → StepBlame (kind_of x.step) (step ts s x)
  unfolding step row_refusal
  step_blame s x =
      let k = kind_of x.step in
      answered k _ _ (ask k _ 9 tt (ask k _ 10 tt (ask k _ 11 tt (no_trouble k)))) (by_blame k s x)

-- ---- the run

module _ (ts log : List ℕ) where
  -- a run's number is that of the step behind those that were allowed, and that step is one of those before the end
  abbrev EndBlame : Ending → ℕ → Type 0
  EndBlame e end = (e.number ≡ 0 → ⊥) → OfStep (kind_of (step_at log e.steps).step) e.number × (e.steps < end)

  follow_blame : (go : State → Ending) (at : ℕ → ℕ) (s : State) (n end : ℕ) (a : Answer) → StepBlame (kind_of (step_at log n).step) a → n < end
      → ((s' : State) → EndBlame (go s') end) → EndBlame (follow go at s n a) end
  unfolding follow
  follow_blame go at s n end (allowed s') h l k = k s'
  follow_blame go at s n end refuted h l k = λ z. absurd (z refl)
  follow_blame go at s n end (refused c) h l k = λ z. (h, l)

  run_blame : (s : State) (n k : ℕ) → EndBlame (run ts log s n k) (n + k)
  unfolding run
  run_blame s n zero = λ z. absurd (z refl)
  run_blame s n (suc k) =
      let e : n + suc k ≡ suc n + k = omega arith in
      follow_blame _ _ s n (n + suc k) _ (step_blame ts s (step_at log n)) (omega arith) (λ s'. rw e (run_blame s' (suc n) k))

  -- its place is that of its number in that row, at the trail that is left
  abbrev EndPlace : Ending → Type 0
  EndPlace e = e.place ≡ place_of ts (trail_of e.state) (step_at log e.steps) e.number

  follow_place : (go : State → Ending) (s : State) (n : ℕ) (a : Answer) → ((s' : State) → EndPlace (go s'))
      → EndPlace (follow go (place_of ts (trail_of s) (step_at log n)) s n a)
  unfolding follow place_of
  follow_place go s n (allowed s') k = k s'
  follow_place go s n refuted k = refl
  follow_place go s n (refused c) k = refl

  run_place : (s : State) (n k : ℕ) → EndPlace (run ts log s n k)
  unfolding run place_of
  run_place s n zero = refl
  run_place s n (suc k) = follow_place _ s n _ (λ s'. run_place s' (suc n) k)

-- ---- the call

module _ (x : Call) (ok : call_refusal x ≡ 0) where
  ended_place : EndPlace x.terms x.steps (ending x)
  unfolding ending ending_of
  ended_place = rw ok (run_place x.terms x.steps (start x) 0 (step_rows x.steps))

  ending_run : ending x ≡ run x.terms x.steps (start x) 0 (step_rows x.steps)
  unfolding ending ending_of
  ending_run = rw ok refl

  ended : EndBlame x.terms x.steps (ending x) (step_rows x.steps)
  ended =
      let e : 0 + step_rows x.steps ≡ step_rows x.steps = omega arith in
      let b = run_blame x.terms x.steps (start x) 0 (step_rows x.steps) in
      subst (λ (g : Ending). EndBlame x.terms x.steps g (step_rows x.steps)) (sym ending_run)
      (subst (EndBlame x.terms x.steps (run x.terms x.steps (start x) 0 (step_rows x.steps))) e b)

-- refused before any step
away_place : (x : Call) (c : ℕ) → call_refusal x ≡ c → (c ≡ 0 → ⊥) → (ending x).place ≡ 0
unfolding ending ending_of
away_place x zero e h = absurd (h refl)
away_place x (suc c) e h = rw e

pub blame : (x : Call) → Blame x
unfolding outcome
blame x =
    record {
      lengths = lengths_blame x;
      sorts = sorts_blame x.sorts;
      terms = terms_blame x.sorts x.terms;
      inputs = inputs_blame x.terms x.inputs;
      log = λ ok z. (ended x ok z).0;
      row = λ ok z. (ended x ok z).1;
      place = λ ok. ended_place x ok;
      nowhere = λ bad. away_place x (call_refusal x) refl bad;
    }

-- a step's number is 9 or more
from_9 : (k : Kind) (n : ℕ) → OfStep k n → 9 ≤ n
from_9 k n h = leb→le 9 n (all_at (leb 9) (numbers_of k) (least k) (has_at (numbers_of k) {x = n} h))
  where
    least : (k : Kind) → T (all (leb 9) (own_numbers k))
    least Decide = tt
    least Deduce = tt
    least Clash = tt
    least Resolve = tt
    least Clear = tt
    least Jump = tt
    least Flip = tt
    least Fail = tt
    least Learn = tt
    least Unlisted = tt

pub log_from_9 : (x : Call) → call_refusal x ≡ 0 → ((outcome x).number ≡ 0 → ⊥) → 9 ≤ (outcome x).number
log_from_9 x ok bad = from_9 (kind_of (step_at x.steps (outcome x).steps).step) (outcome x).number ((blame x).log ok bad)
