-- What a rule answers, what it is asked of, the level of a clash, and what the tests that are passed say.
use mathlib.Core.Path.{◌≡◌, refl, ◌∙◌}
use mathlib.Core.Bool.{Bool, true, false}
use mathlib.Core.List.{List, [], ◌∷◌}
use mathlib.Core.Logic.{◌⊎◌, inl, inr}
use Prim.Native.Nat.{ℕ, max, ◌<◌}
use native.Mathlib.Omega.{arith}
use lib.Dec.{T, ltb, lt→ltb}
use Rattle.std.specs.Prelude.{Result, Ok, Err}
use Rattle.calculus.specs.declared.Kind.{Kind}
use Rattle.calculus.specs.declared.Rule.{Rule}
use Rattle.calculus.specs.declared.Step.{Step}
use Rattle.calculus.specs.Steps as calculus
use Rattle.calculus.specs.Lists.{all, has}
use Rattle.calculus.specs.declared.Refusal.{Refusal}
use Rattle.calculus.specs.declared.Refusal.TheVariants.{Unfit}
use Rattle.calculus.specs.Numbers.{unless, number, fit_of}
use Rattle.calculus.specs.Sheets.{term_rows}
use Rattle.calculus.specs.Trail.{Trail, on, level_at, level_of, premises_at}
use Rattle.calculus.specs.Rules.{fits, rule_of}
use Rattle.calculus.specs.Steps.{premises, clash_set, decide_refusal, inference_refusal, deduce_refusal, contradiction_refusal}
use Rattle.calculus.specs.Place.{unfit_place, place_of}
use Rattle.calculus.specs.WellFormed.{Below, Within}
use Rattle.calculus.proofs.Facts.{both_true, and_both, unless_ok, T_false}
use Rattle.calculus.proofs.Trails.{on_below, room_more}
use Rattle.calculus.proofs.WellFormed.{level_more, top_length, inference_ok, contradiction_ok}
use Rattle.completions.specs.Search.{is_row}
use Rattle.rule_claims.specs.declared.Claim.{Claim}
use Rattle.rule_claims.specs.Claims.{premises_of}
use Rattle.trail.specs.Words.{trail_in}
use Rattle.trail.proofs.Laws.{trail_length}
use Rattle.state.specs.declared.Status.{Status}
use Rattle.state.proofs.States.{trail_well_formed, some_number, refused_with}
use Rattle.places.specs.Tested.{Tested}
use Rattle.premises.specs.Columns.{Premised, Claims}
use Rattle.search_steps.specs.Searches.{Searching, Inferred, Inference, Passed}

-- ---- the rule

pub fits_true : {b : Bool} (c : ℕ) → fit_of b c ≡ Ok tt → b ≡ true
fits_true {b = true} c e = refl
fits_true {b = false} c e = let z : ◌≡◌ {A = ℕ} 0 1 = cc in absurd (omega arith)

pub fits_false : {b : Bool} (c d : ℕ) → fit_of b c ≡ Err (Unfit d) → (b ≡ false) × (d ≡ c)
fits_false {b = true} c d e = let z : ◌≡◌ {A = ℕ} 0 1 = cc in absurd (omega arith)
fits_false {b = false} c d e = (refl, cc)

module _ (ts : List ℕ) (tr : Trail) (x : Step) where
  -- the column at which a row goes wrong that its rule does not allow
  abbrev pub unfit_at : ℕ
  unfit_at = unfit_place ts (rule_of x.rule) x.term x.value (premises_at tr (premises x))

  -- what the test of a row's claim answers is what the rule says of the row
  pub tested : {y : Claim} {k : Rule} {f : Result (Unit {0}) Refusal}
      → f ≡ fit_of (fits ts k y.term.0 y.value (premises_of y)) (unfit_place ts k y.term.0 y.value (premises_of y))
      → k ≡ rule_of x.rule → Claims tr x y → f ≡ fit_of (fits ts (rule_of x.rule) x.term x.value (premises_at tr (premises x))) unfit_at
  tested e q c = e ∙ rw (q, c.term, c.value, c.premises)

-- premises that stand on the trail are rows of the sheet
pub rows_on : (ts : List ℕ) (tr : Trail) (n : ℕ) → n ≡ term_rows ts → Below n tr → (ps : List ℕ) → all (on tr) ps ≡ true
    → T (all (is_row ts) (premises_at tr ps))
rows_on ts tr n e b [] h = tt
rows_on ts tr n e b (p ∷ ps) h =
    let here = both_true (on tr p) (all (on tr) ps) h in
    and_both (ltb p (term_rows ts)) _ (rw (← e) (lt→ltb p n (on_below n p tr b here.0))) (rows_on ts tr n e b ps here.1)

-- what the rule test asks
pub to_test : (w n : ℕ) (ts ws : List ℕ) (count : ℕ) (x : Step) {y : Claim} → Inferred w n ts ws count x → Premised w n ws count x
    → Claims (trail_in w n ws count) x y → Tested ts n y
to_test w n ts ws count x g p c =
    record {
      rows = g.rows;
      few = omega (arith, g.laid.wide, g.laid.narrow);
      listed = rw c.premises (rows_on ts _ n g.rows g.laid.below (premises x) p.stand);
      truth = rw c.value g.truth;
    }

-- ---- levels

-- the level of premises and term
pub clash_level_is : (w n : ℕ) (ws : List ℕ) (count : ℕ) (x : Step) → Premised w n ws count x
    → level_of (trail_in w n ws count) (clash_set x.term (premises x))
    ≡ max (level_at (trail_in w n ws count) x.term) (level_of (trail_in w n ws count) (has (premises x)))
clash_level_is w n ws count x g = level_more _ (has (premises x)) x.term g.laid.distinct

-- a level fits where a row is still off the trail
pub top_small : (w n : ℕ) (ts ws : List ℕ) (st : Status) (t : ℕ) → Searching w n ts ws st t → on (trail_in w n ws st.count) t ≡ false
    → st.top.0 < 65536
top_small w n ts ws st t g h =
    let d = g.standing.held.laid in
    let a = top_length _ (trail_well_formed w n ws st g.standing.well_formed) in
    let c = trail_length w n ws st.count in
    let b = room_more n t _ d.distinct d.below g.row h in
    omega (arith, g.standing.held.top, d.wide, d.narrow)

-- ---- what the number 0 says

-- a decision is not on the trail
pub decide_off : (ts : List ℕ) (tr : Trail) (t v : ℕ) → decide_refusal ts tr t v ≡ 0 → on tr t ≡ false
unfolding decide_refusal
decide_off ts tr t v e =
    let a = unless_ok _ 22 _ (omega arith) e in
    T_false _ (unless_ok _ 14 _ (omega arith) a.1).0

module _ (ts : List ℕ) (tr : Trail) (x : Step) (g : Passed ts tr x) where
  -- past the tests that are shared, the rest decides
  pub passed_rest : (rest : ℕ) → inference_refusal ts tr x.rule x.term x.value (premises x) rest ≡ rest
  unfolding inference_refusal unless
  passed_rest rest = grind (arith, g.passed)

  -- and the premises stand on the trail
  pub passed_on : all (on tr) (premises x) ≡ true
  unfolding inference_refusal unless
  passed_on = grind (arith, g.passed)

  -- number 16 comes before the level's
  pub contradiction_first : (r : Refusal) (level_suits : Bool) → number r ≡ contradiction_refusal ts tr x.rule x.term x.value (premises x) true
      → contradiction_refusal ts tr x.rule x.term x.value (premises x) level_suits ≡ number r
  unfolding contradiction_refusal unless
  contradiction_first r level_suits e =
      let z = some_number r in
      grind (arith, passed_rest)

  -- where it is 0, the level decides, and the term stands on the trail
  pub contradiction_level : (level_suits : Bool) → contradiction_refusal ts tr x.rule x.term x.value (premises x) true ≡ 0
      → contradiction_refusal ts tr x.rule x.term x.value (premises x) level_suits ≡ unless level_suits 26 0
  unfolding contradiction_refusal unless
  contradiction_level level_suits e = grind (arith, passed_rest)

  pub contradiction_on : contradiction_refusal ts tr x.rule x.term x.value (premises x) true ≡ 0 → on tr x.term ≡ true
  contradiction_on e = (contradiction_ok ts tr x.rule x.term x.value (premises x) true e).1

-- a level that does not suit has no place, as an allowed step has none
pub no_place : (ts : List ℕ) (tr : Trail) (x : Step) (n : ℕ) → (n ≡ 26) ⊎ (n ≡ 0) → place_of ts tr x n ≡ 0
unfolding place_of
no_place ts tr x n (inl e) = rw e
no_place ts tr x n (inr e) = rw e

-- premises and opposite of a contradiction stand on the trail, and those of a deduction
pub contradiction_stands : (ts : List ℕ) (tr : Trail) (x : Step) (level_suits : Bool)
    → contradiction_refusal ts tr x.rule x.term x.value (premises x) level_suits ≡ 0 → Within (has (premises x)) tr
contradiction_stands ts tr x level_suits e = (contradiction_ok ts tr x.rule x.term x.value (premises x) level_suits e).0

pub deduce_stands : (ts : List ℕ) (tr : Trail) (x : Step) → deduce_refusal ts tr x.rule x.term x.value (premises x) ≡ 0 → Within (has (premises x)) tr
unfolding deduce_refusal
deduce_stands ts tr x e = (inference_ok ts tr x.rule x.term x.value (premises x) _ e).0

-- a number of the tests that are shared comes before the others
inference_first : (ts : List ℕ) (tr : Trail) (x : Step) (r : Refusal) (rest : ℕ)
    → number r ≡ inference_refusal ts tr x.rule x.term x.value (premises x) 0
    → number r ≡ inference_refusal ts tr x.rule x.term x.value (premises x) rest
unfolding inference_refusal unless
inference_first ts tr x r rest e =
    let z = some_number r in
    grind arith

-- and the step is refused with it
pub infer_refused : (ts : List ℕ) (tr : Trail) (x : Step) (k : Kind) (r : Refusal) → Inference k
    → number r ≡ inference_refusal ts tr x.rule x.term x.value (premises x) 0 → calculus.step_by ts k (calculus.searching tr) x ≡ calculus.refused (number r)
unfolding calculus.step_by calculus.deduce deduce_refusal calculus.clash calculus.clash_refusal calculus.fail calculus.fail_refusal contradiction_refusal
infer_refused ts tr x k r (inl e) q = rw e (refused_with r _ _ (inference_first ts tr x r _ q))
infer_refused ts tr x k r (inr (inl e)) q = rw e (refused_with r _ _ (inference_first ts tr x r _ q))
infer_refused ts tr x k r (inr (inr e)) q = rw e (refused_with r _ _ (inference_first ts tr x r _ q))
