-- The answers of the steps of the search: what the number 0 says, and for each return a law.
use mathlib.Core.Path.{◌≡◌, refl, sym, ◌∙◌}
use mathlib.Core.Bool.{Bool, true, false}
use mathlib.Core.List.{List, ◌∷◌}
use mathlib.Core.Logic.{inl, inr}
use Prim.Native.Nat.{ℕ, ◌<◌}
use native.Mathlib.Omega.{arith}
use Rattle.std.specs.Prelude.{Result, Ok}
use Rattle.calculus.specs.declared.Kind.{Kind}
use Rattle.calculus.specs.declared.Kind.TheVariants.{Deduce, Clash, Fail}
use Rattle.calculus.specs.declared.Refusal.{Refusal}
use Rattle.calculus.specs.declared.Step.{Step}
use Rattle.calculus.specs.Lists.{all, has}
use Rattle.calculus.specs.Numbers.{number_in}
use Rattle.calculus.specs.Trail.{Trail, on, decision, justified}
use Rattle.calculus.specs.Place.{place_of}
use Rattle.calculus.specs.WellFormed.{Within}
use Rattle.calculus.specs.Steps as calculus
use Rattle.calculus.specs.Steps.{premises, clash_set, decide_refusal, inference_refusal, deduce_refusal, contradiction_refusal, clash_refusal, fail_refusal}
use Rattle.calculus.proofs.Facts.{T_false, T_true, unless_ok}
use Rattle.calculus.proofs.WellFormed.{inference_ok}
use Rattle.trail.specs.Words.{trail_in, Laid}
use Rattle.moves.specs.Post.{Stands, Conflicts}
use Rattle.state.specs.declared.Status.{Status}
use Rattle.state.specs.declared.Next.TheVariants.{On, Refuted}
use Rattle.state.specs.States.{nowhere, Answer, Answers}
use Rattle.state.proofs.States.{passed_by}
use Rattle.state.proofs.Landed.{landed, opened}
use Rattle.state.proofs.Tests.{told_yes}
use Rattle.rule_claims.specs.declared.Claim.{Claim}
use Rattle.places.specs.Tested.{Tested}
use Rattle.premises.specs.Columns.{Premised, Claims}
use Rattle.acceptance.specs.Added.{Decidable}
use Rattle.search_steps.specs.Searches.{Searching, Inferring, Inferred, Inference, Refuses}
use Rattle.search_steps.proofs.Laws as laws

-- the premises were tested
pub premised : (w n : ℕ) (ts ws : List ℕ) (count : ℕ) (x : Step) {b : Bool} → Inferred w n ts ws count x
    → b ≡ all (on (trail_in w n ws count)) (premises x) → b ≡ true → Premised w n ws count x
premised w n ts ws count x g e h = record { laid = g.laid; stand = told_yes e h }

-- what the rule test asks
pub to_test : (w n : ℕ) (ts ws : List ℕ) (count : ℕ) (x : Step) {b : Bool} {y : Claim} → Inferred w n ts ws count x
    → b ≡ all (on (trail_in w n ws count)) (premises x) → b ≡ true → Claims (trail_in w n ws count) x y → Tested ts n y
to_test w n ts ws count x g e h c = laws.to_test w n ts ws count x g (premised w n ts ws count x g e h) c

-- ---- what the number 0 says

inference_on : (ts : List ℕ) (tr : Trail) (r l v : ℕ) (ps : List ℕ) (rest : ℕ) → inference_refusal ts tr r l v ps rest ≡ 0 → all (on tr) ps ≡ true
unfolding inference_refusal
inference_on ts tr r l v ps rest e =
    let a = unless_ok _ 22 _ (omega arith) e in
    let b = unless_ok _ 12 _ (omega arith) a.1 in
    T_true _ b.0

-- premises and opposite of a contradiction stand on the trail
module _ (w n : ℕ) (ts ws : List ℕ) (count : ℕ) (x : Step) {at : ℕ → ℕ} {c : Result (Unit {0}) Refusal}
    (c_is : Refuses at (contradiction_refusal ts (trail_in w n ws count) x.rule x.term x.value (premises x) true) c) (c_no : number_in c ≡ 0) where
  none : contradiction_refusal ts (trail_in w n ws count) x.rule x.term x.value (premises x) true ≡ 0
  none = sym c_is.number ∙ c_no

  pub contradiction_premised : Laid w n ws count → Premised w n ws count x
  unfolding contradiction_refusal
  contradiction_premised l = record { laid = l; stand = inference_on ts _ x.rule x.term x.value (premises x) _ none }

-- ---- the kinds

-- of those that infer, fail alone is left
last_kind : {k : Kind} → Inference k → (k ≡ Deduce → ⊥) → (k ≡ Clash → ⊥) → k ≡ Fail
last_kind (inl e) d c = absurd (d e)
last_kind (inr (inl e)) d c = absurd (c e)
last_kind (inr (inr e)) d c = e

-- ---- the steps

module _ (w n : ℕ) (ts ws : List ℕ) (st : Status) where
  abbrev here : Trail
  here = trail_in w n ws st.count

  -- what the test of a decision asks
  pub decidable : {t : ℕ} → Searching w n ts ws st t → Decidable w n ts ws st.count t
  decidable g =
      let s = g.standing in
      record { laid = s.held.laid; rows = s.held.rows; equations = s.equations; row = g.row }

  module _ (t v : ℕ) {c : ℕ} (c_is : c ≡ decide_refusal ts here t v) where
    module _ (c_no : c ≡ 0) (g : Searching w n ts ws st t) where
      pub decide_small : st.top.0 < 65536
      decide_small = laws.top_small w n ts ws st t g (laws.decide_off ts here t v (sym c_is ∙ c_no))

      pub decide_done : (vs : List ℕ) (after : Status) → after.conflict ≡ false
          → Stands w n vs after.count after.top.0 (decision here t v ∷ here) → Answers w n ts ws vs nowhere (calculus.decide ts here t v) (Ok (On after))
      unfolding calculus.decide
      decide_done vs after e s = landed w n ts ws vs _ after e g.standing.held.rows s (passed_by _ c_is c_no)

  module _ (x : Step) where
    abbrev at : ℕ → ℕ
    at = place_of ts here x

    abbrev the_deduce : calculus.Answer
    the_deduce = calculus.deduce ts here x.rule x.term x.value (premises x)

    abbrev the_clash : calculus.Answer
    the_clash = calculus.clash ts here x.rule x.term x.value (premises x)

    abbrev the_fail : calculus.Answer
    the_fail = calculus.fail ts here x.rule x.term x.value (premises x)

    -- what the tests ask
    pub inferred : Inferring w n ts ws st x → Inferred w n ts ws st.count x
    inferred g =
        let s = g.searching in
        let h = s.standing.held in
        record { laid = h.laid; rows = h.rows; row = s.row; truth = g.truth }

    module _ {c : Result (Unit {0}) Refusal} (c_is : Refuses at (deduce_refusal ts here x.rule x.term x.value (premises x)) c) where
      module _ (c_no : number_in c ≡ 0) (g : Inferring w n ts ws st x) where
        allowed_0 : deduce_refusal ts here x.rule x.term x.value (premises x) ≡ 0
        allowed_0 = sym c_is.number ∙ c_no

        pub deduce_premised : Premised w n ws st.count x
        unfolding deduce_refusal
        deduce_premised =
            record { laid = (inferred g).laid; stand = inference_on ts here x.rule x.term x.value (premises x) _ allowed_0 }

        pub deduce_within : Within (has (premises x)) here
        deduce_within = laws.deduce_stands ts here x allowed_0

        pub deduce_off : on here x.term ≡ false
        unfolding deduce_refusal
        deduce_off =
            let a = inference_ok ts here x.rule x.term x.value (premises x) _ allowed_0 in
            let b = unless_ok _ 14 _ (omega arith) a.1 in
            T_false _ (unless_ok _ 15 _ (omega arith) b.1).0

        pub deduce_done : (vs : List ℕ) (after : Status) → after.conflict ≡ false
            → Stands w n vs after.count after.top.0 (justified here x.term x.value (has (premises x)) ∷ here)
            → Answers w n ts ws vs at the_deduce (Ok (On after))
        unfolding calculus.deduce
        deduce_done vs after e s = landed w n ts ws vs _ after e g.searching.standing.held.rows s (passed_by _ c_is.number c_no)

    module _ {c : Result (Unit {0}) Refusal} (c_is : Refuses at (clash_refusal ts here x.rule x.term x.value (premises x)) c) where
      module _ (c_no : number_in c ≡ 0) where
        pub clash_within : Within (has (premises x)) here
        unfolding clash_refusal
        clash_within = laws.contradiction_stands ts here x _ (sym c_is.number ∙ c_no)

        pub clash_opens : Inferring w n ts ws st x → (vs : List ℕ) → Conflicts w n vs st.count here (clash_set x.term (premises x))
            → Answers w n ts ws vs at the_clash (Ok (On (record { count = st.count; top = st.top; conflict = true })))
        unfolding calculus.clash
        clash_opens g vs s =
            let held = g.searching.standing.held in
            opened w n ts ws vs _ _ refl held.rows held.top s (passed_by _ c_is.number c_no)

    module _ {c : Result (Unit {0}) Refusal} (c_is : Refuses at (fail_refusal ts here x.rule x.term x.value (premises x)) c) where
      pub fail_refutes : number_in c ≡ 0 → Answers w n ts ws ws at the_fail (Ok Refuted)
      unfolding Answers calculus.fail
      fail_refutes z = (passed_by _ c_is.number z, refl)

    -- ---- by the kind of the row

    abbrev the_inference : Kind → calculus.Answer
    the_inference k = calculus.step_by ts k (calculus.searching here) x

    module _ (vs : List ℕ) (r : Answer) {k : Kind} where
      pub infer_deduces : k ≡ Deduce → Answers w n ts ws vs at the_deduce r → Answers w n ts ws vs at (the_inference k) r
      unfolding calculus.step_by
      infer_deduces e h = rw e h

      pub infer_clashes : k ≡ Clash → Answers w n ts ws vs at the_clash r → Answers w n ts ws vs at (the_inference k) r
      unfolding calculus.step_by
      infer_clashes e h = rw e h

      pub infer_fails : Inference k → (k ≡ Deduce → ⊥) → (k ≡ Clash → ⊥) → Answers w n ts ws vs at the_fail r → Answers w n ts ws vs at (the_inference k) r
      unfolding calculus.step_by
      infer_fails g d c h = rw (last_kind g d c) h
