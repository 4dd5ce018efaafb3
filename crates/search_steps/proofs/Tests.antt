-- The numbers of the search, test by test as the code has them: for each return a law, whose premises are what the calls ensure and what
-- the tests of their results say, so that `search` finds them.
use Prim.Native.Nat.{ℕ, zero, suc}
use mathlib.Core.Path.{◌≡◌, refl, sym, ap, ◌∙◌}
use mathlib.Core.Bool.{Bool, true, false, not}
use mathlib.Core.List.{List}
use borrow.Author.Tests.{eq-eqb, ne_eqb}
use Rattle.std.specs.Prelude.{Result, Ok, Err}
use Rattle.calculus.specs.declared.Refusal.{Refusal}
use Rattle.calculus.specs.declared.Refusal.TheVariants as refusal
use Rattle.calculus.specs.declared.Rule.{Rule}
use Rattle.calculus.specs.declared.Step.{Step}
use Rattle.calculus.specs.Lists.{all, opposite}
use Rattle.calculus.specs.Numbers.{unless, or_else, number_in, place_in, fit_of}
use Rattle.calculus.specs.Terms.{prop}
use Rattle.calculus.specs.Trail.{Trail, on, assigned, premises_at, level_of}
use Rattle.calculus.specs.Inputs.{value_suits}
use Rattle.calculus.specs.Rules.{fits, rule_of}
use Rattle.calculus.specs.Steps.{premises, clash_set, at_base, acceptable, decide_refusal, inference_refusal, deduce_refusal}
use Rattle.calculus.specs.Steps.{contradiction_refusal, clash_refusal, fail_refusal}
use Rattle.calculus.specs.Place.{absent_place, unfit_place, place_of}
use Rattle.rule_claims.specs.declared.Claim.{Claim}
use Rattle.rule_claims.specs.Claims.{premises_of}
use Rattle.state.proofs.Tests.{told, told_not, told_yes, past, stops}
use Rattle.premises.specs.Columns.{Claims}
use Rattle.search_steps.specs.Searches.{Passed, Refuses}
use Rattle.search_steps.proofs.Laws.{fits_true, fits_false, unfit_at, tested}

-- ---- decide

module _ (ts : List ℕ) (tr : Trail) (t v : ℕ) where
  module _ {a : Bool} (a_is : a ≡ value_suits ts t v) where
    pub decide_22 : a ≡ false → 22 ≡ decide_refusal ts tr t v
    unfolding decide_refusal
    decide_22 h = stops _ _ (told_not a_is h)

    module _ (a_in : a ≡ true) {b : Bool} (b_is : b ≡ on tr t) where
      pub decide_14 : b ≡ true → 14 ≡ decide_refusal ts tr t v
      unfolding decide_refusal
      decide_14 h = past _ _ (told_yes a_is a_in) (stops _ _ (ap not (told b_is h)))

      module _ (b_in : b ≡ false) {d : Bool} (d_is : d ≡ acceptable ts tr t v) where
        pub decide_27 : d ≡ false → 27 ≡ decide_refusal ts tr t v
        unfolding decide_refusal
        decide_27 h = past _ _ (told_yes a_is a_in) (past _ _ (ap not (told b_is b_in)) (stops _ _ (told_not d_is h)))

        pub decide_0 : d ≡ true → 0 ≡ decide_refusal ts tr t v
        unfolding decide_refusal
        decide_0 h = past _ _ (told_yes a_is a_in) (past _ _ (ap not (told b_is b_in)) (past _ _ (told_yes d_is h) refl))

-- ---- numbers and places

module _ (ts : List ℕ) (tr : Trail) (x : Step) where
  abbrev at : ℕ → ℕ
  at = place_of ts tr x

  -- an answer with its number and its place
  placed : (r : Result (Unit {0}) Refusal) {c : ℕ} → place_in r ≡ at (number_in r) → number_in r ≡ c → Refuses at c r
  placed r q e = record { number = e; place = q ∙ ap at e }

  -- the same number of another step
  carried : {a b : ℕ} {r : Result (Unit {0}) Refusal} → Refuses at a r → number_in r ≡ b → Refuses at b r
  carried h e = record { number = e; place = h.place ∙ ap at (sym h.number ∙ e) }

-- ---- what deduce, clash and fail share

module _ (ts : List ℕ) (tr : Trail) (x : Step) where
  abbrev the_inference : ℕ → ℕ
  the_inference rest = inference_refusal ts tr x.rule x.term x.value (premises x) rest

  module _ {a : Bool} (a_is : a ≡ prop ts x.term) where
    pub inference_22 : a ≡ false → Refuses (at ts tr x) (the_inference 0) (Err refusal.Unsuited)
    unfolding inference_refusal place_of
    inference_22 h = placed ts tr x (Err refusal.Unsuited) refl (stops _ _ (told_not a_is h))

    module _ (a_in : a ≡ true) {b : Bool} (b_is : b ≡ all (on tr) (premises x)) where
      pub inference_12 : {p : ℕ} → b ≡ false → p ≡ absent_place tr x → Refuses (at ts tr x) (the_inference 0) (Err (refusal.Absent p))
      unfolding inference_refusal place_of
      inference_12 h q = placed ts tr x (Err (refusal.Absent _)) q (past _ _ (told_yes a_is a_in) (stops _ _ (told_not b_is h)))

      module _ (b_in : b ≡ true) {k : Rule} (k_is : k ≡ rule_of x.rule) {y : Claim} (y_is : Claims tr x y) {f : Result (Unit {0}) Refusal}
          (f_is : f ≡ fit_of (fits ts k y.term.0 y.value (premises_of y)) (unfit_place ts k y.term.0 y.value (premises_of y))) where
        fit_is : f ≡ fit_of (fits ts (rule_of x.rule) x.term x.value (premises_at tr (premises x))) (unfit_at ts tr x)
        fit_is = tested ts tr x f_is k_is y_is

        pub inference_13 : (p : ℕ) → f ≡ Err (refusal.Unfit p) → Refuses (at ts tr x) (the_inference 0) (Err (refusal.Unfit p))
        unfolding inference_refusal place_of
        inference_13 p h =
            let u = fits_false (unfit_at ts tr x) p (sym fit_is ∙ h) in
            placed ts tr x (Err (refusal.Unfit p)) u.1 (past _ _ (told_yes a_is a_in) (past _ _ (told_yes b_is b_in) (stops _ _ u.0)))

        pub inference_0 : f ≡ Ok tt → Refuses (at ts tr x) (the_inference 0) (Ok tt)
        unfolding inference_refusal place_of
        inference_0 h =
            let u = fits_true (unfit_at ts tr x) (sym fit_is ∙ h) in
            placed ts tr x (Ok tt) refl (past _ _ (told_yes a_is a_in) (past _ _ (told_yes b_is b_in) (past _ _ u refl)))

-- ---- a number in two parts: that of the first tests, or else that of the rest

-- the rest comes after four tests
after_tests : (a b c d : Bool) (rest : ℕ)
    → unless a 22 (unless b 12 (unless c 13 (unless d 16 rest))) ≡ or_else (unless a 22 (unless b 12 (unless c 13 (unless d 16 0)))) rest
unfolding unless or_else
after_tests false b c d rest = refl
after_tests true false c d rest = refl
after_tests true true false d rest = refl
after_tests true true true false rest = refl
after_tests true true true true rest = refl

module _ {whole start c : ℕ} (rest : ℕ) (parts : whole ≡ or_else start rest) (c_is : c ≡ start) where
  first_part : (c ≡ 0 → ⊥) → c ≡ whole
  unfolding or_else
  first_part h = go start c_is ∙ sym parts
    where
      go : (j : ℕ) → c ≡ j → c ≡ or_else j rest
      go zero q = absurd (h q)
      go (suc j) q = q

  second_part : c ≡ 0 → {n : ℕ} → n ≡ rest → n ≡ whole
  unfolding or_else
  second_part z e = e ∙ sym (parts ∙ rw (sym c_is ∙ z))

-- ---- deduce, and what clash and fail share

module _ (ts : List ℕ) (tr : Trail) (x : Step) where
  abbrev r : ℕ
  r = x.rule

  abbrev l : ℕ
  l = x.term

  abbrev v : ℕ
  v = x.value

  abbrev ps : List ℕ
  ps = premises x

  abbrev shared : ℕ → ℕ
  shared rest = inference_refusal ts tr r l v ps rest

  abbrev contradiction : Bool → ℕ
  contradiction level_suits = contradiction_refusal ts tr r l v ps level_suits

  -- the answer is the number m with its place
  abbrev Said : ℕ → Result (Unit {0}) Refusal → Type 0
  Said m c = Refuses (at ts tr x) m c

  shared_parts : (rest : ℕ) → shared rest ≡ or_else (shared 0) rest
  unfolding inference_refusal unless
  shared_parts rest = after_tests (prop ts l) (all (on tr) ps) (fits ts (rule_of r) l v (premises_at tr ps)) true rest

  module _ {c : Result (Unit {0}) Refusal} (c_is : Said (shared 0) c) where
    pub deduce_first : (number_in c ≡ 0 → ⊥) → Said (deduce_refusal ts tr r l v ps) c
    unfolding deduce_refusal
    deduce_first h = carried ts tr x c_is (first_part _ (shared_parts _) c_is.number h)

    pub contradiction_first : (number_in c ≡ 0 → ⊥) → Said (contradiction true) c
    unfolding contradiction_refusal
    contradiction_first h = carried ts tr x c_is (first_part _ (shared_parts _) c_is.number h)

  module _ (g : Passed ts tr x) where
    then_rest : (a : Result (Unit {0}) Refusal) (rest : ℕ) → place_in a ≡ at ts tr x (number_in a) → number_in a ≡ rest → Said (shared rest) a
    then_rest a rest z e = placed ts tr x a z (second_part rest (shared_parts rest) (sym g.passed) refl e)

    module _ {b : Bool} (b_is : b ≡ on tr l) where
      -- a term that is not on the trail has no value there
      pub deduce_0 : b ≡ false → Said (deduce_refusal ts tr r l v ps) (Ok tt)
      unfolding deduce_refusal place_of
      deduce_0 h =
          let off = told_not b_is h in
          then_rest (Ok tt) _ refl (past _ _ (rw off) (past _ _ (ap not off) refl))

      module _ (b_in : b ≡ true) {a : Bool} (a_is : a ≡ assigned tr l v) where
        pub deduce_14 : a ≡ true → Said (deduce_refusal ts tr r l v ps) (Err refusal.There)
        unfolding deduce_refusal place_of
        deduce_14 h = then_rest (Err refusal.There) _ refl (stops _ _ (ap not (told a_is h)))

        pub deduce_15 : a ≡ false → Said (deduce_refusal ts tr r l v ps) (Err refusal.OppositeThere)
        unfolding deduce_refusal place_of
        deduce_15 h = then_rest (Err refusal.OppositeThere) _ refl (past _ _ (ap not (told a_is h)) (stops _ _ (ap not (told_yes b_is b_in))))

    module _ {o : ℕ} (o_is : o ≡ opposite v) {a : Bool} (a_is : a ≡ assigned tr l o) where
      held : {b : Bool} → a ≡ b → assigned tr l (opposite v) ≡ b
      held h = rw (sym o_is) (told a_is h)

      pub contradiction_16 : a ≡ false → Said (contradiction true) (Err refusal.OppositeMissing)
      unfolding contradiction_refusal place_of
      contradiction_16 h = then_rest (Err refusal.OppositeMissing) _ refl (stops _ _ (told_not (sym (held refl)) h))

      pub contradiction_0 : a ≡ true → Said (contradiction true) (Ok tt)
      unfolding contradiction_refusal place_of
      contradiction_0 h = then_rest (Ok tt) _ refl (past _ _ (told_yes (sym (held refl)) h) (past _ _ refl refl))

  -- ---- clash and fail: the level

  level_last : (level_suits : Bool) → contradiction level_suits ≡ or_else (contradiction true) (unless level_suits 26 0)
  unfolding contradiction_refusal inference_refusal unless
  level_last level_suits =
      after_tests (prop ts l) (all (on tr) ps) (fits ts (rule_of r) l v (premises_at tr ps)) (assigned tr l (opposite v)) (unless level_suits 26 0)

  module _ {c : Result (Unit {0}) Refusal} (c_is : Said (contradiction true) c) where
    pub clash_first : (number_in c ≡ 0 → ⊥) → Said (clash_refusal ts tr r l v ps) c
    unfolding clash_refusal
    clash_first h = carried ts tr x c_is (first_part _ (level_last _) c_is.number h)

    pub fail_first : (number_in c ≡ 0 → ⊥) → Said (fail_refusal ts tr r l v ps) c
    unfolding fail_refusal
    fail_first h = carried ts tr x c_is (first_part _ (level_last _) c_is.number h)

    module _ (c_no : number_in c ≡ 0) {m : ℕ} (m_is : m ≡ level_of tr (clash_set l ps)) where
      then_level : (a : Result (Unit {0}) Refusal) (level_suits : Bool) → place_in a ≡ at ts tr x (number_in a) → number_in a ≡ unless level_suits 26 0
          → Said (contradiction level_suits) a
      then_level a level_suits z e = placed ts tr x a z (second_part _ (level_last level_suits) c_is.number c_no e)

      at_base_lem : m ≡ 0 → at_base tr (clash_set l ps) ≡ true
      at_base_lem z = eq-eqb _ _ (sym m_is ∙ z)

      above_base : (m ≡ 0 → ⊥) → at_base tr (clash_set l ps) ≡ false
      above_base h = ne_eqb _ _ (λ z. h (m_is ∙ z))

      pub clash_26 : m ≡ 0 → Said (clash_refusal ts tr r l v ps) (Err refusal.OtherLine)
      unfolding clash_refusal place_of
      clash_26 z = then_level (Err refusal.OtherLine) _ refl (stops _ _ (ap not (at_base_lem z)))

      pub clash_0 : (m ≡ 0 → ⊥) → Said (clash_refusal ts tr r l v ps) (Ok tt)
      unfolding clash_refusal place_of
      clash_0 h = then_level (Ok tt) _ refl (past _ _ (ap not (above_base h)) refl)

      pub fail_26 : (m ≡ 0 → ⊥) → Said (fail_refusal ts tr r l v ps) (Err refusal.OtherLine)
      unfolding fail_refusal place_of
      fail_26 h = then_level (Err refusal.OtherLine) _ refl (stops _ _ (above_base h))

      pub fail_0 : m ≡ 0 → Said (fail_refusal ts tr r l v ps) (Ok tt)
      unfolding fail_refusal place_of
      fail_0 z = then_level (Ok tt) _ refl (past _ _ (at_base_lem z) refl)
