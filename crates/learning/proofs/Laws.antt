-- The tests of learn one after the other, what the number 0 says, and its answer.
use mathlib.Core.Path.{◌≡◌, refl, sym, ap, ◌∙◌}
use mathlib.Core.Bool.{Bool, true, false, not, ◌&&◌}
use mathlib.Core.List.{List, [], ◌∷◌}
use Prim.Native.Nat.{ℕ}
use native.Mathlib.Omega.{arith}
use lib.Dec.{leb, ltb, leb→le}
use borrow.Author.Tests.{eq-eqb}
use Rattle.calculus.specs.declared.Step.{Step}
use Rattle.calculus.specs.declared.Premise.{Premise}
use Rattle.calculus.specs.Lists.{all, has}
use Rattle.calculus.specs.Sheets.{blank}
use Rattle.calculus.specs.Numbers.{unless}
use Rattle.calculus.specs.Terms.{prop, filled}
use Rattle.calculus.specs.Clauses.{different, is_clause, clausal}
use Rattle.calculus.specs.Trail.{Set, Trail, without, on, value_at, premises_at, level_of}
use Rattle.calculus.specs.Steps.{premise_cells, premises, learn_refusal}
use Rattle.calculus.specs.WellFormed.{Within}
use Rattle.calculus.proofs.Facts.{true_T, both_true}
use Rattle.calculus.proofs.Entries.{kept_off}
use Rattle.trail.specs.Words.{trail_in}
use Rattle.moves.specs.Post.{conflict_in}
use Rattle.conflict_moves.specs.Back.{rest_in, ToBackjump}
use Rattle.state.specs.declared.Status.{Status}
use Rattle.state.proofs.Tests.{told, told_not, told_yes, past, stops}
use Rattle.premises.specs.Columns.{Premised}
use Rattle.rule_claims.specs.Claims.{stated}
use Rattle.rule_claims.proofs.Laws.{AllLooked, stated_looked}
use Rattle.conflicts.proofs.Laws.{found}
use Rattle.learning.specs.Learns.{Named, ToTest, ToLearn}

-- ---- the members

-- the columns up to the first blank are the members
pub columns : (x : Step) (ps : List ℕ) → ps ≡ premise_cells x → filled ps ≡ premises x
unfolding premises
columns x ps e = ap filled e

-- the fifth column is blank: four members with their values
pub four_members : (tr : Trail) (x : Step) (p q r s : Premise) → x.t ≡ blank → p.row ≡ x.p → q.row ≡ x.q → r.row ≡ x.r → s.row ≡ x.s
    → AllLooked (on tr) (value_at tr) (p ∷ q ∷ r ∷ s ∷ []) → all (on tr) (premises x) ≡ true → stated (p ∷ q ∷ r ∷ s ∷ []) ≡ premises_at tr (premises x)
unfolding premises
four_members tr x p q r s t-no ep eq er es k h =
    let e : filled (p.row ∷ q.row ∷ r.row ∷ s.row ∷ []) ≡ filled (premise_cells x) =
    (λ i. filled (ep i ∷ eq i ∷ er i ∷ es i ∷ [])) ∙ sym (rw (eq-eqb x.t blank t-no)) in
    rw (sym e) (stated_looked (on tr) (value_at tr) (p ∷ q ∷ r ∷ s ∷ []) k (rw e h))

-- members of a set that stands on the trail stand there
pub all_stand : (tr : Trail) (E : Set) (xs : List ℕ) → Within E tr → all E xs ≡ true → all (on tr) xs ≡ true
all_stand tr E [] h e = refl
all_stand tr E (x ∷ xs) h e = let b = both_true (E x) _ e in rw (h x b.0) (all_stand tr E xs h b.1)

-- members of the conflict stand on the trail
pub members_stand : (w n : ℕ) (ws : List ℕ) (count : ℕ) (x : Step) (ps : List ℕ) (rest : ℕ) → ToTest w n ws count x ps rest
    → all (conflict_in w n ws) (filled ps) ≡ true → all (on (trail_in w n ws count)) (premises x) ≡ true
members_stand w n ws count x ps rest g e =
    let stand : all (on (trail_in w n ws count)) (filled ps) ≡ true = all_stand _ (conflict_in w n ws) (filled ps) g.found.within e in
    rw (columns x ps g.columns) at stand

module _ {w n : ℕ} {ws : List ℕ} {count : ℕ} {x : Step} {ps : List ℕ} {rest : ℕ} {b : Bool} (g : ToTest w n ws count x ps rest)
    (e : b ≡ all (conflict_in w n ws) (filled ps)) (h : b ≡ true) where
  pub premised : Premised w n ws count x
  premised = record { laid = g.found.laid; stand = members_stand w n ws count x ps rest g (told_yes e h) }

  pub named : Named w n ws count x
  named = record { premised = premised; four = g.four }

-- ---- the number, test by test

module _ (w n : ℕ) (ts ws : List ℕ) (count : ℕ) (x : Step) {ps : List ℕ} {rest : ℕ} (g : ToTest w n ws count x ps rest) where
  abbrev here : Trail
  here = trail_in w n ws count

  abbrev set : Set
  set = conflict_in w n ws

  abbrev number : ℕ
  number = learn_refusal ts here set x.term x.value (premises x)

  module _ {a : Bool} (a_is : a ≡ all set (filled ps)) where
    inside : a ≡ all set (premises x)
    inside = a_is ∙ ap (all set) (columns x ps g.columns)

    pub learn_17 : a ≡ false → 17 ≡ number
    unfolding learn_refusal
    learn_17 h = stops _ _ (told_not inside h)

    module _ (a_in : a ≡ true) {b : Bool} (b_is : b ≡ (all (prop ts) (premises x) && is_clause ts x.term)) where
      pub learn_22 : b ≡ false → 22 ≡ number
      unfolding learn_refusal
      learn_22 h = past _ _ (told_yes inside a_in) (stops _ _ (told_not b_is h))

      module _ (b_in : b ≡ true) {c : Bool} (c_is : c ≡ (different (premises x) && clausal ts x.term (premises_at here (premises x)))) where
        pub learn_25 : c ≡ false → 25 ≡ number
        unfolding learn_refusal
        learn_25 h = past _ _ (told_yes inside a_in) (past _ _ (told_yes b_is b_in) (stops _ _ (told_not c_is h)))

        module _ (c_in : c ≡ true) {d : Bool} (d_is : d ≡ on here x.term) where
          -- three tests are passed
          then : {k : ℕ} (later : ℕ) → k ≡ later
              → k ≡ unless (all set (premises x)) 17 (unless (all (prop ts) (premises x) && is_clause ts x.term) 22
              (unless (different (premises x) && clausal ts x.term (premises_at here (premises x))) 25 later))
          then later e = past _ _ (told_yes inside a_in) (past _ _ (told_yes b_is b_in) (past _ _ (told_yes c_is c_in) e))

          pub learn_14 : d ≡ true → 14 ≡ number
          unfolding learn_refusal
          learn_14 h = then _ (stops _ _ (ap not (told d_is h)))

          module _ (d_no : d ≡ false) {f : Bool} (f_is : f ≡ (leb rest x.value && ltb x.value (level_of here (has (premises x))))) where
            suits : f ≡ (leb (level_of here (without set (premises x))) x.value && ltb x.value (level_of here (has (premises x))))
            suits =
                f_is
                ∙ ap (λ (m : ℕ). leb m x.value && ltb x.value (level_of here (has (premises x))))
                (g.level ∙ ap (λ (xs : List ℕ). level_of here (without set xs)) (columns x ps g.columns))

            pub learn_21 : f ≡ false → 21 ≡ number
            unfolding learn_refusal
            learn_21 h = then _ (past _ _ (ap not (told d_is d_no)) (stops _ _ (told_not suits h)))

            pub learn_0 : f ≡ true → 0 ≡ number
            unfolding learn_refusal
            learn_0 h = then _ (past _ _ (ap not (told d_is d_no)) (past _ _ (told_yes suits h) refl))

-- ---- the answer

-- the clause is on the trail nowhere, and the level is not below the rest
pub learn_back : (w n : ℕ) (ts ws : List ℕ) (st : Status) (x : Step) (rest : ℕ) → ToLearn w n ts ws st x
    → 0 ≡ learn_refusal ts (trail_in w n ws st.count) (conflict_in w n ws) x.term x.value (premises x)
    → rest ≡ level_of (trail_in w n ws st.count) (rest_in w n ws (premise_cells x)) → ToBackjump w n ws st.count x.term x.value (premise_cells x) rest
unfolding learn_refusal unless premises
learn_back w n ts ws st x rest g z e =
    let f = found w n ts ws st g.conflicted in
    let low : leb (level_of (trail_in w n ws st.count) (rest_in w n ws (premise_cells x))) x.value ≡ true = grind arith in
    let fits = leb→le _ _ (true_T _ low) in
    record {
      laid = f.laid;
      well_formed = f.well_formed;
      row = g.conflicted.row;
      gone = kept_off x.value (trail_in w n ws st.count) x.term (grind arith);
      level_is = e;
      low = omega arith;
    }
