-- A claim's premises, and the answer of the rule test.
use mathlib.Core.Path.{◌≡◌, refl, sym, ap}
use mathlib.Core.Bool.{Bool, true, false, cond}
use mathlib.Core.List.{List, [], ◌∷◌}
use Prim.Native.Nat.{ℕ, zero, suc, ◌≤◌}
use native.Mathlib.Omega.{arith}
use lib.Dec.{T}
use lib.ListN.{length, take}
use mir.Syntax.{w16}
use mir.Val.{Fits as Range}
use borrow.Author.Tests.{eq-eqb, ne_eqb, lt-ltb}
use Rattle.calculus.specs.declared.Premise.{Premise}
use Rattle.calculus.specs.declared.Rule.{Rule}
use Rattle.calculus.specs.Lists.{all}
use Rattle.calculus.specs.Sheets.{blank}
use Rattle.calculus.specs.Place.{at_term, free_values, first_unfit}
use Rattle.calculus.proofs.Facts.{both_true, true_T}
use Rattle.completions.specs.Search.{small, found_place}
use Rattle.completions.proofs.Theorem.{first_found}
use Rattle.rule_claims.specs.declared.Claim.{Claim}
use Rattle.rule_claims.specs.Claims.{gap, stated, premises_of}
use Rattle.needs.specs.Listed.{listed}
use Rattle.places.specs.Tested.{Tested, Counted}

-- ---- how many premises there are, and their values

filled : (p : Premise) → (p.row ≡ blank → ⊥) → gap p ≡ false
filled p h = ne_eqb p.row blank h

empty : (p : Premise) → p.row ≡ blank → gap p ≡ true
empty p h = eq-eqb p.row blank h

-- a premise's columns are numbers of sixteen bits
abbrev Sixteen : Premise → Type 0
Sixteen p = Range w16 p.row × (Range w16 p.value × Unit {0})

sixteen_small : (p : Premise) → Sixteen p → small p ≡ true
unfolding free_values
sixteen_small p h = lt-ltb p.value 65536 h.1.0.fits

stated_all : (f : Premise → Bool) (ps : List Premise) → all f ps ≡ true → all f (stated ps) ≡ true
unfolding stated
stated_all f [] h = refl
stated_all f (p ∷ ps) h = let b = both_true (f p) (all f ps) h in go (gap p) b.0 (stated_all f ps b.1)
  where
    go : (g : Bool) → f p ≡ true → all f (stated ps) ≡ true → all f (cond g [] (p ∷ stated ps)) ≡ true
    go true a b = refl
    go false a b = rw (a, b)

module _ (x : Claim) (ranges : (Range w16 x.term.0 × Unit {0})
    × (Sixteen x.p × (Sixteen x.q × (Sixteen x.r × (Sixteen x.s × (Sixteen x.t × (Range w16 x.value × Unit {0}))))))) where
  values : T (all small (premises_of x))
  values =
      let p = ranges.1 in
      true_T (all small (premises_of x)) (stated_all small (x.p ∷ x.q ∷ x.r ∷ x.s ∷ x.t ∷ [])
      (rw (
        sixteen_small x.p p.0,
        sixteen_small x.q p.1.0,
        sixteen_small x.r p.1.1.0,
        sixteen_small x.s p.1.1.1.0,
        sixteen_small x.t p.1.1.1.1.0,
      )))

  counted : {m : ℕ} → m ≡ length (premises_of x) → Counted x m
  counted h = record { count = h; values = values }

  pub count_0 : x.p.row ≡ blank → Counted x 0
  unfolding stated
  count_0 p = counted (rw (empty x.p p))

  module _ (p : x.p.row ≡ blank → ⊥) where
    pub count_1 : x.q.row ≡ blank → Counted x 1
    unfolding stated
    count_1 q = counted (rw (filled x.p p, empty x.q q))

    module _ (q : x.q.row ≡ blank → ⊥) where
      pub count_2 : x.r.row ≡ blank → Counted x 2
      unfolding stated
      count_2 r = counted (rw (filled x.p p, filled x.q q, empty x.r r))

      module _ (r : x.r.row ≡ blank → ⊥) where
        pub count_3 : x.s.row ≡ blank → Counted x 3
        unfolding stated
        count_3 s = counted (rw (filled x.p p, filled x.q q, filled x.r r, empty x.s s))

        module _ (s : x.s.row ≡ blank → ⊥) where
          pub count_4 : x.t.row ≡ blank → Counted x 4
          unfolding stated
          count_4 t = counted (rw (filled x.p p, filled x.q q, filled x.r r, filled x.s s, empty x.t t))

          pub count_5 : (x.t.row ≡ blank → ⊥) → Counted x 5
          unfolding stated
          count_5 t = counted (rw (filled x.p p, filled x.q q, filled x.r r, filled x.s s, filled x.t t))

-- ---- the first of them

stated_take : (m : ℕ) (ps : List Premise) → m ≤ length (stated ps) → take m ps ≡ take m (stated ps)
unfolding stated
stated_take zero ps h = refl
stated_take (suc m) [] h = refl
stated_take (suc m) (p ∷ ps) h = go (gap p) (stated_take m ps) h
  where
    go : (g : Bool) → (m ≤ length (stated ps) → take m ps ≡ take m (stated ps))
        → suc m ≤ length (cond g [] (p ∷ stated ps)) → p ∷ take m ps ≡ take (suc m) (cond g [] (p ∷ stated ps))
    go true f h = absurd (omega arith)
    go false f h = ap {B = List Premise} (λ qs. p ∷ qs) (f (omega arith))

pub first_listed : (m : ℕ) (x : Claim) → m ≤ length (premises_of x)
    → listed (record { count = m; p = x.p; q = x.q; r = x.r; s = x.s; t = x.t }) ≡ take m (premises_of x)
unfolding listed
first_listed m x h = stated_take m (x.p ∷ x.q ∷ x.r ∷ x.s ∷ x.t ∷ []) h

-- ---- the answer

-- what the search finds is the first unfit column
pub first_is : (ts : List ℕ) (k : Rule) (x : Claim) {n m : ℕ} → Tested ts n x → at_term k ≡ false → Counted x m
    → found_place ts k x.term.0 x.value (premises_of x) ≡ first_unfit ts k x.term.0 x.value (premises_of x)
first_is ts k x h e s = sym (first_found ts k x.term.0 e x.value (premises_of x) (record { rows = h.listed; values = s.values; truth = h.truth }))
