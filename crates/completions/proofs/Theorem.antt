-- The search decides whether a row can be completed, and so finds the place.
use mathlib.Core.Path.{◌≡◌, refl, ap, ◌∙◌}
use mathlib.Core.Bool.{Bool, true, false, not, ◌||◌, cond}
use mathlib.Core.List.{List, [], ◌∷◌}
use Prim.Native.Nat.{ℕ, zero, suc, ◌+◌, ◌-◌, ◌≤◌}
use native.Mathlib.Omega.{arith}
use lib.ListN.{length, take, length-take}
use lib.Dec.{T, ltb, ltb→lt, nltb→le}
use Rattle.calculus.specs.declared.Premise.{Premise}
use Rattle.calculus.specs.declared.Rule.{Rule}
use Rattle.calculus.specs.Lists.{all, first_where}
use Rattle.calculus.specs.Rules.{fits}
use Rattle.calculus.specs.Place.{term_column, value_column, last_column, at_term, completes, completable, first_unfit, unfit_place}
use Rattle.calculus.proofs.Facts.{and_l, and_r, and_both, true_T, false_T}
use Rattle.completions.specs.Search.{small, is_row, extensible, findable, found_place, Legible, SearchFindsPlaces}
use Rattle.completions.proofs.Completion.{completes_at, completes_of}
use Rattle.completions.proofs.Openings.{Rows}
use Rattle.completions.proofs.Search.{complete, all_both, found_at_lem}

-- two tests that imply each other
alike : (a b : Bool) → (T a → T b) → (T b → T a) → a ≡ b
alike true true f g = refl
alike true false f g = absurd (f tt)
alike false true f g = absurd (g tt)
alike false false f g = refl

-- what f makes of each outcome of a test
on_cond : {A B : Type 0} (f : A → B) (b : Bool) {m n : A} {x y : B} → (b ≡ true → f m ≡ x) → (b ≡ false → f n ≡ y) → f (cond b m n) ≡ cond b x y
on_cond f true p q = p refl
on_cond f false p q = q refl

pub take_all : (n : ℕ) (ps : List Premise) → length ps ≤ n → take n ps ≡ ps
take_all zero [] h = refl
take_all zero (p ∷ ps) h = absurd (omega arith)
take_all (suc n) [] h = refl
take_all (suc n) (p ∷ ps) h = ap (λ qs. p ∷ qs) (take_all n ps (omega arith))

all_take : (p : Premise → Bool) (n : ℕ) (ps : List Premise) → T (all p ps) → T (all p (take n ps))
all_take p zero ps h = tt
all_take p (suc n) [] h = tt
all_take p (suc n) (q ∷ ps) h = and_both (p q) _ (and_l (p q) _ h) (all_take p n ps (and_r (p q) _ h))

module _ (ts : List ℕ) (k : Rule) (l : ℕ) (sought : at_term k ≡ false) where
  -- up to five premises, of which qs stand
  completes_is : (v n : ℕ) (qs : List Premise) → v ≤ 1 → n ≡ 5 - length qs → Rows ts qs → T (all small qs)
      → completes ts k l n v qs ≡ extensible ts k l v qs
  completes_is v n qs truth e R S = alike _ _ to from
    where
      to : T (completes ts k l n v qs) → T (extensible ts k l v qs)
      to t = let x = completes_at ts k l v n qs t in complete ts l v k sought qs x.rest (all_both (is_row ts) qs x.rest R x.rows) x.fit

      from : T (extensible ts k l v qs) → T (completes ts k l n v qs)
      from t = let x = found_at_lem ts k l v truth qs S t in completes_of ts k l v n qs x.rest (omega (arith, x.short)) x.rows x.values x.fit

  module _ (v : ℕ) (ps : List Premise) (G : Legible ts v ps) where
    -- with the first m premises: after a blank they are all; else n columns more are open
    premises_are : (m n : ℕ) → n ≡ 5 - m
        → completes ts k l (cond (ltb (length ps) m) 0 n) v (take m ps) ≡ cond (ltb (length ps) m) (fits ts k l v ps) (extensible ts k l v (take m ps))
    unfolding completes
    premises_are m n e =
        on_cond (λ n. completes ts k l n v (take m ps)) (ltb (length ps) m)
        (λ b. let h = ltb→lt (length ps) m (true_T _ b) in ap (fits ts k l v) (take_all m ps (omega arith)))
        (λ b.
        let h = nltb→le (length ps) m (false_T _ b) in
        completes_is v n (take m ps) G.truth (omega (arith, length-take m ps)) (all_take (is_row ts) m ps G.rows) (all_take small m ps G.values))

    pub completable_is : (c : ℕ) → completable ts k l v ps c ≡ findable ts k l v ps c
    unfolding completable findable
    completable_is c =
        on_cond (λ b. b) (ltb c value_column)
        (λ e i. completes_is 0 5 [] (omega arith) refl tt tt i || completes_is 1 5 [] (omega arith) refl tt tt i)
        (λ e. let h = nltb→le c value_column (false_T _ e) in premises_are (c - value_column) (last_column - c) (omega arith))

    pub first_found : first_unfit ts k l v ps ≡ found_place ts k l v ps
    unfolding first_unfit found_place
    first_found = λ i. term_column + first_where 7 (λ j. not (completable_is (term_column + j) i))

pub unfit_first : (ts : List ℕ) (k : Rule) (l v : ℕ) (ps : List Premise) → at_term k ≡ false → unfit_place ts k l v ps ≡ first_unfit ts k l v ps
unfolding unfit_place
unfit_first ts k l v ps e = rw e

pub search_finds_places : SearchFindsPlaces
search_finds_places ts k l v ps e G = unfit_first ts k l v ps e ∙ first_found ts k l e v ps G
