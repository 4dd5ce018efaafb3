-- The rules neg, part and unit: where some rows complete the premises, these rows are those that are needed.
use mathlib.Core.Path.{◌≡◌, refl, sym, subst, ◌∙◌}
use mathlib.Core.Logic.{◌⊎◌, inl, inr}
use mathlib.Core.Bool.{◌&&◌}
use mathlib.Core.List.{List, [], ◌∷◌, map}
use Prim.Native.Nat.{ℕ, ◌+◌, ◌<◌}
use native.Mathlib.Omega.{arith}
use lib.ListN.{length, get_or}
use lib.Dec.{T, eqb, lit<}
use Rattle.calculus.specs.declared.Premise.{Premise}
use Rattle.calculus.specs.declared.Rule.TheVariants.{Negated, Part, Unit}
use Rattle.calculus.specs.Lists.{has, opposite}
use Rattle.calculus.specs.Sheets.{blank}
use Rattle.calculus.specs.Terms.{args, and_head, or_head}
use Rattle.calculus.specs.Rules.{gives, single, leading, others, all_but, unit_at, fits}
use Rattle.calculus.specs.Place.{with}
use Rattle.calculus.proofs.Facts.{and_r, or_cases, facts}
use Rattle.calculus.proofs.Forms.{args_short, connected}
use Rattle.completions.specs.Needs.{needs}
use Rattle.completions.proofs.First.{somewhere_at}
use Rattle.completions.proofs.Openings.{Exact, Complete, exact_open}

-- p is row r with value w
is_with : (w r : ℕ) (p : Premise) → p.row ≡ r → p.value ≡ w → with w r ≡ p
is_with w r p e f = λ i. record { row = sym e i; value = sym f i }

-- ---- the arguments at all positions but one

-- premises that are the rows xs, each with value w, are just these
others_is : (w : ℕ) (xs : List ℕ) (ps : List Premise) → T (others w xs ps) → map (with w) xs ≡ ps
others_is w [] [] h = refl
others_is w [] (p ∷ ps) h = absurd h
others_is w (x ∷ xs) [] h = absurd h
others_is w (x ∷ xs) (p ∷ ps) h =
    let e = is_with w x p (search facts) (search facts) in
    let f = others_is w xs ps (and_r (gives x w p) _ h) in
    λ i. e i ∷ f i

-- ps are the arguments xs but the one at some position, each with value w
record Left (w : ℕ) (xs : List ℕ) (ps : List Premise) : Type 0 where
  at : ℕ
  low : at < length xs
  rest : map (with w) (all_but at xs) ≡ ps

unit_left : (w l : ℕ) (xs : List ℕ) (ps : List Premise) → T (unit_at w l xs ps) → Left w xs ps
unfolding unit_at
unit_left w l xs ps h =
    let x = somewhere_at (length xs) (λ k. eqb (get_or xs k blank) l && others w (all_but k xs) ps) h in
    record { at = x.0; low = x.1; rest = others_is w (all_but x.0 xs) ps (and_r (eqb (get_or xs x.0 blank) l) _ x.2) }

module _ (ts : List ℕ) (l v : ℕ) where
  -- the negation has the value that is not given
  pub open_negated : Complete ts Negated l v
  unfolding fits needs single
  open_negated = exact_open ts Negated l v refl (λ h. h) go
    where
      go : (p : Premise) (ps : List Premise) → T (fits ts Negated l v (p ∷ ps)) → Exact ts Negated l v p ps
      go p [] t =
          let s : p.value + v ≡ 1 = search facts in
          let e = is_with (opposite v) p.row p refl (omega arith) in
          record { way = 0; low = lit< tt; needed = λ w i. e i ∷ [] }
      go p (q ∷ ps) t = absurd t

  -- the connective has the value that is given
  pub open_part : Complete ts Part l v
  unfolding fits needs single
  open_part = exact_open ts Part l v refl (λ h. h) go
    where
      passed : (p : Premise) → T (connected ts or_head p 0 v 0) ⊎ T (connected ts and_head p 1 v 1) → p.value ≡ v
      passed p (inl t) = let e : p.value ≡ 0 = search facts in let f : v ≡ 0 = search facts in e ∙ sym f
      passed p (inr t) = let e : p.value ≡ 1 = search facts in let f : v ≡ 1 = search facts in e ∙ sym f

      go : (p : Premise) (ps : List Premise) → T (fits ts Part l v (p ∷ ps)) → Exact ts Part l v p ps
      go p [] t =
          let e = is_with v p.row p refl (passed p (or_cases (connected ts or_head p 0 v 0) _ (and_r (has (args ts p.row) l) _ t))) in
          record { way = 0; low = lit< tt; needed = λ w i. e i ∷ [] }
      go p (q ∷ ps) t = absurd t

  -- the connective has the value that is given, the others have its opposite
  pub open_unit : Complete ts Unit l v
  unfolding fits needs leading
  open_unit = exact_open ts Unit l v refl (λ h. h) go
    where
      exact : (p : Premise) (ps : List Premise) (w x : ℕ) → p.value ≡ w → v ≡ w → opposite w ≡ x → T (unit_at x l (args ts p.row) ps)
          → Exact ts Unit l v p ps
      exact p ps w x a b c t =
          let e = is_with v p.row p refl (a ∙ sym b) in
          let d : x ≡ opposite v = omega arith in
          let q = subst (λ y. Left y (args ts p.row) ps) d (unit_left x l (args ts p.row) ps t) in
          record { way = q.at; low = omega (arith, q.low, args_short ts p.row); needed = λ w i. e i ∷ q.rest i }

      settle : (p : Premise) (ps : List Premise)
          → T (connected ts or_head p 1 v 1 && unit_at 0 l (args ts p.row) ps) ⊎ T (connected ts and_head p 0 v 0 && unit_at 1 l (args ts p.row) ps)
          → Exact ts Unit l v p ps
      settle p ps (inl t) = exact p ps 1 0 (search facts depth 9) (search facts depth 9) refl (and_r (connected ts or_head p 1 v 1) _ t)
      settle p ps (inr t) = exact p ps 0 1 (search facts depth 9) (search facts depth 9) refl (and_r (connected ts and_head p 0 v 0) _ t)

      go : (p : Premise) (ps : List Premise) → T (fits ts Unit l v (p ∷ ps)) → Exact ts Unit l v p ps
      go p ps t = settle p ps (or_cases (connected ts or_head p 1 v 1 && unit_at 0 l (args ts p.row) ps) _ t)
