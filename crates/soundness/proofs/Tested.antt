-- Whether an interpretation whose values are given endorses an input is a test of the input's rows, and of each two of them.
use mathlib.Core.Path.{◌≡◌, subst, subst₂}
use mathlib.Core.Logic.{◌≢◌, ◌↔◌, ◌⊎◌, inl, inr}
use mathlib.Core.Bool.{Bool, true, false, not, ◌&&◌, ◌||◌, cond}
use mathlib.Core.List.{List}
use Prim.Native.Nat.{ℕ, ◌<◌}
use lib.Dec.{T, eqb, eqb→eq, eqb_refl, T_not}
use Rattle.calculus.specs.Lists.{below}
use Rattle.calculus.specs.Sheets.{input_rows}
use Rattle.calculus.specs.Terms.{sort, prop}
use Rattle.calculus.specs.Inputs.{input_term, input_value}
use Rattle.calculus.proofs.Facts.{and_l, and_r, or_cases, neq, below_at}
use Rattle.soundness.specs.Interpretation.{Interpretation, value, Endorses}
use Rattle.soundness.specs.Claim.{Given}

same_tests : (p q : Bool) → T (cond p q (not q)) → (T p → T q) × (T q → T p)
same_tests true q h = (λ _. h, λ _. tt)
same_tests false q h = (λ k. absurd k, λ k. absurd (T_not q h k))

same_equalities : (x y v w : ℕ) → T (cond (eqb x y) (eqb v w) (not (eqb v w))) → (x ≡ y) ↔ (v ≡ w)
same_equalities x y v w h =
    let r = same_tests (eqb x y) (eqb v w) h in (
      λ q. eqb→eq v w (r.0 (subst (λ z. T (eqb x z)) q (eqb_refl x))),
      λ q. eqb→eq x y (r.1 (subst (λ z. T (eqb v z)) q (eqb_refl v))),
    )

module _ {ss ts : List ℕ} (M : Interpretation ss ts) where
  -- t, if it is a prop, has the value v
  abbrev pub prop_fits : ℕ → ℕ → Bool
  prop_fits t v = not (prop ts t) || eqb (value M t) v

  -- t and u, if they are of one other sort, are equal just when v and w are
  abbrev pub equal_fits : ℕ → ℕ → ℕ → ℕ → Bool
  equal_fits t v u w = cond (eqb (value M t) (value M u)) (eqb v w) (not (eqb v w))

  abbrev pub others_fit : ℕ → ℕ → ℕ → ℕ → Bool
  others_fit t v u w = not (eqb (sort ts t) (sort ts u)) || (prop ts t || equal_fits t v u w)

  prop_fits_lem : (t v : ℕ) → T (prop_fits t v) → sort ts t ≡ 0 → value M t ≡ v
  prop_fits_lem t v h z = go (or_cases (not (prop ts t)) _ h)
    where
      go : T (not (prop ts t)) ⊎ T (eqb (value M t) v) → value M t ≡ v
      go (inl k) = absurd (neq (sort ts t) 0 k z)
      go (inr k) = eqb→eq (value M t) v k

  others_fit_lem : (t v u w : ℕ) → T (others_fit t v u w) → sort ts t ≡ sort ts u → sort ts t ≢ 0 → (value M t ≡ value M u) ↔ (v ≡ w)
  others_fit_lem t v u w h s n = go (or_cases (not (eqb (sort ts t) (sort ts u))) _ h)
    where
      last : T (prop ts t) ⊎ T (equal_fits t v u w) → (value M t ≡ value M u) ↔ (v ≡ w)
      last (inl k) = absurd (n (eqb→eq (sort ts t) 0 k))
      last (inr k) = same_equalities (value M t) (value M u) v w k

      go : T (not (eqb (sort ts t) (sort ts u))) ⊎ T (prop ts t || equal_fits t v u w) → (value M t ≡ value M u) ↔ (v ≡ w)
      go (inl k) = absurd (neq (sort ts t) (sort ts u) k s)
      go (inr k) = last (or_cases (prop ts t) (equal_fits t v u w) k)

  -- every row is a prop with its value, and every two rows fit each other
  abbrev pub row_fits : List ℕ → ℕ → Bool
  row_fits is k = prop_fits (input_term is k) (input_value is k)

  abbrev pub rows_fit : List ℕ → ℕ → ℕ → Bool
  rows_fit is j k = others_fit (input_term is j) (input_value is j) (input_term is k) (input_value is k)

  abbrev pub input_fits : List ℕ → Bool
  input_fits is = below (input_rows is) (λ j. row_fits is j && below (input_rows is) (rows_fit is j))

  pub tested : (is : List ℕ) → T (input_fits is) → Endorses M (Given is)
  unfolding Given
  tested is h =
      record {
        props = λ t v r. prop_fits_lem t v (subst₂ (λ t v. T (prop_fits t v)) r.2 r.3 (and_l (row_fits is r.0) _ (row r.0 r.1)));
        others = λ t v u w r q.
            let f = below_at _ (rows_fit is r.0) q.0 (and_r (row_fits is r.0) _ (row r.0 r.1)) q.1 in
            others_fit_lem t v u w
            (subst₂ (λ t v. T (others_fit t v u w)) r.2 r.3
            (subst₂ (λ u w. T (others_fit (input_term is r.0) (input_value is r.0) u w)) q.2 q.3 f));
      }
    where
      row : (j : ℕ) → j < input_rows is → T (row_fits is j && below (input_rows is) (rows_fit is j))
      row j l = below_at _ (λ j. row_fits is j && below (input_rows is) (rows_fit is j)) j h l
