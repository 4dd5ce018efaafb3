-- The place of a row that does not fit: the term by deep, and by any other rule the first unfit column.
use mathlib.Core.Path.{◌≡◌, refl, sym, ◌∙◌}
use mathlib.Core.Bool.{false}
use mathlib.Core.List.{List}
use Prim.Native.Nat.{ℕ}
use Rattle.calculus.specs.declared.Premise.{Premise}
use Rattle.calculus.specs.declared.Rule.{Rule}
use Rattle.calculus.specs.declared.Rule.TheVariants.{Same, Differ, Reflexivity, Symmetry, Transitivity, Negated, Part, Unit, Evaluation, Congruence, Predicate, Read, Skip, Deep, Unlisted}
use Rattle.calculus.specs.Place.{at_term, first_unfit, unfit_place}
use Rattle.completions.proofs.Theorem.{unfit_first}

-- any rule but deep
pub not_at_term : (k : Rule) → (k ≡ Deep → ⊥) → at_term k ≡ false
not_at_term Same t = refl
not_at_term Differ t = refl
not_at_term Reflexivity t = refl
not_at_term Symmetry t = refl
not_at_term Transitivity t = refl
not_at_term Negated t = refl
not_at_term Part t = refl
not_at_term Unit t = refl
not_at_term Evaluation t = refl
not_at_term Congruence t = refl
not_at_term Predicate t = refl
not_at_term Read t = refl
not_at_term Skip t = refl
not_at_term Deep t = absurd (t refl)
not_at_term Unlisted t = refl

module _ (ts : List ℕ) (k : Rule) (l v : ℕ) (ps : List Premise) where
  pub place_deep : k ≡ Deep → 3 ≡ unfit_place ts k l v ps
  unfolding unfit_place
  place_deep e = rw e

  pub place_other : {c : ℕ} → (k ≡ Deep → ⊥) → c ≡ first_unfit ts k l v ps → c ≡ unfit_place ts k l v ps
  place_other t h = h ∙ sym (unfit_first ts k l v ps (not_at_term k t))
