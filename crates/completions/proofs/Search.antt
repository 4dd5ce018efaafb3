-- The search finds completions, and misses none.
use mathlib.Core.Path.{◌≡◌, refl, sym, ap, subst}
use mathlib.Core.Bool.{Bool, true, false}
use mathlib.Core.List.{List, [], ◌∷◌, ◌++◌}
use Prim.Native.Nat.{ℕ, zero, suc, ◌-◌, ◌≤◌}
use native.Mathlib.Omega.{arith}
use lib.ListN.{length, drop, length-drop}
use lib.Dec.{T}
use Rattle.calculus.specs.declared.Premise.{Premise}
use Rattle.calculus.specs.declared.Rule.{Rule}
use Rattle.calculus.specs.declared.Rule.TheVariants.{Same, Differ, Reflexivity, Symmetry, Transitivity, Negated, Part, Unit, Evaluation, Congruence, Predicate, Read, Skip, Deep, Unlisted}
use Rattle.calculus.specs.Lists.{all}
use Rattle.calculus.specs.Rules.{fits}
use Rattle.calculus.specs.Place.{at_term, with}
use Rattle.calculus.proofs.Facts.{and_l, and_r, and_both, true_or_false}
use Rattle.completions.specs.Needs.{ways, needs}
use Rattle.completions.specs.Search.{over, small, is_row, serves, followed, tried, extensible}
use Rattle.completions.proofs.First.{somewhere_at}
use Rattle.completions.proofs.Completion.{append_nil, Completion}
use Rattle.completions.proofs.Needed.{low_small, needs_short, needs_small}
use Rattle.completions.proofs.Openings.{Rows, Complete}
use Rattle.completions.proofs.Equalities.{open_same, open_differ, open_reflexivity, open_symmetry, open_transitivity, open_congruence, open_predicate, open_read, open_skip}
use Rattle.completions.proofs.Connectives.{open_negated, open_part, open_unit}
use Rattle.completions.proofs.Evaluation.{open_evaluation}

-- ---- it misses none

pub complete : (ts : List ℕ) (l v : ℕ) (k : Rule) → at_term k ≡ false → Complete ts k l v
unfolding fits
complete ts l v Same e = open_same ts l v
complete ts l v Differ e = open_differ ts l v
complete ts l v Reflexivity e = open_reflexivity ts l v
complete ts l v Symmetry e = open_symmetry ts l v
complete ts l v Transitivity e = open_transitivity ts l v
complete ts l v Negated e = open_negated ts l v
complete ts l v Part e = open_part ts l v
complete ts l v Unit e = open_unit ts l v
complete ts l v Evaluation e = open_evaluation ts l v
complete ts l v Congruence e = open_congruence ts l v
complete ts l v Predicate e = open_predicate ts l v
complete ts l v Read e = open_read ts l v
complete ts l v Skip e = open_skip ts l v
complete ts l v Deep e = absurd (true_or_false {b = true} refl e)
complete ts l v Unlisted e = λ qs rs R h. absurd h

-- ---- what it finds is a completion, of five premises at most

-- what holds of all of a list holds of all of its parts, and back
module _ {A : Type 0} (p : A → Bool) where
  pub all_both : (xs ys : List A) → T (all p xs) → T (all p ys) → T (all p (xs ++ ys))
  all_both [] ys a b = b
  all_both (x ∷ xs) ys a b = and_both (p x) _ (and_l (p x) _ a) (all_both xs ys (and_r (p x) _ a) b)

  all_after : (xs ys : List A) → T (all p (xs ++ ys)) → T (all p ys)
  all_after [] ys h = h
  all_after (x ∷ xs) ys h = all_after xs ys (and_r (p x) _ h)

  all_drop : (n : ℕ) (xs : List A) → T (all p xs) → T (all p (drop n xs))
  all_drop zero xs h = h
  all_drop (suc n) [] h = tt
  all_drop (suc n) (x ∷ xs) h = all_drop n xs (and_r (p x) _ h)

-- qs, and what is needed from the column after them on
over_is : (qs ds : List Premise) → over qs ds ≡ qs ++ drop (length qs) ds
over_is [] ds = refl
over_is (q ∷ qs) [] = sym (append_nil (q ∷ qs))
over_is (q ∷ qs) (d ∷ ds) = ap (λ ps. q ∷ ps) (over_is qs ds)

module _ (ts : List ℕ) (k : Rule) (l v : ℕ) (truth : v ≤ 1) where
  followed_at : (qs : List Premise) (f : Premise) → T (small f) → T (followed ts k l v qs f) → Completion ts k l v (5 - length qs) qs
  unfolding followed
  followed_at qs f own h =
      let w = somewhere_at (ways k) (λ i. serves ts k l v (over qs (needs ts k l v f i))) h in
      let ds = needs ts k l v f w.0 in
      let e = over_is qs ds in
      record {
        rest = drop (length qs) ds;
        short = omega (arith, length-drop (length qs) ds, needs_short ts k l v f w.0);
        rows = all_after (is_row ts) qs _ (subst (Rows ts) e (and_l (all (is_row ts) (over qs ds)) _ w.2));
        values = all_drop small (length qs) ds (needs_small ts l v truth f own w.0 k w.1);
        fit = subst (λ ps. T (fits ts k l v ps)) e (and_r (all (is_row ts) (over qs ds)) _ w.2);
      }

  pub found_at_lem : (qs : List Premise) → T (all small qs) → T (extensible ts k l v qs) → Completion ts k l v (5 - length qs) qs
  unfolding extensible
  found_at_lem [] S h =
      let w = somewhere_at (tried ts k) (λ r. followed ts k l v [] (with 0 r)) h in
      followed_at [] (with 0 w.0) (low_small 0 (omega arith)) w.2
  found_at_lem (q ∷ qs) S h = followed_at (q ∷ qs) q (and_l (small q) _ S) h
