-- What a rule needs are at most five premises, whose values a column can have.
use mathlib.Core.List.{List, [], ◌∷◌, map}
use Prim.Native.Nat.{ℕ, suc, ◌≤◌, ◌<◌}
use native.Mathlib.Omega.{arith}
use lib.ListN.{length, take, drop, length-map, length-append, length-take, length-drop}
use lib.Dec.{T, ltb, lt→ltb}
use Rattle.calculus.specs.declared.Premise.{Premise}
use Rattle.calculus.specs.declared.Rule.{Rule}
use Rattle.calculus.specs.declared.Rule.TheVariants.{Same, Differ, Reflexivity, Symmetry, Transitivity, Negated, Part, Unit, Evaluation, Congruence, Predicate, Read, Skip, Deep, Unlisted}
use Rattle.calculus.specs.Lists.{all, opposite}
use Rattle.calculus.specs.Terms.{args, arg}
use Rattle.calculus.specs.Rules.{all_but}
use Rattle.calculus.specs.Place.{with, free_values}
use Rattle.calculus.proofs.Facts.{and_both}
use Rattle.calculus.proofs.Forms.{args_short}
use Rattle.completions.specs.Needs.{ways, equations, needs}
use Rattle.completions.specs.Search.{small}

-- ---- how many

all_but_short : (i : ℕ) (xs : List ℕ) → length (all_but i xs) ≤ length xs
all_but_short i xs = omega (arith, length-append (take i xs) (drop (suc i) xs), length-take i xs, length-drop (suc i) xs)

module _ (ts : List ℕ) where
  equations_short : (xs ys : List ℕ) → length (equations ts xs ys) ≤ length xs
  equations_short [] ys = omega arith
  equations_short (a ∷ xs) [] = omega arith
  equations_short (a ∷ xs) (b ∷ ys) = let h = equations_short xs ys in omega arith

  pub needs_short : (k : Rule) (l v : ℕ) (f : Premise) (i : ℕ) → length (needs ts k l v f i) ≤ 5
  unfolding needs
  needs_short Same l v f i = omega arith
  needs_short Differ l v f i = omega arith
  needs_short Reflexivity l v f i = omega arith
  needs_short Symmetry l v f i = omega arith
  needs_short Transitivity l v f i = omega arith
  needs_short Negated l v f i = omega arith
  needs_short Part l v f i = omega arith
  needs_short Unit l v f i =
      let xs = args ts f.row in
      omega (arith, length-map (all_but i xs) (with (opposite v)), all_but_short i xs, args_short ts f.row)
  needs_short Evaluation l v f i = omega (arith, length-map (args ts l) (with i), args_short ts l)
  needs_short Congruence l v f i = omega (arith, equations_short (args ts (arg ts l 0)) (args ts (arg ts l 1)), args_short ts (arg ts l 0))
  needs_short Predicate l v f i = omega (arith, equations_short (args ts f.row) (args ts l), args_short ts f.row)
  needs_short Read l v f i = omega arith
  needs_short Skip l v f i = omega arith
  needs_short Deep l v f i = omega arith
  needs_short Unlisted l v f i = omega arith

-- ---- their values: 0, 1, the one that is given, that of the way, the first premise's own and its opposite

-- a number up to 4 is a value that a column can have
pub low_small : (w : ℕ) → w ≤ 4 → T (ltb w free_values)
unfolding free_values
low_small w h = lt→ltb w free_values (omega arith)

map_small : (w : ℕ) (xs : List ℕ) → T (ltb w free_values) → T (all small (map (with w) xs))
map_small w [] h = tt
map_small w (x ∷ xs) h = and_both (ltb w free_values) _ h (map_small w xs h)

module _ (ts : List ℕ) where
  equations_small : (xs ys : List ℕ) → T (all small (equations ts xs ys))
  equations_small [] ys = tt
  equations_small (a ∷ xs) [] = tt
  equations_small (a ∷ xs) (b ∷ ys) = and_both (ltb 1 free_values) _ (low_small 1 (omega arith)) (equations_small xs ys)

  module _ (l v : ℕ) (truth : v ≤ 1) (f : Premise) (own : T (small f)) (i : ℕ) where
    none : T (ltb 0 free_values)
    none = low_small 0 (omega arith)

    one : T (ltb 1 free_values)
    one = low_small 1 (omega arith)

    given : T (ltb v free_values)
    given = low_small v (omega arith)

    turned : (w : ℕ) → T (ltb (opposite w) free_values)
    turned w = low_small (opposite w) (omega arith)

    pub needs_small : (k : Rule) → i < ways k → T (all small (needs ts k l v f i))
    unfolding needs
    needs_small Same b = search (and_both, own)
    needs_small Differ b = search (and_both, own, turned)
    needs_small Reflexivity b = tt
    needs_small Symmetry b = search (and_both, one)
    needs_small Transitivity b = search (and_both, one)
    needs_small Negated b = search (and_both, turned)
    needs_small Part b = search (and_both, given)
    needs_small Unit b = search (and_both, given, map_small, turned)
    needs_small Evaluation b = map_small i (args ts l) (low_small i (omega arith))
    needs_small Congruence b = search equations_small
    needs_small Predicate b = search (and_both, given, equations_small)
    needs_small Read b = tt
    needs_small Skip b = search (and_both, none)
    needs_small Deep b = tt
    needs_small Unlisted b = tt
