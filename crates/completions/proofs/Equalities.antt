-- The rules on equalities, functions and arrays: where some rows complete the premises, those that are needed do.
use mathlib.Core.Path.{◌≡◌, refl, sym, subst}
use mathlib.Core.Bool.{not}
use mathlib.Core.List.{List, [], ◌∷◌, ◌++◌}
use Prim.Native.Nat.{ℕ}
use native.Mathlib.Omega.{arith}
use lib.Dec.{T, eqb, ltb, eqb→eq, ltb→lt, eqb_refl, lit<, not_T}
use Rattle.calculus.specs.declared.Rule.TheVariants.{Same, Differ, Reflexivity, Symmetry, Transitivity, Congruence, Predicate, Read, Skip}
use Rattle.calculus.specs.Lists.{opposite}
use Rattle.calculus.specs.Sheets.{term_rows}
use Rattle.calculus.specs.Terms.{args, arg}
use Rattle.calculus.specs.Rules.{bare, single, double, leading, fits}
use Rattle.calculus.proofs.Facts.{facts}
use Rattle.completions.specs.Needs.{equations, needs}
use Rattle.completions.proofs.Openings.{chain, Complete, found_first, found_after, found_plain, none_open, one_open, two_open, first_open, equation_is, pairs_open}

unlike : (w : ℕ) → T (not (eqb w (opposite w)))
unlike w = not_T (eqb w (opposite w)) (λ h. let e = eqb→eq w (opposite w) h in omega arith)

module _ (ts : List ℕ) (l v : ℕ) where
  row_as : {a b : ℕ} → a ≡ b → T (ltb b (term_rows ts)) → T (ltb a (term_rows ts))
  row_as e h = subst (λ x. T (ltb x (term_rows ts))) (sym e) h

  -- ---- values: the second one is the first one, or its opposite

  pub open_same : Complete ts Same l v
  unfolding fits needs double
  open_same = two_open ts Same l v (λ h. h) (λ p h. h) (λ p q r ps h. h) (λ p q r t.
      let a : T (ltb (arg ts l 0) (term_rows ts)) = row_as {b = p.row} (search facts) (search chain) in
      let b : T (ltb (arg ts l 1) (term_rows ts)) = row_as {b = q.row} (search facts) (search chain) in (
        found_first ts Same l v 0 (lit< tt) 0 (lit< tt) (search (chain, eqb_refl) depth 9),
        found_after ts Same l v 0 (lit< tt) p [] (search (chain, eqb_refl) depth 9),
        found_after ts Same l v 0 (lit< tt) p (q ∷ []) (search chain),
      ))

  pub open_differ : Complete ts Differ l v
  unfolding fits needs double
  open_differ = two_open ts Differ l v (λ h. h) (λ p h. h) (λ p q r ps h. h) (λ p q r t.
      let a : T (ltb (arg ts l 0) (term_rows ts)) = row_as {b = p.row} (search facts) (search chain) in
      let b : T (ltb (arg ts l 1) (term_rows ts)) = row_as {b = q.row} (search facts) (search chain) in (
        found_first ts Differ l v 0 (lit< tt) 0 (lit< tt) (search (chain, eqb_refl) depth 9),
        found_after ts Differ l v 0 (lit< tt) p [] (search (chain, eqb_refl, unlike) depth 9),
        found_after ts Differ l v 0 (lit< tt) p (q ∷ []) (search chain),
      ))

  -- ---- no premise

  pub open_reflexivity : Complete ts Reflexivity l v
  unfolding fits needs bare
  open_reflexivity = none_open ts Reflexivity l v (λ p ps h. h) (found_first ts Reflexivity l v 0 (lit< tt) 0 (lit< tt))

  pub open_read : Complete ts Read l v
  unfolding fits needs bare
  open_read = none_open ts Read l v (λ p ps h. h) (found_first ts Read l v 0 (lit< tt) 0 (lit< tt))

  -- ---- equalities: any row of the same equality will do

  pub open_symmetry : Complete ts Symmetry l v
  unfolding fits needs single
  open_symmetry = one_open ts Symmetry l v (λ h. h) (λ p q ps h. h) (λ p r t.
      let e = equation_is ts (arg ts l 1) (arg ts l 0) p.row (search chain) (search chain) in (
        found_first ts Symmetry l v 0 (lit< tt) 0 (lit< tt) (search chain depth 9),
        found_after ts Symmetry l v 0 (lit< tt) p [] (search chain),
      ))

  pub open_skip : Complete ts Skip l v
  unfolding fits needs single
  open_skip = one_open ts Skip l v (λ h. h) (λ p q ps h. h) (λ p r t.
      let e = equation_is ts (arg ts (arg ts (arg ts l 0) 0) 1) (arg ts (arg ts l 0) 1) p.row (search chain) (search chain depth 12) in (
        found_first ts Skip l v 0 (lit< tt) 0 (lit< tt) (search chain depth 14),
        found_after ts Skip l v 0 (lit< tt) p [] (search chain),
      ))

  pub open_transitivity : Complete ts Transitivity l v
  unfolding fits needs double
  open_transitivity = two_open ts Transitivity l v (λ h. h) (λ p h. h) (λ p q r ps h. h) (λ p q r t.
      let e = equation_is ts (arg ts p.row 1) (arg ts l 1) q.row (search chain) (search chain) in (
        found_first ts Transitivity l v 0 (lit< tt) p.row (search (chain, ltb→lt)) (search chain depth 9),
        found_after ts Transitivity l v 0 (lit< tt) p [] (search chain depth 9),
        found_after ts Transitivity l v 0 (lit< tt) p (q ∷ []) (search chain),
      ))

  pub open_congruence : Complete ts Congruence l v
  unfolding fits needs
  open_congruence qs rs R h =
      let xs = args ts (arg ts l 0) in
      let ys = args ts (arg ts l 1) in
      let e = pairs_open ts xs ys qs rs R (search chain depth 9) in
      found_plain ts Congruence l v 0 (lit< tt) (equations ts xs ys) qs (lit< tt) (λ f. refl) (search chain depth 9)

  pub open_predicate : Complete ts Predicate l v
  unfolding fits needs leading
  open_predicate = first_open ts Predicate l v (λ h. h) (λ p us ws R t.
      let e = pairs_open ts (args ts p.row) (args ts l) [] (us ++ ws) (search chain) (search chain depth 9) in
      let f = pairs_open ts (args ts p.row) (args ts l) us ws (search chain) (search chain depth 9) in (
        found_first ts Predicate l v 0 (lit< tt) p.row (search (chain, ltb→lt)) (search (chain, eqb_refl) depth 9),
        found_after ts Predicate l v 0 (lit< tt) p us (search chain depth 9),
      ))
