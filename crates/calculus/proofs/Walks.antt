-- A list of columns walked up to the first blank: what is left of it, and of tests over it.
use mathlib.Core.Path.{◌≡◌, refl, sym, ap, ◌∙◌}
use mathlib.Core.Bool.{Bool, true, false, not, ◌&&◌, ◌||◌}
use mathlib.Core.List.{List, [], ◌∷◌}
use Prim.Native.Nat.{ℕ, suc, ◌+◌, ◌≤◌, ◌<◌}
use native.Mathlib.Numerals.{add-one}
use native.Mathlib.Omega.{arith}
use lib.Dec.{eqb}
use lib.ListN.{length, get_or, drop}
use lib.Seq.{drop-cons, drop-length}
use borrow.Author.Tests.{eq-eqb, ne_eqb}
use Rattle.calculus.specs.Lists.{all, has}
use Rattle.calculus.specs.Sheets.{blank}
use Rattle.calculus.specs.Terms.{filled}
use Rattle.calculus.specs.Clauses.{different}
use Rattle.calculus.proofs.Facts.{both_true}

-- ---- the columns from k on

module _ (ps : List ℕ) (k : ℕ) where
  -- a blank ends them
  pub left_blank : k < length ps → get_or ps k 0 ≡ blank → filled (drop k ps) ≡ []
  left_blank h q = ap filled (drop-cons ps k 0 h) ∙ rw (eq-eqb _ _ q)

  -- one that is filled is the first of them
  pub left_more : k < length ps → (get_or ps k 0 ≡ blank → ⊥) → filled (drop k ps) ≡ get_or ps k 0 ∷ filled (drop (suc k) ps)
  left_more h ne = ap filled (drop-cons ps k 0 h) ∙ rw (ne_eqb _ _ ne)

  -- and none is past the last
  pub left_none : k ≡ length ps → filled (drop k ps) ≡ []
  left_none q = ap filled (ap (λ (i : ℕ). drop i ps) q ∙ drop-length ps)

-- ---- a test of all of them

-- the first k of ps, none of them blank, pass the test p; b is the answer for all from the start on
pub record Passed (p : ℕ → Bool) (b : Bool) (ps : List ℕ) (k : ℕ) : Type 0 where
  pub so_far : k ≤ length ps
  pub left : b ≡ all p (filled (drop k ps))

module _ {p : ℕ → Bool} {b : Bool} {ps : List ℕ} {k : ℕ} (u : Passed p b ps k) where
  pub passed_blank : k < length ps → get_or ps k 0 ≡ blank → true ≡ b
  passed_blank h q = sym (u.left ∙ ap (all p) (left_blank ps k h q))

  pub passed_all : length ps ≤ k → true ≡ b
  passed_all h = sym (u.left ∙ ap (all p) (left_none ps k (omega (arith, u.so_far))))

  module _ (h : k < length ps) (ne : get_or ps k 0 ≡ blank → ⊥) where
    first_then : b ≡ p (get_or ps k 0) && all p (filled (drop (suc k) ps))
    first_then = u.left ∙ ap (all p) (left_more ps k h ne)

    pub passed_more : p (get_or ps k 0) ≡ true → Passed p b ps (k + 1)
    passed_more e = record { so_far = omega arith; left = rw add-one (first_then ∙ rw e) }

    pub passed_no : p (get_or ps k 0) ≡ false → false ≡ b
    passed_no e = sym (first_then ∙ rw e)

-- where all pass, the next one does
pub passed_at : {p : ℕ → Bool} {ps : List ℕ} {k : ℕ} → Passed p true ps k → k < length ps → (get_or ps k 0 ≡ blank → ⊥)
    → (p (get_or ps k 0) ≡ true) × Passed p true ps (k + 1)
passed_at {p} {ps} {k} u h ne =
    let e : p (get_or ps k 0) ≡ true = (both_true (p (get_or ps k 0)) _ (sym (first_then u h ne))).0 in
    (e, passed_more u h ne e)

-- ---- whether none stands twice

-- x is none of xs
pub not_has : (x : ℕ) (xs : List ℕ) → all (λ y. not (eqb x y)) xs ≡ not (has xs x)
not_has x [] = refl
not_has x (y ∷ ys) = go (eqb x y) (not_has x ys)
  where
    go : (g : Bool) → all (λ y. not (eqb x y)) ys ≡ not (has ys x) → not g && all (λ y. not (eqb x y)) ys ≡ not (g || has ys x)
    go true e = refl
    go false e = e

-- the first k of ps, none of them blank, stand once
pub record Once (ps : List ℕ) (k : ℕ) : Type 0 where
  pub so_far : k ≤ length ps
  pub left : different (filled ps) ≡ different (filled (drop k ps))

pub once_none : (ps : List ℕ) → Once ps 0
once_none ps = record { so_far = omega arith; left = refl }

module _ {ps : List ℕ} {k : ℕ} (u : Once ps k) where
  pub once_blank : k < length ps → get_or ps k 0 ≡ blank → true ≡ different (filled ps)
  once_blank h q = sym (u.left ∙ ap different (left_blank ps k h q))

  pub once_all : length ps ≤ k → true ≡ different (filled ps)
  once_all h = sym (u.left ∙ ap different (left_none ps k (omega (arith, u.so_far))))

  module _ (h : k < length ps) (ne : get_or ps k 0 ≡ blank → ⊥) {g : Bool}
      (g_is : g ≡ all (λ y. not (eqb (get_or ps k 0) y)) (filled (drop (k + 1) ps))) where
    apart_then : different (filled ps) ≡ g && different (filled (drop (suc k) ps))
    apart_then =
        let apart : g ≡ not (has (filled (drop (suc k) ps)) (get_or ps k 0)) = rw add-one at g_is ∙ not_has (get_or ps k 0) (filled (drop (suc k) ps)) in
        u.left ∙ ap different (left_more ps k h ne) ∙ ap (λ (b : Bool). b && different (filled (drop (suc k) ps))) (sym apart)

    pub once_more : g ≡ true → Once ps (k + 1)
    once_more e = record { so_far = omega arith; left = rw add-one (apart_then ∙ rw e) }

    pub once_no : g ≡ false → false ≡ different (filled ps)
    once_no e = sym (apart_then ∙ rw e)
