-- The rows of a list up to the first blank, removed from a set one after the other. Assumes nothing.
use Prim.Native.Nat.{ℕ, suc, ◌+◌, ◌≤◌, ◌<◌}
use native.Mathlib.Numerals.{add-one}
use native.Mathlib.Omega.{arith}
use mathlib.Core.Path.{◌≡◌, refl, sym, ap, ◌∙◌}
use mathlib.Core.List.{List}
use lib.ListN.{length, get_or, drop}
use Rattle.calculus.specs.Sheets.{blank}
use Rattle.calculus.specs.Terms.{filled}
use Rattle.calculus.specs.Trail.{Set, empty, remove, without}
use Rattle.calculus.proofs.Walks.{left_blank, left_more, left_none}
use Rattle.calculus.proofs.Trails.{without_none, without_more}

-- nothing is removed from nothing
pub empty_rest : (s : Set) (ps : List ℕ) → s ≡ empty → s ≡ without s ps
empty_rest s ps e = e ∙ sym (ap (λ (r : Set). without r ps) e)

-- after the first k of ps, none of them blank, r is left of s: the others are still to be removed
pub record Removing (s : Set) (ps : List ℕ) (k : ℕ) (r : Set) : Type 0 where
  pub so_far : k ≤ length ps
  pub left : without s (filled ps) ≡ without r (filled (drop k ps))

pub removing_none : (s : Set) (ps : List ℕ) → Removing s ps 0 s
removing_none s ps = record { so_far = omega arith; left = refl }

module _ {s r : Set} {ps : List ℕ} {k : ℕ} (u : Removing s ps k r) where
  module _ (h : k < length ps) where
    -- a blank ends it
    pub removed_blank : get_or ps k 0 ≡ blank → r ≡ without s (filled ps)
    removed_blank q = sym (u.left ∙ ap (without r) (left_blank ps k h q) ∙ without_none r)

    pub removed_more : (get_or ps k 0 ≡ blank → ⊥) → {v : Set} → v ≡ remove r (get_or ps k 0) → Removing s ps (k + 1) v
    removed_more ne e =
        record {
          so_far = omega arith;
          left = rw (add-one, e) (u.left ∙ ap (without r) (left_more ps k h ne) ∙ without_more r (get_or ps k 0) (filled (drop (suc k) ps)));
        }

  pub removed_all : k ≡ length ps → r ≡ without s (filled ps)
  removed_all q = sym (u.left ∙ ap (without r) (left_none ps k q) ∙ without_none r)
