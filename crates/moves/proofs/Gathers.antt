-- A set from a list of rows up to the first blank, one row more. Assumes nothing.
use Prim.Native.Nat.{ℕ, suc, ◌+◌, ◌<◌}
use native.Mathlib.Numerals.{add-one}
use mathlib.Core.Path.{◌≡◌, refl, sym, ap, ◌∙◌}
use mathlib.Core.Bool.{Bool, true, ◌||◌, or-false, or-true, or_assoc, or_comm}
use mathlib.Core.List.{List, [], ◌∷◌, ◌++◌}
use lib.Dec.{eqb}
use lib.ListN.{length, get_or, take, drop}
use lib.Seq.{take-suc, append_snoc}
use borrow.Author.Tests.{eq-eqb}
use Rattle.calculus.specs.Sheets.{blank}
use Rattle.calculus.specs.Lists.{has}
use Rattle.calculus.specs.Terms.{filled}
use Rattle.calculus.specs.Trail.{Set, empty, insert}
use Rattle.calculus.proofs.Walks.{left_blank, left_more, left_none}
use Rattle.bitset.specs.Windows.{set_at, Holds}
use Rattle.bitset.proofs.Windows.{only_twice}

has_append : (xs ys : List ℕ) (u : ℕ) → has (xs ++ ys) u ≡ has xs u || has ys u
has_append [] ys u = refl
has_append (x ∷ xs) ys u = ap (λ (b : Bool). eqb u x || b) (has_append xs ys u) ∙ sym (or_assoc (eqb u x) (has xs u) (has ys u))

append_nil : (xs : List ℕ) → xs ++ [] ≡ xs
append_nil [] = refl
append_nil (x ∷ xs) = ap (λ (l : List ℕ). x ∷ l) (append_nil xs)

-- after the first k rows, none of them blank
pub record Gathering (ws₀ ws : List ℕ) (b w : ℕ) (ps : List ℕ) (k : ℕ) : Type 0 where
  pub split : filled ps ≡ take k ps ++ filled (drop k ps)
  pub holds : Holds ws₀ ws b w (has (take k ps))

pub gather_none : (ws : List ℕ) (b w : ℕ) (ps : List ℕ) → set_at ws b w ≡ empty → Gathering ws ws b w ps 0
gather_none ws b w ps e = record { split = refl; holds = record { only = record { long = refl; rest = λ k o. refl }; set = e } }

module _ (ws₀ ws : List ℕ) (b w : ℕ) (ps : List ℕ) (k : ℕ) (h : k < length ps) (u : Gathering ws₀ ws b w ps k) where
  -- a blank ends it
  pub gather_blank : get_or ps k 0 ≡ blank → Holds ws₀ ws b w (has (filled ps))
  gather_blank q =
      let e : filled ps ≡ take k ps = u.split ∙ ap (λ (l : List ℕ). take k ps ++ l) (left_blank ps k h q) ∙ append_nil (take k ps) in
      record { only = u.holds.only; set = u.holds.set ∙ sym (ap has e) }

  module _ (ne : get_or ps k 0 ≡ blank → ⊥) where
    opened : filled ps ≡ take k ps ++ (get_or ps k 0 ∷ filled (drop (suc k) ps))
    opened = u.split ∙ ap (λ (l : List ℕ). take k ps ++ l) (left_more ps k h ne)

    pub gather_in : has (filled ps) (get_or ps k 0) ≡ true
    gather_in =
        ap (λ (l : List ℕ). has l (get_or ps k 0)) opened
        ∙ has_append (take k ps) _ (get_or ps k 0)
        ∙ ap (λ (x : Bool). has (take k ps) (get_or ps k 0) || (x || has (filled (drop (suc k) ps)) (get_or ps k 0)))
        (eq-eqb (get_or ps k 0) (get_or ps k 0) refl)
        ∙ or-true (has (take k ps) (get_or ps k 0))

    pub gather_more : (vs : List ℕ) → Holds ws vs b w (insert (set_at ws b w) (get_or ps k 0)) → Gathering ws₀ vs b w ps (k + 1)
    gather_more vs two =
        rw add-one
        (record {
          split =
              opened ∙ sym (append_snoc (take k ps) (get_or ps k 0) (filled (drop (suc k) ps)))
              ∙ ap (λ (l : List ℕ). l ++ filled (drop (suc k) ps)) (sym (take-suc ps k 0 h));
          holds =
              record {
                only = only_twice ws₀ ws vs b w u.holds.only two.only;
                set =
                    two.set
                    ∙ ap (λ (s : Set). insert s (get_or ps k 0)) u.holds.set
                    ∙ (λ i v. one v i)
                    ∙ sym (ap has (take-suc ps k 0 h));
              };
        })
      where
        one : (v : ℕ) → insert (has (take k ps)) (get_or ps k 0) v ≡ has (take k ps ++ (get_or ps k 0 ∷ [])) v
        one v = sym (has_append (take k ps) (get_or ps k 0 ∷ []) v ∙ ap (λ (x : Bool). has (take k ps) v || x) (or-false (eqb v (get_or ps k 0))))

pub gather_all : (ws₀ ws : List ℕ) (b w : ℕ) (ps : List ℕ) (k : ℕ) → k ≡ length ps → Gathering ws₀ ws b w ps k → Holds ws₀ ws b w (has (filled ps))
gather_all ws₀ ws b w ps k q u =
    let e : filled ps ≡ take k ps = u.split ∙ ap (λ (l : List ℕ). take k ps ++ l) (left_none ps k q) ∙ append_nil (take k ps) in
    record { only = u.holds.only; set = u.holds.set ∙ sym (ap has e) }

-- one more in front
pub has_front : (s : Set) (l : ℕ) (ps : List ℕ) → s ≡ has ps → insert s l ≡ has (l ∷ ps)
has_front s l ps e = ap (λ (r : Set). insert r l) e ∙ (λ i u. or_comm (has ps u) (eqb u l) i)
