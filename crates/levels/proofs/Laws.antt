-- The level of a set, word by word, and of a word, member by member. Assumes nothing.
use Prim.Native.Nat.{ℕ, ◌+◌, ◌-◌, ◌/◌, ◌≤◌, ◌<◌, ◌^◌, max}
use native.Mathlib.Omega.{arith}
use mathlib.Core.Path.{◌≡◌, refl, sym, ap, ◌∙◌}
use mathlib.Core.Bool.{false}
use mathlib.Core.List.{List}
use lib.Bits.{bit_and}
use Rattle.calculus.specs.Trail.{Set, Trail, intersection, level_of, level_at}
use Rattle.calculus.specs.WellFormed.{Distinct, Within}
use Rattle.calculus.proofs.Facts.{both_true}
use Rattle.bitset.specs.Windows.{set_at}
use Rattle.bitset.proofs.Windows.{set_past}
use Rattle.bitset.specs.Members.{word_of, first_of, IsWord}
use Rattle.bitset.proofs.Members.{none_left, word_first, first_words, words_none, words_more, words_all}
use Rattle.calculus.proofs.Entries.{level_empty}
use Rattle.calculus.proofs.Trails.{level_insert, level_union}
use Rattle.trail.proofs.Walks.{Rest, rest_next}

-- ---- a word, member by member

-- `most` has the levels of the members that are taken off
pub record Walked (tr : Trail) (k x top rest most : ℕ) : Type 0 where
  pub left : Rest tr k rest
  pub same : max top (level_of tr (word_of k x)) ≡ max most (level_of tr (word_of k rest))

pub walk_start : {tr : Trail} {k x : ℕ} (top : ℕ) → x < 2 ^ 64 → Within (word_of k x) tr → Walked tr k x top x top
walk_start top s h = record { left = record { small = s; within = h }; same = refl }

pub walk_next : {tr : Trail} {k x top rest most : ℕ} → Distinct tr → Walked tr k x top rest most → 0 < rest
    → Walked tr k x top (bit_and rest (rest - 1)) (max most (level_at tr (first_of k rest)))
walk_next {tr} {k} {x} {top} {rest} {most} d u p =
    record {
      left = rest_next u.left p;
      same =
          u.same
          ∙ ap (λ (s : Set). max most (level_of tr s)) (word_first k rest p u.left.small)
          ∙ ap (max most) (level_insert (word_of k (bit_and rest (rest - 1))) (first_of k rest) tr d)
          ∙ swap most (level_of tr (word_of k (bit_and rest (rest - 1)))) (level_at tr (first_of k rest));
    }
  where
    swap : (a b c : ℕ) → max a (max b c) ≡ max (max a c) b
    swap a b c = omega arith

pub walk_end : {tr : Trail} {k x top rest most : ℕ} → Walked tr k x top rest most → rest ≤ 0 → most ≡ max top (level_of tr (word_of k x))
walk_end {tr} {k} {x} {top} {rest} {most} u p =
    sym (u.same ∙ ap (λ (s : Set). max most (level_of tr s)) (none_left k rest p) ∙ ap (max most) (level_empty tr) ∙ none most)
  where
    none : (a : ℕ) → max a 0 ≡ a
    none a = omega arith

-- ---- a set, word by word

-- the greatest level so far is that of the members in the first k of w words
pub record Levels (tr : Trail) (s : Set) (w k top : ℕ) : Type 0 where
  pub so_far : k ≤ w
  pub level : top ≡ level_of tr (first_words s k)

pub levels_start : (tr : Trail) (s : Set) (w : ℕ) → Levels tr s w 0 0
levels_start tr s w = record { so_far = omega arith; level = sym (ap (level_of tr) (words_none s) ∙ level_empty tr) }

pub levels_more : {tr : Trail} {s : Set} {w k top r : ℕ} (x : ℕ) → Levels tr s w k top → k < w → IsWord s k x → r ≡ max top (level_of tr (word_of k x))
    → Levels tr s w (k + 1) r
levels_more {tr} {s} {w} {k} {top} x u l h e =
    record {
      so_far = omega arith;
      level =
          e ∙ ap (λ (m : ℕ). max m (level_of tr (word_of k x))) u.level
          ∙ sym (ap (level_of tr) (words_more s k x h) ∙ level_union tr (first_words s k) (word_of k x));
    }

pub levels_all : {tr : Trail} {s : Set} {w k top : ℕ} → Levels tr s w k top → w ≤ k → ((u : ℕ) → w ≤ u / 64 → s u ≡ false) → top ≡ level_of tr s
levels_all {tr} {s} {w} {k} u l past = u.level ∙ ap (level_of tr) (words_all s w k past l)

-- ---- a part of a set: without a row, or without several

pub part_within : (tr : Trail) (s r : Set) → Within s tr → Within (intersection s r) tr
part_within tr s r h u m = h u (both_true (s u) (r u) m).0

pub part_past : (ws : List ℕ) (e w : ℕ) (r : Set) (u : ℕ) → w ≤ u / 64 → intersection (set_at ws e w) r u ≡ false
part_past ws e w r u l = rw (set_past ws e w u l)
