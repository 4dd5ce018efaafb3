-- A search for an entry in a set, word by word, and in a word, member by member. Assumes nothing.
use Prim.Native.Nat.{ℕ, ◌+◌, ◌-◌, ◌/◌, ◌≤◌, ◌<◌, ◌^◌}
use native.Mathlib.Omega.{arith}
use mathlib.Core.Path.{◌≡◌, refl, sym, ap, ap₂, ◌∙◌}
use mathlib.Core.Bool.{Bool, true, false, not, ◌&&◌, ◌||◌}
use mathlib.Core.List.{List}
use lib.Dec.{eqb}
use lib.ListN.{get_or}
use lib.Bits.{bit_and}
use Rattle.calculus.specs.Terms.{prop}
use Rattle.calculus.specs.Trail.{Set, Trail, Entry, intersection, on, entry, decided_at, level_at, holds, first_order}
use Rattle.calculus.proofs.Entries.{entry_in}
use Rattle.calculus.specs.WellFormed.{Distinct, Within}
use Rattle.calculus.proofs.Facts.{both_true, true_T}
use Rattle.bitset.specs.Windows.{set_at}
use Rattle.bitset.proofs.Windows.{set_past}
use Rattle.bitset.specs.Members.{word_of, first_of, IsWord}
use Rattle.bitset.proofs.Members.{none_left, first_member, word_first, word_in, first_words, words_none, words_more, words_all, set_word, both_word}
use Rattle.calculus.proofs.Trails.{holds_yes, holds_empty, holds_skip, holds_union, holds_wider}
use Rattle.trail.proofs.Walks.{Rest, first_on, rest_next}

-- ---- an entry, by its look-ups

pub first_order_told : (tr : Trail) (ts : List ℕ) (t l m : ℕ) (d : Bool) → on tr t ≡ true → d ≡ decided_at tr t → (d ≡ true → l ≡ level_at tr t)
    → d && (not (prop ts t) && eqb l m) ≡ first_order ts m (entry tr t)
first_order_told tr ts t l m true o d_is l_is = rw (← d_is, l_is refl, (entry_in tr t (true_T _ o)).1) refl
first_order_told tr ts t l m false o d_is l_is = rw (← d_is) refl

-- ---- a word, member by member

-- of no member that is taken off p holds
pub record Walked (tr : Trail) (k x rest : ℕ) (p : Entry → Bool) : Type 0 where
  pub left : Rest tr k rest
  pub same : holds tr (word_of k x) p ≡ holds tr (word_of k rest) p

pub walk_start : {tr : Trail} {k x : ℕ} (p : Entry → Bool) → x < 2 ^ 64 → Within (word_of k x) tr → Walked tr k x x p
walk_start p s h = record { left = record { small = s; within = h }; same = refl }

module _ {tr : Trail} {k x rest : ℕ} {p : Entry → Bool} (u : Walked tr k x rest p) where
  pub walk_end : rest ≤ 0 → false ≡ holds tr (word_of k x) p
  walk_end h = sym (u.same ∙ ap (λ (s : Set). holds tr s p) (none_left k rest h) ∙ holds_empty tr p)

  module _ (more : 0 < rest) where
    pub walk_found : {r : Bool} → r ≡ p (entry tr (first_of k rest)) → r ≡ true → true ≡ holds tr (word_of k x) p
    walk_found e h =
        sym (u.same ∙ holds_yes (word_of k rest) p (first_of k rest) tr (first_member k rest more u.left.small) (first_on u.left more) (sym e ∙ h))

    pub walk_next : {r : Bool} → Distinct tr → r ≡ p (entry tr (first_of k rest)) → r ≡ false → Walked tr k x (bit_and rest (rest - 1)) p
    walk_next d e h =
        record {
          left = rest_next u.left more;
          same =
              u.same ∙ ap (λ (s : Set). holds tr s p) (word_first k rest more u.left.small)
              ∙ holds_skip (word_of k (bit_and rest (rest - 1))) p (first_of k rest) tr d (sym e ∙ h);
        }

-- ---- a set, word by word

-- the first k of w words hold none
pub record Passed (tr : Trail) (s : Set) (w k : ℕ) (p : Entry → Bool) : Type 0 where
  pub so_far : k ≤ w
  pub none : holds tr (first_words s k) p ≡ false

pub passed_start : (tr : Trail) (s : Set) (w : ℕ) (p : Entry → Bool) → Passed tr s w 0 p
passed_start tr s w p = record { so_far = omega arith; none = ap (λ (r : Set). holds tr r p) (words_none s) ∙ holds_empty tr p }

module _ {tr : Trail} {s : Set} {w k : ℕ} {p : Entry → Bool} (u : Passed tr s w k p) where
  pub passed_found : {r : Bool} (x : ℕ) → IsWord s k x → r ≡ holds tr (word_of k x) p → r ≡ true → true ≡ holds tr s p
  passed_found x i e h = sym (holds_wider tr (word_of k x) s p (λ v m. word_in s k x v i m) (sym e ∙ h))

  pub passed_more : {r : Bool} (x : ℕ) → k < w → IsWord s k x → r ≡ holds tr (word_of k x) p → r ≡ false → Passed tr s w (k + 1) p
  passed_more x l i e h =
      record {
        so_far = omega arith;
        none =
            ap (λ (r : Set). holds tr r p) (words_more s k x i) ∙ holds_union tr (first_words s k) (word_of k x) p
            ∙ ap₂ ◌||◌ u.none (sym e ∙ h);
      }

  pub passed_all : w ≤ k → ((v : ℕ) → w ≤ v / 64 → s v ≡ false) → false ≡ holds tr s p
  passed_all l past = sym (sym (ap (λ (r : Set). holds tr r p) (words_all s w k past l)) ∙ u.none)

-- ---- what two sets share

pub shared_word : (ws : List ℕ) (e f w k : ℕ) → k < w
    → IsWord (intersection (set_at ws e w) (set_at ws f w)) k (bit_and (get_or ws (e + k) 0) (get_or ws (f + k) 0))
shared_word ws e f w k l = both_word (set_at ws e w) (set_at ws f w) k _ _ (set_word ws e w k l) (set_word ws f w k l)

pub shared_within : (tr : Trail) (s r : Set) → Within s tr → Within (intersection s r) tr
shared_within tr s r h u m = h u (both_true (s u) (r u) m).0

pub shared_past : (ws : List ℕ) (e f w u : ℕ) → w ≤ u / 64 → intersection (set_at ws e w) (set_at ws f w) u ≡ false
shared_past ws e f w u l = rw (set_past ws e w u l)
