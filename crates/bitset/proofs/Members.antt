-- The members of a set word by word, and of a word from its lowest bit up. Assumes nothing.
use Prim.Native.Nat.{ℕ, ◌+◌, ◌-◌, ◌*◌, ◌/◌, ◌%◌, ◌^◌, ◌≤◌, ◌<◌}
use native.Mathlib.Omega.{arith}
use mathlib.Core.Path.{◌≡◌, sym, ap, ap₂, ◌∙◌}
use mathlib.Core.Logic.{⊎_elim}
use mathlib.Core.Bool.{Bool, true, false, not, ◌&&◌, ◌||◌, and-true, and-false, or-false, and-or_distrib_left}
use mathlib.Core.List.{List}
use lib.Dec.{eqb, ltb}
use lib.ListN.{get_or}
use lib.Bits.{bit_and, and_le_r}
use lib.Count.{count_trailing_zeros}
use borrow.Author.Tests.{eqb-true, eqb-false, eq-eqb, ne_eqb, ltb-true, ltb-false, lt-ltb, le-ltb}
use Rattle.calculus.proofs.Facts.{is_or_not, both_true}
use Rattle.calculus.specs.Trail.{Set, empty, insert, remove, union, intersection}
use Rattle.bitset.specs.Windows.{bit_at, set_at}
use Rattle.bitset.specs.Members.{word_of, first_of, IsWord}
use Rattle.bitset.proofs.Bits.{bit_at_and, bit_cleared, bit_zero, bit_first, bit_rest, zeros_less}
use Rattle.bitset.proofs.Windows.{set_in, same_row}

-- ---- the members of a word

pub none_left : (k x : ℕ) → x ≤ 0 → word_of k x ≡ empty
unfolding word_of
none_left k x h i u =
    let e : x ≡ 0 = omega arith in
    (ap (λ (y : ℕ). eqb (u / 64) k && bit_at y (u % 64)) e ∙ ap (◌&&◌ (eqb (u / 64) k)) (bit_zero (u % 64)) ∙ and-false (eqb (u / 64) k)) i

module _ (k x : ℕ) (p : 0 < x) (small : x < 2 ^ 64) where
  first_in : count_trailing_zeros 64 x < 64
  first_in = zeros_less 64 x p small

  first_word : first_of k x / 64 ≡ k
  first_word = omega (arith, first_in)

  first_bit : first_of k x % 64 ≡ count_trailing_zeros 64 x
  first_bit = omega (arith, first_in)

  pub first_member : word_of k x (first_of k x) ≡ true
  unfolding word_of
  first_member = ap₂ ◌&&◌ (eq-eqb _ k first_word) (ap (bit_at x) first_bit ∙ bit_first x p small)

  -- the law that every walk over a word rests on: a word is the word with its lowest bit taken off, and the row of that bit
  take_first : (u : ℕ) → word_of k x u ≡ insert (word_of k (bit_and x (x - 1))) (first_of k x) u
  unfolding word_of
  take_first u =
      ⊎_elim
      (λ q. let e : u / 64 ≡ k = eqb-true _ _ q in
      let r : eqb (u % 64) (count_trailing_zeros 64 x) ≡ eqb u (first_of k x) = ap (eqb (u % 64)) (sym first_bit)
      ∙ same_row u (first_of k x) (e ∙ sym first_word) in
      rw q (bit_rest x p small (u % 64) ∙ ap (◌||◌ (bit_at (bit_and x (x - 1)) (u % 64))) r))
      (λ q. let n : u / 64 ≡ k → ⊥ = eqb-false _ _ q in
      rw q (sym (ne_eqb u (first_of k x) (λ e. n (ap (λ (v : ℕ). v / 64) e ∙ first_word)))))
      (is_or_not (eqb (u / 64) k))

  pub word_first : word_of k x ≡ insert (word_of k (bit_and x (x - 1))) (first_of k x)
  word_first i u = take_first u i

  pub rest_less : bit_and x (x - 1) < x
  rest_less = omega (arith, and_le_r x (x - 1))

  pub rest_in : (u : ℕ) → word_of k (bit_and x (x - 1)) u ≡ true → word_of k x u ≡ true
  rest_in u h = take_first u ∙ ap (λ (b : Bool). b || eqb u (first_of k x)) h

-- ---- a word without a row

by_bits : (k x y a : ℕ) → ((u : ℕ) → u / 64 ≡ k → bit_at y (u % 64) ≡ bit_at x (u % 64) && not (eqb u a)) → (u : ℕ) → word_of k y u ≡ remove (word_of k x) a u
unfolding word_of
by_bits k x y a f u = ⊎_elim (λ q. rw q (f u (eqb-true _ _ q))) (λ q. rw q) (is_or_not (eqb (u / 64) k))

pub word_less : (k x a : ℕ) → a / 64 ≡ k → word_of k (bit_and x (2 ^ 64 - 1 - 1 * 2 ^ (a % 64) % 2 ^ 64)) ≡ remove (word_of k x) a
word_less k x a h i u =
    by_bits k x _ a
    (λ v e. bit_cleared x (a % 64) (omega arith) (v % 64) (omega arith) ∙ ap (λ (b : Bool). bit_at x (v % 64) && not b) (same_row v a (e ∙ sym h)))
    u i

pub word_other : (k x a : ℕ) → (a / 64 ≡ k → ⊥) → word_of k x ≡ remove (word_of k x) a
word_other k x a h i u =
    by_bits k x x a
    (λ v e. sym (ap (λ (b : Bool). bit_at x (v % 64) && not b) (ne_eqb v a (λ q. h (ap (λ (n : ℕ). n / 64) (sym q) ∙ e))) ∙ and-true (bit_at x (v % 64))))
    u i

-- ---- words of a set

pub word_in : (s : Set) (k x u : ℕ) → IsWord s k x → word_of k x u ≡ true → s u ≡ true
unfolding word_of
word_in s k x u w h = let b = both_true (eqb (u / 64) k) (bit_at x (u % 64)) h in w u (eqb-true _ _ b.0) ∙ b.1

pub set_word : (ws : List ℕ) (b w k : ℕ) → k < w → IsWord (set_at ws b w) k (get_or ws (b + k) 0)
set_word ws b w k h u e = set_in ws b w u (omega arith) ∙ ap (λ (j : ℕ). bit_at (get_or ws (b + j) 0) (u % 64)) e

pub both_word : (s r : Set) (k x y : ℕ) → IsWord s k x → IsWord r k y → IsWord (intersection s r) k (bit_and x y)
both_word s r k x y p q u e = ap₂ ◌&&◌ (p u e) (q u e) ∙ sym (bit_at_and x y (u % 64))

-- the word of what s shares with r is what its word shares with r; so of s without a row, or without several
pub part_word : (s r : Set) (k x y : ℕ) → IsWord s k x → word_of k y ≡ intersection (word_of k x) r → IsWord (intersection s r) k y
unfolding word_of
part_word s r k x y p h u e =
    let here : eqb (u / 64) k ≡ true = eq-eqb _ _ e in
    let same : eqb (u / 64) k && bit_at y (u % 64) ≡ (eqb (u / 64) k && bit_at x (u % 64)) && r u = ap (λ (v : Set). v u) h in
    ap (λ (b : Bool). b && r u) (p u e) ∙ sym (rw here at same)

-- ---- the members in the first words

unfoldable pub first_words : Set → ℕ → Set
first_words s k = λ u. s u && ltb (u / 64) k

pub words_none : (s : Set) → first_words s 0 ≡ empty
unfolding first_words
words_none s i u = (ap (◌&&◌ (s u)) (le-ltb (u / 64) 0 (omega arith)) ∙ and-false (s u)) i

one_word : (a k : ℕ) → ltb a (k + 1) ≡ ltb a k || eqb a k
one_word a k =
    ⊎_elim
    (λ q. let e : a ≡ k = eqb-true a k q in rw (q, lt-ltb a (k + 1) (omega arith)) (⊎_elim (λ b. rw b) (λ b. rw b) (is_or_not (ltb a k))))
    (λ q. let n : a ≡ k → ⊥ = eqb-false a k q in
    rw (q, or-false (ltb a k)) (⊎_elim
    (λ b. b ∙ sym (lt-ltb a k (let l : a < k + 1 = ltb-true _ _ b in omega arith)))
    (λ b. b ∙ sym (le-ltb a k (let l : k + 1 ≤ a = ltb-false _ _ b in omega arith)))
    (is_or_not (ltb a (k + 1)))))
    (is_or_not (eqb a k))

pub words_more : (s : Set) (k x : ℕ) → IsWord s k x → first_words s (k + 1) ≡ union (first_words s k) (word_of k x)
unfolding first_words word_of
words_more s k x w i u =
    let here : s u && eqb (u / 64) k ≡ eqb (u / 64) k && bit_at x (u % 64) = ⊎_elim
    (λ q. rw q (and-true (s u) ∙ w u (eqb-true _ _ q)))
    (λ q. rw q (and-false (s u)))
    (is_or_not (eqb (u / 64) k)) in
    (ap (◌&&◌ (s u)) (one_word (u / 64) k)
    ∙ and-or_distrib_left (s u) (ltb (u / 64) k) (eqb (u / 64) k)
    ∙ ap (◌||◌ (s u && ltb (u / 64) k)) here)
    i

all_words : (s : Set) (w k : ℕ) → ((u : ℕ) → w ≤ u / 64 → s u ≡ false) → w ≤ k → (u : ℕ) → first_words s k u ≡ s u
unfolding first_words
all_words s w k past h u =
    ⊎_elim
    (λ b. rw b (and-true (s u)))
    (λ b. let l : k ≤ u / 64 = ltb-false _ _ b in let n : s u ≡ false = past u (omega arith) in rw n)
    (is_or_not (ltb (u / 64) k))

pub words_all : (s : Set) (w k : ℕ) → ((u : ℕ) → w ≤ u / 64 → s u ≡ false) → w ≤ k → first_words s k ≡ s
words_all s w k past h i u = all_words s w k past h u i
