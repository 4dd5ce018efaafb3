-- The bits of a word: of two words or-ed and and-ed, of a word less another, of a power of 2, of a word with a bit set or cleared, and the lowest
-- bit that is set. Assumes nothing.
use Prim.Native.Nat.{ℕ, zero, suc, ◌+◌, ◌-◌, ◌*◌, ◌/◌, ◌%◌, ◌^◌, ◌≤◌, ◌<◌, min, max}
use native.Mathlib.Nat.{eq-or-lt_of_le, add-div_right}
use native.Mathlib.Omega.{arith}
use mathlib.Core.Path.{◌≡◌, refl, sym, ap, ◌∙◌}
use mathlib.Core.Logic.{⊎_elim}
use mathlib.Core.Bool.{Bool, true, false, ◌&&◌, ◌||◌, not, and_self, and-true, and-false, or-false, or-true}
use lib.Dec.{eqb, ltb}
use lib.Pow.{pow_pos, shr-shr, shr_lt, shr_mono}
use lib.Count.{count_trailing_zeros, under}
use lib.Bits.{bit_and, bit_or, bit_xor}
use borrow.Author.Tests.{eq-eqb, ne_eqb, eqb-true, eqb-false, ltb-true, ltb-false}
use Rattle.std.specs.Int.{w64}
use Rattle.std.proofs.lemmas.Nat.Bits as std
use Rattle.calculus.proofs.Facts.{is_or_not}
use Rattle.bitset.specs.Windows.{bit_at}

-- ---- two words, digit by digit

or_digit : (x y : ℕ) → x < 2 → y < 2 → eqb (max x y) 1 ≡ eqb x 1 || eqb y 1
or_digit zero zero p q = refl
or_digit zero (suc zero) p q = refl
or_digit (suc zero) zero p q = refl
or_digit (suc zero) (suc zero) p q = refl
or_digit zero (suc (suc y)) p q = absurd (omega arith)
or_digit (suc zero) (suc (suc y)) p q = absurd (omega arith)
or_digit (suc (suc x)) y p q = absurd (omega arith)

and_digit : (x y : ℕ) → x < 2 → y < 2 → eqb (min x y) 1 ≡ eqb x 1 && eqb y 1
and_digit zero zero p q = refl
and_digit zero (suc zero) p q = refl
and_digit (suc zero) zero p q = refl
and_digit (suc zero) (suc zero) p q = refl
and_digit zero (suc (suc y)) p q = absurd (omega arith)
and_digit (suc zero) (suc (suc y)) p q = absurd (omega arith)
and_digit (suc (suc x)) y p q = absurd (omega arith)

-- x less what it shares with y
less_digit : (x y : ℕ) → x < 2 → y < 2 → eqb ((x + min x y) % 2) 1 ≡ eqb x 1 && not (eqb y 1)
less_digit zero zero p q = refl
less_digit zero (suc zero) p q = refl
less_digit (suc zero) zero p q = refl
less_digit (suc zero) (suc zero) p q = refl
less_digit zero (suc (suc y)) p q = absurd (omega arith)
less_digit (suc zero) (suc (suc y)) p q = absurd (omega arith)
less_digit (suc (suc x)) y p q = absurd (omega arith)

pub bit_at_or : (a b k : ℕ) → bit_at (bit_or a b) k ≡ bit_at a k || bit_at b k
unfolding bit_at
bit_at_or a b k = ap (λ (x : ℕ). eqb x 1) (std.bit_at_or a b k) ∙ or_digit _ _ (std.bit_at-lt a k) (std.bit_at-lt b k)

pub bit_at_and : (a b k : ℕ) → bit_at (bit_and a b) k ≡ bit_at a k && bit_at b k
unfolding bit_at
bit_at_and a b k = ap (λ (x : ℕ). eqb x 1) (std.bit_at_and a b k) ∙ and_digit _ _ (std.bit_at-lt a k) (std.bit_at-lt b k)

pub bit_less : (a b k : ℕ) → bit_at (bit_xor a (bit_and a b)) k ≡ bit_at a k && not (bit_at b k)
unfolding bit_at
bit_less a b k =
    ap (λ (x : ℕ). eqb x 1) (std.bit_at_xor a (bit_and a b) k)
    ∙ ap (λ (x : ℕ). eqb ((a / 2 ^ k % 2 + x) % 2) 1) (std.bit_at_and a b k)
    ∙ less_digit _ _ (std.bit_at-lt a k) (std.bit_at-lt b k)

pub bit_pow : (j k : ℕ) → bit_at (2 ^ k) j ≡ eqb j k
unfolding bit_at
bit_pow j k =
    ⊎_elim
    (λ e. let q : j ≡ k = eqb-true j k e in rw (e, q) (ap (λ (n : ℕ). eqb n 1) (std.bit_at-pow_same k)))
    (λ e. rw e (ap (λ (n : ℕ). eqb n 1) (std.bit_at-pow_other k j (eqb-false j k e))))
    (is_or_not (eqb j k))

-- no bit of 0 is set
pub bit_zero : (k : ℕ) → bit_at 0 k ≡ false
unfolding bit_at
bit_zero k = ap (λ (n : ℕ). eqb n 1) (std.bit_at-zero k)

-- ---- bit j of a word set, and cleared: as the code's a | 1 << j and a & !(1 << j) compute

module _ (a j : ℕ) (h : j < 64) where
  pub bit_set : (k : ℕ) → bit_at (bit_or a (1 * 2 ^ j % 2 ^ 64)) k ≡ bit_at a k || eqb k j
  unfolding bit_at
  bit_set k =
      ⊎_elim
      (λ e. let q : k ≡ j = eqb-true k j e in
      rw (e, q) (ap (λ (n : ℕ). eqb n 1) (std.bit_at_set_same w64 a j h) ∙ sym (or-true _)))
      (λ e. rw e (ap (λ (n : ℕ). eqb n 1) (std.bit_at_set_other w64 a j h k (eqb-false k j e)) ∙ sym (or-false _)))
      (is_or_not (eqb k j))

  pub bit_cleared : (k : ℕ) → k < 64 → bit_at (bit_and a (2 ^ 64 - 1 - 1 * 2 ^ j % 2 ^ 64)) k ≡ bit_at a k && not (eqb k j)
  unfolding bit_at
  bit_cleared k l =
      ⊎_elim
      (λ e. let q : k ≡ j = eqb-true k j e in
      rw (e, q) (ap (λ (n : ℕ). eqb n 1) (std.bit_at_clear_same w64 a j h) ∙ sym (and-false _)))
      (λ e. rw e (ap (λ (n : ℕ). eqb n 1) (std.bit_at_clear_other w64 a j h k l (eqb-false k j e)) ∙ sym (and-true _)))
      (is_or_not (eqb k j))

-- ---- the lowest digit that is 1

below_step : (n z j d : ℕ) → ((i : ℕ) → i < z → n / 2 / 2 ^ i % 2 ≡ 0) → n % 2 ≡ d → j < under d z → n / 2 ^ j % 2 ≡ 0
below_step n z zero zero f e h = std.bit_at_lowest n ∙ e
below_step n z (suc j) zero f e h = std.bit_at-suc n j ∙ f j (omega arith)
below_step n z j (suc d) f e h = absurd (omega arith)

-- the digits below it are 0
pub zeros_below : (k n j : ℕ) → j < count_trailing_zeros k n → n / 2 ^ j % 2 ≡ 0
unfolding count_trailing_zeros
zeros_below zero n j h = absurd (omega arith)
zeros_below (suc k) n j h = below_step n (count_trailing_zeros k (n / 2)) j (n % 2) (zeros_below k (n / 2)) refl h

at_step : (n z k d : ℕ) → (z < k → n / 2 / 2 ^ z % 2 ≡ 1) → n % 2 ≡ d → under d z < suc k → n / 2 ^ (under d z) % 2 ≡ 1
at_step n z k zero f e h = std.bit_at-suc n z ∙ f (omega arith)
at_step n z k (suc zero) f e h = std.bit_at_lowest n ∙ e
at_step n z k (suc (suc d)) f e h = absurd (omega arith)

-- it is 1
pub one_at : (k n : ℕ) → count_trailing_zeros k n < k → n / 2 ^ count_trailing_zeros k n % 2 ≡ 1
unfolding count_trailing_zeros
one_at zero n h = absurd (omega arith)
one_at (suc k) n h = at_step n (count_trailing_zeros k (n / 2)) k (n % 2) (one_at k (n / 2)) refl h

less_step : (n z k d : ℕ) → (0 < n / 2 → z < k) → n % 2 ≡ d → 0 < n → under d z < suc k
less_step n z k zero f e p = let q = f (omega arith) in omega arith
less_step n z k (suc d) f e p = omega arith

-- a number of k digits that is not 0 has one
pub zeros_less : (k n : ℕ) → 0 < n → n < 2 ^ k → count_trailing_zeros k n < k
unfolding count_trailing_zeros
zeros_less zero n p h = absurd (omega arith)
zeros_less (suc k) n p h =
    let e : suc k ≡ k + 1 = omega arith in
    less_step n (count_trailing_zeros k (n / 2)) k (n % 2) (λ q. zeros_less k (n / 2) q (shr_lt k 1 (rw e at h))) refl p

-- ---- the same of bits

pub bit_below : (x j : ℕ) → j < count_trailing_zeros 64 x → bit_at x j ≡ false
unfolding bit_at
bit_below x j h = ap (λ (d : ℕ). eqb d 1) (zeros_below 64 x j h)

-- ---- the lowest bit that is set, and that bit taken off

-- one less: at most one less shifted
shift_pred : (x j : ℕ) → 0 < x → (x / 2 ^ j ≤ (x - 1) / 2 ^ j + 1) × ((x - 1) / 2 ^ j ≤ x / 2 ^ j)
shift_pred x j p =
    let u : x / 2 ^ j ≤ (x - 1 + 2 ^ j) / 2 ^ j = shr_mono j (omega (arith, pow_pos j)) in
    (rw (add-div_right (x - 1) (pow_pos j)) at u, shr_mono j (omega arith))

-- above its lowest bit, a number one less has the same bits
pred_above : (x z j : ℕ) → 0 < x → x / 2 ^ z % 2 ≡ 1 → (x - 1) / 2 ^ (z + (1 + j)) ≡ x / 2 ^ (z + (1 + j))
pred_above x z j p h =
    let s = shift_pred x z p in
    let half : (x - 1) / 2 ^ z / 2 ≡ x / 2 ^ z / 2 = omega (arith, s.0, s.1) in
    sym (shr-shr (x - 1) z (1 + j)) ∙ sym (shr-shr ((x - 1) / 2 ^ z) 1 j)
    ∙ ap (λ (y : ℕ). y / 2 ^ j) half
    ∙ shr-shr (x / 2 ^ z) 1 j ∙ shr-shr x z (1 + j)

-- x is what is left without its lowest bit, and that bit
module _ (x : ℕ) (p : 0 < x) (h : x < 2 ^ 64) where
  abbrev z : ℕ
  z = count_trailing_zeros 64 x

  one : x / 2 ^ z % 2 ≡ 1
  one = one_at 64 x (zeros_less 64 x p h)

  pub bit_first : bit_at x z ≡ true
  unfolding bit_at
  bit_first = eq-eqb _ 1 one

  above : (i : ℕ) → z < i → bit_at (x - 1) i ≡ bit_at x i
  unfolding bit_at
  above i l =
      let e : z + (1 + (i - (z + 1))) ≡ i = omega arith in
      ap (λ (y : ℕ). eqb (y % 2) 1) (rw e at (pred_above x z (i - (z + 1)) p one))

  pub bit_rest : (i : ℕ) → bit_at x i ≡ bit_at (bit_and x (x - 1)) i || eqb i z
  bit_rest i =
      sym (ap (λ (b : Bool). b || eqb i z) (bit_at_and x (x - 1) i) ∙ ⊎_elim
      (λ b. let l : i < z = ltb-true i z b in rw (bit_below x i l, ne_eqb i z (λ e. omega arith)))
      (λ b. let g : z ≤ i = ltb-false i z b in ⊎_elim
      (λ (e : z ≡ i). rw (eq-eqb i z (sym e)) (or-true (bit_at x i && bit_at (x - 1) i) ∙ sym (ap (bit_at x) (sym e) ∙ bit_first)))
      (λ (l : z < i).
      rw (ne_eqb i z (λ e. omega arith), or-false (bit_at x i && bit_at (x - 1) i), above i l) (and_self (bit_at x i)))
      (eq-or-lt_of_le g))
      (is_or_not (ltb i z)))

pub bit_shift : (x j k : ℕ) → bit_at (x / 2 ^ j) k ≡ bit_at x (j + k)
unfolding bit_at
bit_shift x j k = ap (λ (y : ℕ). eqb (y % 2) 1) (shr-shr x j k)

pub bit_high : (x k : ℕ) → x < 2 ^ 64 → 64 ≤ k → bit_at x k ≡ false
unfolding bit_at
bit_high x k h l = ap (λ (n : ℕ). eqb n 1) (std.bit_at_above x 64 k h l)
