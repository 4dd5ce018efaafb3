-- Laws of the digits of a number, which are found from the right.
use Prim.Native.Nat.{ℕ, zero, suc, ◌+◌, ◌-◌, ◌/◌, ◌%◌, ◌^◌, ◌≤◌, ◌<◌}
use mathlib.Core.Path.{◌≡◌, refl, sym, ◌∙◌}
use mathlib.Core.List.{List, [], ◌∷◌, ◌++◌, append_assoc}
use native.Mathlib.Omega.{arith}
use native.Mathlib.Nat.{mod-eq_of_lt}
use native.Mathlib.Numerals.{unary_clauses}
use borrow.Author.Tests.{lt-ltb, le-ltb}
use lib.ListN.{length, take, drop, set, replicate, length-set, length-drop}
use lib.Seq.{drop-cons, drop-set-lt, get_or-set_same, take_all}
use Rattle.buffers.proofs.Room.{append_nil}
use Rattle.report.specs.Printed.{digits_of, decimal}

-- of n's digits those behind place i stand in a row of 20 bytes, and those up to i are the digits of what is left
pub record Spelling (n : ℕ) (row : List ℕ) (i left : ℕ) : Type 0 where
  pub inside : i < 20
  pub row_long : length row ≡ 20
  pub fits : left < 10 ^ suc i
  pub digits_are : decimal n ≡ digits_of (suc i) left ++ drop (suc i) row

pub spelling_starts : (n : ℕ) → n < 2 ^ 64 → Spelling n (replicate 20 0) 19 n
unfolding decimal
spelling_starts n h = record { inside = omega arith; row_long = refl; fits = omega arith; digits_are = sym (append_nil (digits_of 20 n)) }

-- a byte that is set, and those behind it
set_front : (row : List ℕ) (i b : ℕ) → i < length row → drop i (set row i b) ≡ b ∷ drop (suc i) row
set_front row i b h =
    let k : i < length (set row i b) = rw length-set h in
    rw (drop-cons (set row i b) i 0, get_or-set_same, drop-set-lt (suc i) row i b (omega arith))

digits_more : (k left : ℕ) → 10 ≤ left → digits_of (suc k) left ≡ digits_of k (left / 10) ++ ((48 + left % 10) ∷ [])
unfolding digits_of
digits_more k left h = rw (le-ltb left 10 h)

digit_alone : (k left : ℕ) → left < 10 → digits_of (suc k) left ≡ (48 + left % 10) ∷ []
unfolding digits_of
digit_alone k left h = rw (lt-ltb left 10 h, mod-eq_of_lt)

module _ (n : ℕ) (row : List ℕ) (b : ℕ) where
  pub place_left : (i left : ℕ) → Spelling n row i left → 10 ≤ left → 1 ≤ i
  place_left zero left s h = absurd (omega (arith, s.fits))
  place_left (suc i) left s h = omega arith

  pub row_kept : (i left : ℕ) → Spelling n row i left → 20 ≤ length (set row i b)
  row_kept i left s = rw length-set (omega (arith, s.row_long))

  pub spelling_on : (i left : ℕ) → Spelling n row i left → 10 ≤ left → b ≡ 48 + left % 10 → Spelling n (set row i b) (i - 1) (left / 10)
  spelling_on zero left s h is = absurd (omega (arith, s.fits))
  spelling_on (suc i) left s h is =
      let e : suc i - 1 ≡ i = omega arith in
      rw e
      record {
        inside = omega (arith, s.inside);
        row_long = rw length-set s.row_long;
        fits = omega (arith, simp unary_clauses at s.fits);
        digits_are =
            s.digits_are
            ∙ rw (digits_more (suc i) left h, ← is, append_assoc, set_front row (suc i) b (omega (arith, s.row_long, s.inside)));
      }

  pub spelling_done : (i left : ℕ) → Spelling n row i left → left < 10 → b ≡ 48 + left % 10 → drop i (set row i b) ≡ decimal n
  spelling_done i left s h is =
      set_front row i b (omega (arith, s.row_long, s.inside)) ∙ sym (s.digits_are ∙ rw (digit_alone i left h, ← is))
