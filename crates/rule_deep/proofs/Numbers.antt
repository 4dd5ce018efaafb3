-- Numbers that say what was found.
use mathlib.Core.Path.{◌≡◌, refl, sym, ap, ◌∙◌}
use mathlib.Core.Logic.{◌≢◌, ◌⊎◌, inl, inr}
use mathlib.Core.Bool.{Bool, true, false, cond}
use Prim.Native.Nat.{ℕ, ◌+◌, ◌*◌, ◌/◌, ◌%◌, ◌≤◌, ◌<◌}
use native.Mathlib.Omega.{arith}
use lib.Dec.{eqb, leb}
use mir.Val.{bool_byte}
use borrow.Author.Tests.{eqb-true, eqb-false, eq-eqb, ne_eqb, le-leb, lt-leb}
use Rattle.calculus.specs.Lists.{num, is_true}
use Rattle.calculus.proofs.Facts.{num_le, is_or_not}
use Rattle.rule_deep.specs.declared.Walked.{Walked}
use Rattle.rule_deep.specs.Walks.{unpacked, premised, Small, Says}

pub is_true_num : (b : Bool) → is_true (num b) ≡ b
is_true_num true = refl
is_true_num false = refl

-- what is found of a row above its arguments, of which b is
abbrev pub risen : Walked → Walked
risen b = record { height = b.height + 1; met = b.met; truth = b.truth }

pub unpacks : (r : Walked) → r.height < 16 → (c : ℕ) → c ≡ r.met * 64 + r.height * 4 + num r.truth * 2 + 1 → unpacked c ≡ r
unfolding unpacked
unpacks r l c q = λ i. record { height = height i; met = met i; truth = truth i }
  where
    height : c / 4 % 16 ≡ r.height
    height = omega (arith, num_le r.truth)

    met : c / 64 ≡ r.met
    met = omega (arith, num_le r.truth)

    truth : eqb (c / 2 % 2) 1 ≡ r.truth
    truth = let d : c / 2 % 2 ≡ num r.truth = omega (arith, num_le r.truth) in ap (λ k. eqb k 1) d ∙ is_true_num r.truth

-- one connective more
pub rises : (c : ℕ) → (unpacked c).height < 15 → unpacked (c + 4) ≡ risen (unpacked c)
unfolding unpacked
rises c l = λ i. record { height = height i; met = met i; truth = truth i }
  where
    height : (c + 4) / 4 % 16 ≡ c / 4 % 16 + 1
    height = omega arith

    met : (c + 4) / 64 ≡ c / 64
    met = omega arith

    truth : eqb ((c + 4) / 2 % 2) 1 ≡ eqb (c / 2 % 2) 1
    truth = let d : (c + 4) / 2 % 2 ≡ c / 2 % 2 = omega arith in ap (λ k. eqb k 1) d

-- ---- rows with premises on them

pub premised_none : (m v : ℕ) → m ≡ 0 → premised m v ≡ 0
unfolding premised
premised_none m v e = rw (eq-eqb m 0 e)

pub premised_some : (m v : ℕ) → m ≢ 0 → premised m v ≡ m * 64 + num (is_true v) * 2 + 1
unfolding premised
premised_some m v n = rw (ne_eqb m 0 n)

-- it says which these are
pub premised_says : (m v : ℕ) → m ≢ 0 → unpacked (premised m v) ≡ record { height = 0; met = m; truth = is_true v }
premised_says m v n = unpacks (record { height = 0; met = m; truth = is_true v }) (omega arith) _ (let e = premised_some m v n in omega arith)

pub premised_met : (m v : ℕ) → premised m v / 64 ≡ m
premised_met m v = go (is_or_not (eqb m 0))
  where
    go : (eqb m 0 ≡ true) ⊎ (eqb m 0 ≡ false) → premised m v / 64 ≡ m
    go (inl e) = let z = eqb-true m 0 e in omega (arith, premised_none m v z)
    go (inr e) = omega (arith, premised_some m v (eqb-false m 0 e), num_le (is_true v))

-- it is 0 where there are none, and only there
pub premised_zero : (m v : ℕ) → premised m v ≡ 0 → m ≡ 0
premised_zero m v e = omega (arith, premised_met m v)

-- ---- as the code makes them

pub from_num : (b : Bool) → bool_byte b ≡ num b
from_num true = refl
from_num false = refl

pub number_le : {n : ℕ} (b : Bool) → n ≡ num b → n ≤ 1
number_le b e = omega (arith, num_le b)

pub packs : (r : Walked) {n : ℕ} → Small r → n ≡ num r.truth
    → (unpacked (r.met * 64 + r.height * 4 + n * 2 + 1) ≡ r) × (r.met * 64 + r.height * 4 + n * 2 + 1 ≢ 0)
packs r {n} s e = (unpacks r s.height _ (omega arith), λ z. omega arith)

pub unpacked_is : (c : ℕ) → record { height = c / 4 % 16; met = c / 64; truth = eqb (c / 2 % 2) 1 } ≡ unpacked c
unfolding unpacked
unpacked_is c = refl

pub within_yes : (c n : ℕ) → c / 4 % 16 ≤ n → c ≡ cond (leb (unpacked c).height n) c 0
unfolding unpacked
within_yes c n l = rw (le-leb (c / 4 % 16) n l)

pub within_no : (c n : ℕ) → n < c / 4 % 16 → 0 ≡ cond (leb (unpacked c).height n) c 0
unfolding unpacked
within_no c n l = rw (lt-leb (c / 4 % 16) n l)

pub premised_zeros : (m v : ℕ) → m ≡ 0 → 0 ≡ premised m v
premised_zeros m v e = sym (premised_none m v e)

pub premised_made : (m v : ℕ) {n : ℕ} → m ≢ 0 → n ≡ num (is_true v) → m * 64 + n * 2 + 1 ≡ premised m v
premised_made m v d e = omega (arith, premised_some m v d)

pub says_none : (r : Walked) (last : ℕ) → last ≡ 0 → Says r last 0
says_none r last z = record { lost = λ e. refl; said = λ n. absurd (n z) }

pub says_it : (r : Walked) (last : ℕ) {c : ℕ} → last ≢ 0 → (unpacked c ≡ r) × (c ≢ 0) → Says r last c
says_it r last n s = record { lost = λ z. absurd (n z); said = λ m. s }
