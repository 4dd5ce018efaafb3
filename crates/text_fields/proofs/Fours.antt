-- Laws of four bytes at a time, for any count f of the bytes that a search passes: the tests in their order, for each number of bytes passed a law.
use Prim.Native.Nat.{ℕ, suc, ◌+◌, ◌≤◌, ◌<◌}
use mathlib.Core.Path.{◌≡◌, refl}
use mathlib.Core.List.{List}
use native.Mathlib.Omega.{arith}
use native.Mathlib.Nat.{add-zero}
use lib.ListN.{length, drop, get_or}
use Rattle.text_fields.specs.Split.{before}
use Rattle.text_fields.specs.Fours.{Passes}
use Rattle.text_fields.proofs.Laws.{before_hit, before_miss}

module _ {f : List ℕ → ℕ} {l : List ℕ} {i : ℕ} where
  pub none_of_four : f (drop i l) ≡ 0 → Passes f l i 0
  none_of_four h = record { most = omega arith; on = rw add-zero (omega arith); stops = λ q. rw add-zero h }

  module _ (first : f (drop i l) ≡ suc (f (drop (i + 1) l))) where
    pub one_of_four : f (drop (i + 1) l) ≡ 0 → Passes f l i 1
    one_of_four h = record { most = omega arith; on = omega arith; stops = λ q. h }

    module _ (second : f (drop (i + 1) l) ≡ suc (f (drop (i + 2) l))) where
      pub two_of_four : f (drop (i + 2) l) ≡ 0 → Passes f l i 2
      two_of_four h = record { most = omega arith; on = omega arith; stops = λ q. h }

      module _ (third : f (drop (i + 2) l) ≡ suc (f (drop (i + 3) l))) where
        pub three_of_four : f (drop (i + 3) l) ≡ 0 → Passes f l i 3
        three_of_four h = record { most = omega arith; on = omega arith; stops = λ q. h }

        pub all_four : f (drop (i + 3) l) ≡ suc (f (drop (i + 4) l)) → Passes f l i 4
        all_four h = record { most = omega arith; on = omega arith; stops = λ q. absurd (omega arith) }

  -- where a search ends among the four, and where it goes on behind them
  module _ {r : ℕ} (p : Passes f l i r) where
    pub ends_there : r < 4 → i + r ≡ i + f (drop i l)
    ends_there h = omega (arith, p.on, p.stops h)

    pub goes_on : 4 ≤ r → i + 4 + f (drop (i + 4) l) ≡ i + f (drop i l)
    goes_on h = let z : r ≡ 4 = omega (arith, p.most) in omega (arith, rw z at p.on)

-- ---- the tests of four bytes, one after the other

-- a search ends at a place of which `stop` holds, and goes on at any other
pub record Ends (f : List ℕ → ℕ) (l : List ℕ) (stop : ℕ → Type 0) : Type 0 where
  pub here : (p : ℕ) → p < length l → stop p → f (drop p l) ≡ 0
  pub further : (p : ℕ) → p < length l → (stop p → ⊥) → f (drop p l) ≡ suc (f (drop (p + 1) l))

module _ {f : List ℕ → ℕ} {l : List ℕ} {stop : ℕ → Type 0} (s : Ends f l stop) (i : ℕ) (long : i + 4 ≤ length l) where
  -- the place behind p, as it is written
  behind : (p q : ℕ) → q ≡ p + 1 → p < length l → (stop p → ⊥) → f (drop p l) ≡ suc (f (drop q l))
  behind p q e h n = rw e (s.further p h n)

  pub ends_first : stop i → Passes f l i 0
  ends_first h = none_of_four (s.here i (omega arith) h)

  module _ (a : stop i → ⊥) where
    first : f (drop i l) ≡ suc (f (drop (i + 1) l))
    first = behind i (i + 1) refl (omega arith) a

    pub ends_second : stop (i + 1) → Passes f l i 1
    ends_second h = one_of_four first (s.here (i + 1) (omega arith) h)

    module _ (b : stop (i + 1) → ⊥) where
      second : f (drop (i + 1) l) ≡ suc (f (drop (i + 2) l))
      second = behind (i + 1) (i + 2) (omega arith) (omega arith) b

      pub ends_third : stop (i + 2) → Passes f l i 2
      ends_third h = two_of_four first second (s.here (i + 2) (omega arith) h)

      module _ (c : stop (i + 2) → ⊥) where
        third : f (drop (i + 2) l) ≡ suc (f (drop (i + 3) l))
        third = behind (i + 2) (i + 3) (omega arith) (omega arith) c

        pub ends_fourth : stop (i + 3) → Passes f l i 3
        ends_fourth h = three_of_four first second third (s.here (i + 3) (omega arith) h)

        pub ends_past : (stop (i + 3) → ⊥) → Passes f l i 4
        ends_past h = all_four first second third (behind (i + 3) (i + 4) (omega arith) (omega arith) h)

-- the search for a byte ends where it stands
pub byte_ends : (c : ℕ) (l : List ℕ) → Ends (before c) l (λ p. get_or l p 0 ≡ c)
byte_ends c l = record { here = before_hit c l; further = before_miss c l }
