-- What the trail buffer shows of each entry: its term, value, level, and 1 for a decision or 0.
use mathlib.Core.Path.{◌≡◌, refl, sym, ap, subst, ◌∙◌}
use mathlib.Core.List.{List, [], ◌∷◌, ◌++◌, append_assoc, Memᴰ}
use Prim.Native.Nat.{ℕ, ◌+◌, ◌*◌, ◌<◌}
use native.Mathlib.Omega.{arith}
use native.Mathlib.Nat.{not-suc-le-zero}
use native.Mathlib.Decide.{dec_lt}
use lib.ListN.{length, get_or, length-append}
use lib.Seq.{get_or-append-add}
use Rattle.calculus.specs.Lists.{num}
use Rattle.calculus.specs.Trail.{Trail, Entry, entry_numbers, trail_numbers_of}

pub numbers_length : (tr : Trail) → length (trail_numbers_of tr) ≡ 4 * length tr
unfolding trail_numbers_of
numbers_length [] = refl
numbers_length (e ∷ older) = simp length-append (omega (arith, numbers_length older))

-- the k-th four numbers of a buffer are e's
pub record Columns (buffer : List ℕ) (k : ℕ) (e : Entry) : Type 0 where
  pub term : get_or buffer (4 * k) 0 ≡ e.term
  pub value : get_or buffer (4 * k + 1) 0 ≡ e.value
  pub level : get_or buffer (4 * k + 2) 0 ≡ e.level
  pub decision : get_or buffer (4 * k + 3) 0 ≡ num e.decided

-- of a buffer that a trail is written to, whatever follows: each four numbers are those of an entry on the trail
pub columns : (tr : Trail) (rest : List ℕ) (k : ℕ) → k < length tr
    → (e : Entry) × Memᴰ e tr × Columns (trail_numbers_of tr ++ rest) k e
unfolding trail_numbers_of
columns [] rest k l = absurd (not-suc-le-zero l)
columns (e ∷ older) rest k l =
    subst (λ (b : List ℕ). (x : Entry) × Memᴰ x (e ∷ older) × Columns b k x) (sym (append_assoc numbers (entry_numbers e) rest))
    (go (λ h. columns older (entry_numbers e ++ rest) k h) (dec_lt k (length older)))
  where
    numbers : List ℕ
    numbers = trail_numbers_of older

    buffer : List ℕ
    buffer = numbers ++ (entry_numbers e ++ rest)

    at : (i j : ℕ) → k ≡ length older → i ≡ 4 * k + j → get_or buffer i 0 ≡ get_or (entry_numbers e ++ rest) j 0
    at i j q p =
        let m : i ≡ length numbers + j = omega (arith, numbers_length older) in
        ap (λ n. get_or buffer n 0) m ∙ get_or-append-add numbers (entry_numbers e ++ rest) j 0

    go : (k < length older → (x : Entry) × Memᴰ x older × Columns buffer k x) → Dec (k < length older)
        → (x : Entry) × Memᴰ x (e ∷ older) × Columns buffer k x
    go f (yes h) = let r = f h in (r.0, Memᴰ.tail r.1, r.2)
    go f (no h) =
        let q : k ≡ length older = omega arith in
        (e, Memᴰ.head refl, record { term = at _ 0 q (omega arith); value = at _ 1 q refl; level = at _ 2 q refl; decision = at _ 3 q refl })
