-- The trail as numbers, one entry more. Assumes nothing.
use Prim.Native.Nat.{ℕ, ◌+◌, ◌-◌, ◌*◌, ◌≤◌, ◌<◌}
use native.Mathlib.Omega.{arith}
use mathlib.Core.Path.{◌≡◌, refl, sym, ap, ap₂, ◌∙◌}
use mathlib.Core.Bool.{true}
use mathlib.Core.List.{List, [], ◌∷◌, ◌++◌, append_assoc}
use lib.ListN.{length, drop, length-append}
use lib.Seq.{drop-drop}
use borrow.Rule.Slice.PartMut.{put_mid}
use Rattle.std.proofs.lemmas.List.{places, take_at, drop_at}
use Rattle.calculus.specs.Lists.{num}
use Rattle.calculus.specs.Trail.{Trail, Entry, everything, on, value_at, level_at, decided_at, top_level, entry_numbers, trail_numbers_of}
use Rattle.calculus.specs.Run.{written}
use Rattle.calculus.proofs.Columns.{numbers_length}
use Rattle.calculus.proofs.Entries.{level_at_lem}
use Rattle.trail.specs.Words.{row_at, trail_in, entry_for, Laid}
use Rattle.trail.proofs.Laws.{trail_length, trail_more, on_at, below_at, entry_at, room_all}

-- four numbers more, in the place that follows
written_four : (xs ys buffer : List ℕ) (k : ℕ) → length xs ≡ k → length ys ≡ 4 → put_mid k (k + 4 - k) (written xs buffer) ys ≡ written (xs ++ ys) buffer
written_four xs ys buffer k e f =
    let rest : List ℕ = drop (length xs) buffer in
    let past : length xs + (k + 4 - k) ≡ length (xs ++ ys) = omega (arith, length-append xs ys) in
    ap₂ (λ (p q : List ℕ). p ++ (ys ++ drop (k + 4 - k) q)) (take_at xs rest k e) (drop_at xs rest k e)
    ∙ sym (append_assoc xs ys _)
    ∙ ap (λ (l : List ℕ). (xs ++ ys) ++ l) (drop-drop (k + 4 - k) (length xs) buffer ∙ ap (λ (m : ℕ). drop m buffer) past)

-- ---- the numbers of a trail in words

numbers_more : (e : Entry) (older : Trail) → trail_numbers_of (e ∷ older) ≡ trail_numbers_of older ++ entry_numbers e
unfolding trail_numbers_of
numbers_more e older = refl

-- after i of the n entries
pub record Writing (w N : ℕ) (ws out₀ out : List ℕ) (n i : ℕ) : Type 0 where
  pub laid : Laid w N ws n
  pub room : n ≤ N
  pub space : 4 * n ≤ length out₀
  pub so_far : i ≤ n
  pub long : length out ≡ length out₀
  pub same : out ≡ written (trail_numbers_of (trail_in w N ws i)) out₀

pub writing_none : {w N : ℕ} {ws : List ℕ} {n : ℕ} (out : List ℕ) → Laid w N ws n → 4 * n ≤ length out → Writing w N ws out out n 0
unfolding trail_numbers_of trail_in
writing_none {w} {N} {ws} {n} out laid h =
    record { laid = laid; room = room_all w N ws n laid; space = h; so_far = omega arith; long = refl; same = refl }

pub writing_all : {w N : ℕ} {ws out₀ out : List ℕ} {n i : ℕ} → Writing w N ws out₀ out n i → n ≤ i → out ≡ written (trail_numbers_of (trail_in w N ws n)) out₀
writing_all {w} {N} {ws} {out₀} {out} {n} {i} u h = let e : i ≡ n = omega (arith, u.so_far) in rw e at u.same

module _ {w N : ℕ} {ws out₀ out : List ℕ} {n i : ℕ} (u : Writing w N ws out₀ out n i) (l : i < n) where
  abbrev row : ℕ
  row = row_at w N ws i

  abbrev tr : Trail
  tr = trail_in w N ws n

  -- the row is on the trail, and the numbers fit
  pub row_on : on tr row ≡ true
  row_on = on_at w N ws n i l

  pub row_small : row < N
  row_small = below_at N w N ws n i u.laid.below l

  pub level_fits : top_level tr < 65536 → level_at tr row < 65536
  level_fits h = omega (arith, h, level_at_lem tr everything row row_on refl)

  -- four numbers stand there for each entry so far
  long_so_far : length (trail_numbers_of (trail_in w N ws i)) ≡ 4 * i
  long_so_far = numbers_length (trail_in w N ws i) ∙ ap (◌*◌ 4) (trail_length w N ws i)

  one_more : trail_numbers_of (trail_in w N ws i) ++ entry_numbers (entry_for w N ws row) ≡ trail_numbers_of (trail_in w N ws (i + 1))
  one_more = sym (numbers_more (entry_for w N ws row) (trail_in w N ws i)) ∙ sym (ap trail_numbers_of (trail_more w N ws i))

  -- the numbers of the entry, by its look-up
  looked : (row ∷ value_at tr row ∷ level_at tr row ∷ num (decided_at tr row) ∷ []) ≡ entry_numbers (entry_for w N ws row)
  looked = ap (λ (e : Entry). row ∷ e.value ∷ e.level ∷ num e.decided ∷ []) (entry_at w N ws n row row_on)

  pub writing_more : {new : List ℕ} → new ≡ row ∷ value_at tr row ∷ level_at tr row ∷ num (decided_at tr row) ∷ []
      → Writing w N ws out₀ (put_mid (4 * i) (4 * i + 4 - 4 * i) out new) n (i + 1)
  writing_more {new} e =
      let four : length new ≡ 4 = ap length e in
      let room : 4 * i + 4 ≤ length out = omega (arith, u.space, u.long) in
      record {
        laid = u.laid;
        room = u.room;
        space = u.space;
        so_far = omega arith;
        long = (let same : length (put_mid (4 * i) (4 * i + 4 - 4 * i) out new) ≡ length out = grind (arith, places) in same) ∙ u.long;
        same =
            ap (λ (o : List ℕ). put_mid (4 * i) (4 * i + 4 - 4 * i) o new) u.same
            ∙ written_four (trail_numbers_of (trail_in w N ws i)) new out₀ (4 * i) long_so_far four
            ∙ ap (λ (x : List ℕ). written (trail_numbers_of (trail_in w N ws i) ++ x) out₀) (e ∙ looked)
            ∙ ap (λ (x : List ℕ). written x out₀) one_more;
      }
