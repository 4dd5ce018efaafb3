-- The trail by term: which words decide it, and what the words of a term say. Assumes nothing.
use Prim.Native.Nat.{ℕ, zero, suc, ◌+◌, ◌*◌, ◌/◌, ◌%◌, ◌≤◌, ◌<◌}
use native.Mathlib.Nat.{suc-mul, mul-le-mul_right}
use native.Mathlib.Numerals.{add-one}
use native.Mathlib.Omega.{arith}
use mathlib.Core.Path.{◌≡◌, refl, sym, ap, ap₂, ◌∙◌}
use mathlib.Core.Logic.{◌⊎◌, inl, inr, ⊎_elim}
use mathlib.Core.Bool.{true, false, cond}
use mathlib.Core.List.{List, ◌∷◌}
use lib.Dec.{eqb, ltb}
use lib.ListN.{length, get_or, set}
use lib.Seq.{get_or-set_other}
use borrow.Author.Tests.{ltb-true, ltb-false, eqb-true, eqb-false}
use Rattle.calculus.specs.Trail.{Trail, Entry, empty, on, entry}
use Rattle.calculus.specs.WellFormed.{Distinct, Below}
use Rattle.calculus.proofs.Facts.{is_or_not, true_or_false}
use Rattle.bitset.proofs.Windows.{same_set}
use Rattle.trail.specs.Words.{values, levels, kinds, order, row_at, entry_for, trail_in, Laid}
use Rattle.calculus.proofs.Trails.{off_parts, room, room_more}

-- ---- the one product: a justification ends where the next begins or before
pub why_in_lem : (w t u : ℕ) → t < u → t * w + w ≤ u * w
why_in_lem w t u h = let e : suc t * w ≡ t * w + w = suc-mul t w in omega (arith, mul-le-mul_right w h)

pub trail_more : (w N : ℕ) (ws : List ℕ) (n : ℕ) → trail_in w N ws (n + 1) ≡ entry_for w N ws (get_or ws (order w N + n) 0) ∷ trail_in w N ws n
unfolding trail_in
trail_more w N ws n = ap (trail_in w N ws) (add-one n)

pub trail_length : (w N : ℕ) (ws : List ℕ) (n : ℕ) → length (trail_in w N ws n) ≡ n
unfolding trail_in
trail_length w N ws zero = refl
trail_length w N ws (suc n) = ap suc (trail_length w N ws n)

-- ---- positions

-- below n + 1: below n, or n
last : (i n : ℕ) → i < suc n → (i < n) ⊎ (i ≡ n)
last i n l = ⊎_elim (λ b. inl (ltb-true i n b)) (λ b. inr (let g : n ≤ i = ltb-false i n b in omega arith)) (is_or_not (ltb i n))

pub below_at : (m w N : ℕ) (ws : List ℕ) (n i : ℕ) → Below m (trail_in w N ws n) → i < n → get_or ws (order w N + i) 0 < m
unfolding Below trail_in
below_at m w N ws zero i h l = absurd (omega arith)
below_at m w N ws (suc n) i h l = ⊎_elim (λ g. below_at m w N ws n i h.1 g) (λ e. rw e h.0) (last i n l)

-- a term that is not on the trail is at no position
pub off_at : (w N : ℕ) (ws : List ℕ) (n t i : ℕ) → on (trail_in w N ws n) t ≡ false → i < n → get_or ws (order w N + i) 0 ≡ t → ⊥
unfolding trail_in
off_at w N ws zero t i h l = absurd (omega arith)
off_at w N ws (suc n) t i h l =
    let a = off_parts t _ _ h in
    ⊎_elim (λ g. off_at w N ws n t i a.1 g) (λ e. rw e (eqb-false _ _ a.0)) (last i n l)

-- distinct terms: the one at a position is not on the trail before it
pub distinct_at : (w N : ℕ) (ws : List ℕ) (n i : ℕ) → Distinct (trail_in w N ws n) → i < n → on (trail_in w N ws i) (get_or ws (order w N + i) 0) ≡ false
unfolding trail_in Distinct
distinct_at w N ws zero i h l = absurd (omega arith)
distinct_at w N ws (suc n) i h l = ⊎_elim (λ g. distinct_at w N ws n i h.1 g) (λ e. rw e h.0) (last i n l)

-- and it is on the whole
pub on_at : (w N : ℕ) (ws : List ℕ) (n i : ℕ) → i < n → on (trail_in w N ws n) (get_or ws (order w N + i) 0) ≡ true
on_at w N ws n i l = ⊎_elim (λ q. q) (λ q. absurd (off_at w N ws n _ i q l refl)) (is_or_not (on (trail_in w N ws n) (get_or ws (order w N + i) 0)))

-- ---- words that are the same

pub entry_same : (w N : ℕ) (ws vs : List ℕ) (t : ℕ)
    → get_or ws (values w N + t) 0 ≡ get_or vs (values w N + t) 0 → get_or ws (levels w N + t) 0 ≡ get_or vs (levels w N + t) 0
    → get_or ws (kinds w N + t) 0 ≡ get_or vs (kinds w N + t) 0
    → ((k : ℕ) → k < w → get_or ws (t * w + k) 0 ≡ get_or vs (t * w + k) 0) → entry_for w N ws t ≡ entry_for w N vs t
entry_same w N ws vs t v l k h x =
    record {
      term = t;
      value = v x % 65536;
      level = l x;
      decided = eqb (k x) 2;
      why = cond (eqb (k x) 2) empty (same_set ws vs (t * w) (t * w) w h x);
    }

-- the same order, and the same words for each term in it
pub trail_same : (w N : ℕ) (ws vs : List ℕ) (n : ℕ) → ((i : ℕ) → i < n → get_or ws (order w N + i) 0 ≡ get_or vs (order w N + i) 0)
    → ((i : ℕ) → i < n → entry_for w N ws (get_or ws (order w N + i) 0) ≡ entry_for w N vs (get_or ws (order w N + i) 0))
    → trail_in w N ws n ≡ trail_in w N vs n
unfolding trail_in
trail_same w N ws vs zero o h = refl
trail_same w N ws vs (suc n) o h =
    ap₂ (λ (x : Entry) (t : Trail). x ∷ t) (h n (omega arith) ∙ ap (entry_for w N vs) (o n (omega arith)))
    (trail_same w N ws vs n (λ i l. o i (omega arith)) (λ i l. h i (omega arith)))

-- ---- look-up

-- the entry of a term on the trail is what its words say
pub entry_at : (w N : ℕ) (ws : List ℕ) (n t : ℕ) → on (trail_in w N ws n) t ≡ true → entry (trail_in w N ws n) t ≡ entry_for w N ws t
unfolding entry on trail_in
entry_at w N ws zero t h = absurd (true_or_false h refl)
entry_at w N ws (suc n) t h =
    ⊎_elim
    (λ q. rw q (ap (entry_for w N ws) (eqb-true (get_or ws (order w N + n) 0) t q)))
    (λ q. rw q (entry_at w N ws n t (rw q at h)))
    (is_or_not (eqb (get_or ws (order w N + n) 0) t))

-- ---- the first entries of a trail

pub below_first : (m w N : ℕ) (ws : List ℕ) (n i : ℕ) → Below m (trail_in w N ws n) → i ≤ n → Below m (trail_in w N ws i)
unfolding Below trail_in
below_first m w N ws n zero h l = tt
below_first m w N ws n (suc i) h l = (below_at m w N ws n i h (omega arith), below_first m w N ws n i h (omega arith))

-- ---- one store among kinds and order

pub trail_set : (w N : ℕ) (ws : List ℕ) (n k v : ℕ) → Below N (trail_in w N ws n) → kinds w N ≤ k
    → ((i : ℕ) → i < n → order w N + i ≡ k → ⊥) → ((i : ℕ) → i < n → kinds w N + get_or ws (order w N + i) 0 ≡ k → ⊥)
    → trail_in w N (set ws k v) n ≡ trail_in w N ws n
trail_set w N ws n k v b h o e =
    sym (trail_same w N ws (set ws k v) n
    (λ i l. sym (get_or-set_other ws k (order w N + i) v 0 (o i l)))
    (λ i l.
    let p : get_or ws (order w N + i) 0 < N = below_at N w N ws n i b l in
    let q : get_or ws (order w N + i) 0 * w + w ≤ N * w = why_in_lem w _ N p in
    sym (entry_same w N (set ws k v) ws (get_or ws (order w N + i) 0)
    (get_or-set_other ws k _ v 0 (λ g. omega arith))
    (get_or-set_other ws k _ v 0 (λ g. omega arith))
    (get_or-set_other ws k _ v 0 (e i l))
    (λ j g. get_or-set_other ws k _ v 0 (λ z. omega arith)))))

-- ---- room

pub room_all : (w N : ℕ) (ws : List ℕ) (n : ℕ) → Laid w N ws n → n ≤ N
room_all w N ws n laid = omega (arith, trail_length w N ws n, room N (trail_in w N ws n) laid.distinct laid.below)

pub room_one : (w N : ℕ) (ws : List ℕ) (n t : ℕ) → Laid w N ws n → t < N → on (trail_in w N ws n) t ≡ false → n < N
room_one w N ws n t laid h off = omega (arith, trail_length w N ws n, room_more N t (trail_in w N ws n) laid.distinct laid.below h off)

-- a row of the trail is in a word of every set
pub row_word : (w N t : ℕ) → N ≤ 64 * w → t < N → t / 64 < w
row_word w N t wide h = omega arith

-- the row of an entry has its word, and fits 16 bits
pub row_fits : (w N : ℕ) (ws : List ℕ) (n i : ℕ) → Laid w N ws n × (i < n) → (order w N + i < length ws) × (row_at w N ws i < 65536)
row_fits w N ws n i g =
    let d = g.0 in
    (omega (arith, room_all w N ws n d, d.enough, g.1), omega (arith, below_at N w N ws n i d.below g.1, d.wide, d.narrow))
