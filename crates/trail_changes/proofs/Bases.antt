-- What keeping to a level leaves as it stands, and how it is found. Assumes nothing.
use Prim.Native.Nat.{ℕ, zero, suc, ◌+◌, ◌-◌, ◌≤◌, ◌<◌}
use native.Mathlib.Omega.{arith}
use mathlib.Core.Path.{◌≡◌, refl, sym, ap, ap₂, ◌∙◌}
use mathlib.Core.Logic.{⊎_elim}
use mathlib.Core.Bool.{Bool, true, false, ◌&&◌, cond, or-true}
use mathlib.Core.List.{List, [], ◌∷◌}
use lib.Dec.{eqb, leb, ltb}
use lib.ListN.{get_or}
use borrow.Author.Tests.{le-leb, leb-true, ltb-true, ltb-false}
use Rattle.calculus.specs.Trail.{Trail, Entry, on, entry, decided_at, level_at, level_of, top_level, kept_to}
use Rattle.calculus.specs.WellFormed.{WellFormed}
use Rattle.calculus.proofs.Facts.{is_or_not, both_true, cond_case}
use Rattle.calculus.proofs.WellFormed.{newest}
use Rattle.trail.specs.Words.{levels, kinds, order, entry_for, trail_in, kind_at, Laid}
use Rattle.trail_changes.specs.Bases.{base_of, Base}
use Rattle.trail.proofs.TermKind.{kind_on}
use Rattle.trail.proofs.Laws.{trail_more, below_at, on_at, entry_at, room_all}

-- ---- trails

-- a decision is one level above all before it
decided_above : {n : ℕ} (e : Entry) (older : Trail) → WellFormed n (e ∷ older) → e.decided ≡ true → e.level ≡ 1 + top_level older
decided_above e older r d = (newest e older r).0.level ∙ rw d

-- the base has no level above m
pub base_low : {n : ℕ} (m : ℕ) (tr : Trail) → WellFormed n tr → top_level (base_of m tr) ≤ m
unfolding base_of level_of
base_low m [] r = omega arith
base_low m (e ∷ older) r =
    cond_case (λ (l : Trail). top_level l ≤ m) (e.decided && leb (e.level - 1) m) _ _
    (λ q. let b = both_true e.decided (leb (e.level - 1) m) q in
    let l : e.level - 1 ≤ m = leb-true (e.level - 1) m b.1 in
    omega (arith, decided_above e older r b.0))
    (λ q. base_low m older (newest e older r).1)

-- where no level is above m all is kept
pub kept_all : (m : ℕ) (tr : Trail) → top_level tr ≤ m → kept_to m tr ≡ tr
unfolding kept_to level_of
kept_all m [] h = refl
kept_all m (e ∷ older) h = rw (le-leb e.level m (omega arith)) (ap (λ (l : Trail). e ∷ l) (kept_all m older (omega arith)))

-- ---- the first entries of a trail in words

well_formed_first : {k : ℕ} (w N : ℕ) (ws : List ℕ) (n i : ℕ) → WellFormed k (trail_in w N ws n) → i ≤ n → WellFormed k (trail_in w N ws i)
unfolding trail_in
well_formed_first w N ws zero i r h = let e : i ≡ 0 = omega arith in rw e r
well_formed_first w N ws (suc n) i r h =
    ⊎_elim
    (λ b. let l : i < suc n = ltb-true i (suc n) b in well_formed_first w N ws n i (newest _ _ r).1 (omega arith))
    (λ b. let l : suc n ≤ i = ltb-false i (suc n) b in let e : i ≡ suc n = omega arith in rw e r)
    (is_or_not (ltb i (suc n)))

on_first : (w N : ℕ) (ws : List ℕ) (n i t : ℕ) → on (trail_in w N ws i) t ≡ true → i ≤ n → on (trail_in w N ws n) t ≡ true
unfolding trail_in on
on_first w N ws zero i t o h = let e : i ≡ 0 = omega arith in rw e at o
on_first w N ws (suc n) i t o h =
    ⊎_elim
    (λ b. let l : i < suc n = ltb-true i (suc n) b in rw (on_first w N ws n i t o (omega arith)) (or-true (eqb (get_or ws (order w N + n) 0) t)))
    (λ b. let l : suc n ≤ i = ltb-false i (suc n) b in let e : i ≡ suc n = omega arith in rw e at o)
    (is_or_not (ltb i (suc n)))

-- a term that is among them has its kind from there
pub kind_first : (w N : ℕ) (ws : List ℕ) (n i t : ℕ) → on (trail_in w N ws i) t ≡ true → i ≤ n → kind_at (trail_in w N ws n) t ≡ kind_at (trail_in w N ws i) t
kind_first w N ws n i t o h =
    let p = on_first w N ws n i t o h in
    kind_on t (trail_in w N ws n) p
    ∙ ap (λ (e : Entry). cond e.decided 2 1) (entry_at w N ws n t p ∙ sym (entry_at w N ws i t o))
    ∙ sym (kind_on t (trail_in w N ws i) o)

-- ---- the search for the base, from the newest entry down

-- the base is not among the entries passed
pub record Seeking (w N : ℕ) (ws : List ℕ) (n m i : ℕ) : Type 0 where
  pub laid : Laid w N ws n
  pub room : n ≤ N
  pub within : i ≤ n
  pub same : base_of m (trail_in w N ws i) ≡ base_of m (trail_in w N ws n)

pub seek_start : {w N : ℕ} {ws : List ℕ} {n : ℕ} (m : ℕ) → Laid w N ws n → Seeking w N ws n m n
seek_start {w} {N} {ws} {n} m laid = record { laid = laid; room = room_all w N ws n laid; within = omega arith; same = refl }

module _ {w N : ℕ} {ws : List ℕ} {n m i : ℕ} (u : Seeking w N ws n m i) where
  pub seek_end : i ≡ 0 → Base w N ws n m 0 0
  unfolding trail_in base_of level_of
  seek_end e = record { within = omega arith; trail = rw e at u.same; greatest = refl }

  module _ (more : 0 < i) where
    abbrev t : ℕ
    t = get_or ws (order w N + (i - 1)) 0

    -- the row at a position passed is one of the terms, and on the trail
    pub seek_small : t < N
    seek_small = below_at N w N ws n (i - 1) u.laid.below (omega (arith, u.within))

    pub seek_on_trail : on (trail_in w N ws n) t ≡ true
    seek_on_trail = on_at w N ws n (i - 1) (omega (arith, u.within))

    here : trail_in w N ws i ≡ entry_for w N ws t ∷ trail_in w N ws (i - 1)
    here = let e : i ≡ i - 1 + 1 = omega arith in ap (trail_in w N ws) e ∙ trail_more w N ws (i - 1)

    -- the entry of that row, by its look-up: d says whether it is a decision, which is one level above l
    module _ {d : Bool} {l : ℕ} (d_is : d ≡ decided_at (trail_in w N ws n) t) (l_is : l ≡ level_at (trail_in w N ws n) t - 1) where
      told : entry (trail_in w N ws n) t ≡ entry_for w N ws t
      told = entry_at w N ws n t seek_on_trail

      d_here : d ≡ eqb (get_or ws (kinds w N + t) 0) 2
      d_here = d_is ∙ ap (λ (e : Entry). e.decided) told

      l_here : l ≡ get_or ws (levels w N + t) 0 - 1
      l_here = l_is ∙ ap (λ (e : Entry). e.level - 1) told

      opened : base_of m (trail_in w N ws n) ≡ cond (d && leb l m) (trail_in w N ws (i - 1)) (base_of m (trail_in w N ws (i - 1)))
      unfolding base_of
      opened =
          sym u.same
          ∙ ap (base_of m) here
          ∙ sym (ap₂ (λ (b : Bool) (x : ℕ). cond (b && leb x m) (trail_in w N ws (i - 1)) (base_of m (trail_in w N ws (i - 1)))) d_here l_here)

      pub seek_on : d && leb l m ≡ false → Seeking w N ws n m (i - 1)
      seek_on q = record { laid = u.laid; room = u.room; within = omega (arith, u.within); same = sym (opened ∙ rw q) }

      pub seek_found : {j : ℕ} → WellFormed j (trail_in w N ws n) → d && leb l m ≡ true → Base w N ws n m (i - 1) l
      seek_found r q =
          let b = both_true d (leb l m) q in
          let above = decided_above (entry_for w N ws t) (trail_in w N ws (i - 1)) (rw here at (well_formed_first w N ws n i r u.within)) (sym d_here ∙ b.0) in
          record { within = omega (arith, u.within); trail = sym (opened ∙ rw q); greatest = omega (arith, above, l_here) }
