-- Keeping to a level: the order closes up, the kinds of what goes become 0. Assumes nothing.
use Prim.Native.Nat.{ℕ, ◌+◌, ◌*◌, ◌≤◌, ◌<◌, max}
use native.Mathlib.Omega.{arith}
use mathlib.Core.Path.{◌≡◌, refl, sym, ap, ap₂, ◌∙◌}
use mathlib.Core.Logic.{◌⊎◌, inl, inr, ⊎_elim}
use mathlib.Core.Bool.{true, false, cond}
use mathlib.Core.List.{List, ◌∷◌}
use lib.Dec.{eqb}
use lib.ListN.{get_or, set, length-set}
use lib.Seq.{get_or-set_same, get_or-set_other}
use borrow.Author.Tests.{eqb-true, eqb-false}
use Rattle.calculus.specs.Trail.{Trail, Entry, on, kept_to, top_level}
use Rattle.calculus.specs.WellFormed.{Below, WellFormed}
use Rattle.calculus.proofs.Facts.{is_or_not}
use Rattle.calculus.proofs.Entries.{kept_off}
use Rattle.bitset.specs.Windows.{Only}
use Rattle.trail.specs.Words.{levels, kinds, order, entry_for, trail_in, kind_at, Laid, Cut}
use Rattle.trail_changes.specs.Bases.{Base}
use Rattle.calculus.proofs.Trails.{off_parts, on_older, kept_more, kept_less, kept_distinct, kept_below, top_more}
use Rattle.trail.proofs.TermKind.{kind_here, kind_older, kind_off, kind_on}
use Rattle.trail.proofs.Laws.{why_in_lem, trail_more, below_at, off_at, on_at, distinct_at, below_first, entry_same, trail_set, entry_at, room_all}
use Rattle.trail_changes.proofs.Bases.{base_low, kept_all, kind_first}

-- after i of the n entries of ws₀, j of them left, whose greatest level is top
pub record Cutting (w N : ℕ) (ws₀ ws : List ℕ) (n m j i top : ℕ) : Type 0 where
  pub laid : Laid w N ws₀ n
  pub room : n ≤ N
  pub so_far : i ≤ n
  pub within : j ≤ i
  pub only : Only ws₀ ws (kinds w N) (N + j)
  pub kept : trail_in w N ws j ≡ kept_to m (trail_in w N ws₀ i)
  pub passed : (t : ℕ) → t < N → on (trail_in w N ws₀ i) t ≡ false → get_or ws (kinds w N + t) 0 ≡ get_or ws₀ (kinds w N + t) 0
  pub marks : (t : ℕ) → t < N → on (trail_in w N ws₀ i) t ≡ true → get_or ws (kinds w N + t) 0 ≡ kind_at (kept_to m (trail_in w N ws₀ i)) t
  pub greatest : top ≡ top_level (kept_to m (trail_in w N ws₀ i))

-- the base is kept as it stands
pub cut_base : {w N : ℕ} {ws : List ℕ} {n m i top : ℕ}
    → Laid w N ws n → WellFormed N (trail_in w N ws n) → Base w N ws n m i top → Cutting w N ws ws n m i i top
cut_base {w} {N} {ws} {n} {m} {i} {top} laid r b =
    let low : top_level (trail_in w N ws i) ≤ m = rw b.trail (base_low m (trail_in w N ws n) r) in
    let all = kept_all m (trail_in w N ws i) low in
    record {
      laid = laid;
      room = room_all w N ws n laid;
      so_far = b.within;
      within = omega arith;
      only = record { long = refl; rest = λ k o. refl };
      kept = sym all;
      passed = λ t h o. refl;
      marks = λ t h o. laid.marked t h ∙ kind_first w N ws n i t o b.within ∙ sym (ap (λ (s : Trail). kind_at s t) all);
      greatest = b.greatest ∙ sym (ap top_level all);
    }

module _ {w N : ℕ} {ws₀ ws : List ℕ} {n m j i top : ℕ} (u : Cutting w N ws₀ ws n m j i top) (less : i < n)
    {t : ℕ} (now : get_or ws (order w N + i) 0 ≡ t) where
  abbrev done : Trail
  done = trail_in w N ws₀ i

  -- words that are as they were
  still : (k : ℕ) → (k < kinds w N) ⊎ (kinds w N + (N + j) ≤ k) → get_or ws k 0 ≡ get_or ws₀ k 0
  still = u.only.rest

  was : get_or ws₀ (order w N + i) 0 ≡ t
  was = sym (still (order w N + i) (inr (omega (arith, u.within, u.room)))) ∙ now

  pub small : t < N
  small = rw was at (below_at N w N ws₀ n i u.laid.below less)

  new : on done t ≡ false
  new = rw was at (distinct_at w N ws₀ n i u.laid.distinct less)

  there : on (trail_in w N ws₀ n) t ≡ true
  there = rw was at (on_at w N ws₀ n i less)

  same_level : get_or ws (levels w N + t) 0 ≡ get_or ws₀ (levels w N + t) 0
  same_level = still _ (inl (omega (arith, small)))

  same_entry : entry_for w N ws t ≡ entry_for w N ws₀ t
  same_entry =
      let f : t * w + w ≤ N * w = why_in_lem w t N small in
      entry_same w N ws ws₀ t
      (still _ (inl (omega (arith, small)))) same_level (u.passed t small new) (λ k l. still _ (inl (omega arith)))

  same_kind : get_or ws₀ (kinds w N + t) 0 ≡ cond (eqb (get_or ws₀ (kinds w N + t) 0) 2) 2 1
  same_kind = u.laid.marked t small ∙ kind_on t (trail_in w N ws₀ n) there ∙ ap (λ (e : Entry). cond e.decided 2 1) (entry_at w N ws₀ n t there)

  next : trail_in w N ws₀ (i + 1) ≡ entry_for w N ws₀ t ∷ done
  next = trail_more w N ws₀ i ∙ ap (λ (x : ℕ). entry_for w N ws₀ x ∷ done) was

  below_kept : Below N (trail_in w N ws j)
  below_kept = rw u.kept (kept_below N m done (below_first N w N ws₀ n i u.laid.below (omega arith)))

  -- a term that was there before this turn
  earlier : (v : ℕ) → eqb t v ≡ false → on (entry_for w N ws₀ t ∷ done) v ≡ true → on done v ≡ true
  earlier v q h = sym (on_older v (entry_for w N ws₀ t) done q) ∙ h

  module _ (h : get_or ws (levels w N + t) 0 ≤ m) where
    abbrev keep : List ℕ
    keep = set ws (order w N + j) t

    stays : kept_to m (trail_in w N ws₀ (i + 1)) ≡ entry_for w N ws₀ t ∷ kept_to m done
    stays = ap (kept_to m) next ∙ kept_more (entry_for w N ws₀ t) done m (rw same_level at h)

    keep_kind : (v : ℕ) → v < N → get_or keep (kinds w N + v) 0 ≡ get_or ws (kinds w N + v) 0
    keep_kind v l = get_or-set_other ws (order w N + j) (kinds w N + v) t 0 (λ e. omega arith)

    keep_entry : entry_for w N keep t ≡ entry_for w N ws t
    keep_entry =
        let f : t * w + w ≤ N * w = why_in_lem w t N small in
        let s = small in
        entry_same w N keep ws t
        (get_or-set_other ws (order w N + j) _ t 0 (λ e. omega arith))
        (get_or-set_other ws (order w N + j) _ t 0 (λ e. omega arith))
        (keep_kind t s)
        (λ k l. get_or-set_other ws (order w N + j) _ t 0 (λ e. omega arith))

    pub cut_keep : Cutting w N ws₀ keep n m (j + 1) (i + 1) (max top (get_or ws (levels w N + t) 0))
    cut_keep =
        record {
          laid = u.laid;
          room = u.room;
          so_far = omega arith;
          within = omega (arith, u.within);
          only =
              record {
                long = length-set ws (order w N + j) t ∙ u.only.long;
                rest = λ k o.
                    get_or-set_other ws (order w N + j) k t 0
                    (λ e. ⊎_elim (λ (l : k < kinds w N). omega arith) (λ (l : kinds w N + (N + (j + 1)) ≤ k). omega arith) o)
                    ∙ still k (⊎_elim (λ l. inl l) (λ (l : kinds w N + (N + (j + 1)) ≤ k). inr (omega arith)) o);
              };
          kept =
              trail_more w N keep j
              ∙ ap₂ (λ (x : Entry) (s : Trail). x ∷ s)
              (ap (entry_for w N keep) (get_or-set_same ws (order w N + j) t 0 (omega (arith, u.only.long, u.within, u.laid.enough)))
              ∙ keep_entry ∙ same_entry)
              (trail_set w N ws j (order w N + j) t below_kept (omega arith) (λ p l e. omega arith)
              (λ p l e. omega (arith, below_at N w N ws j p below_kept l))
              ∙ u.kept)
              ∙ sym stays;
          passed = λ v l o.
              let a = off_parts v (entry_for w N ws₀ t) done (rw next at o) in
              keep_kind v l ∙ u.passed v l a.1;
          marks = λ v l o.
              keep_kind v l
              ∙ ⊎_elim
              (λ q. let e : t ≡ v = eqb-true t v q in
              rw (← e) (u.passed t small new ∙ same_kind ∙ sym (kind_here t (entry_for w N ws₀ t) (kept_to m done) refl)))
              (λ q. u.marks v l (earlier v q (rw next at o)) ∙ sym (kind_older v (entry_for w N ws₀ t) (kept_to m done) q))
              (is_or_not (eqb t v))
              ∙ sym (ap (λ (s : Trail). kind_at s v) stays);
          greatest = ap (max top) same_level ∙ top_more (entry_for w N ws₀ t) (kept_to m done) top u.greatest ∙ sym (ap top_level stays);
        }

  module _ (h : m < get_or ws (levels w N + t) 0) where
    abbrev drop : List ℕ
    drop = set ws (kinds w N + t) 0

    goes : kept_to m (trail_in w N ws₀ (i + 1)) ≡ kept_to m done
    goes = ap (kept_to m) next ∙ kept_less (entry_for w N ws₀ t) done m (rw same_level at h)

    gone : on (kept_to m done) t ≡ false
    gone = kept_off m done t new

    pub cut_drop : Cutting w N ws₀ drop n m j (i + 1) top
    cut_drop =
        let s = small in
        record {
          laid = u.laid;
          room = u.room;
          so_far = omega arith;
          within = omega (arith, u.within);
          only =
              record {
                long = length-set ws (kinds w N + t) 0 ∙ u.only.long;
                rest = λ k o.
                    get_or-set_other ws (kinds w N + t) k 0 0
                    (λ e. ⊎_elim (λ (l : k < kinds w N). omega arith) (λ (l : kinds w N + (N + j) ≤ k). omega arith) o)
                    ∙ still k o;
              };
          kept =
              trail_set w N ws j (kinds w N + t) 0 below_kept (omega arith) (λ p l e. omega arith)
              (λ p l e. off_at w N ws j t p (rw u.kept gone) l (omega arith))
              ∙ u.kept ∙ sym goes;
          passed = λ v l o.
              let a = off_parts v (entry_for w N ws₀ t) done (rw next at o) in
              let ne : t ≡ v → ⊥ = eqb-false t v a.0 in
              get_or-set_other ws (kinds w N + t) (kinds w N + v) 0 0 (λ e. ne (omega arith)) ∙ u.passed v l a.1;
          marks = λ v l o.
              ⊎_elim
              (λ q. let e : t ≡ v = eqb-true t v q in
              rw (← e) (get_or-set_same ws (kinds w N + t) 0 0 (omega (arith, u.only.long, u.laid.enough)) ∙ sym (kind_off t (kept_to m done) gone)))
              (λ q. let ne : t ≡ v → ⊥ = eqb-false t v q in
              get_or-set_other ws (kinds w N + t) (kinds w N + v) 0 0 (λ e. ne (omega arith)) ∙ u.marks v l (earlier v q (rw next at o)))
              (is_or_not (eqb t v))
              ∙ sym (ap (λ (s : Trail). kind_at s v) goes);
          greatest = u.greatest ∙ sym (ap top_level goes);
        }

pub cut_all : {w N : ℕ} {ws₀ ws : List ℕ} {n m j i top : ℕ} → Cutting w N ws₀ ws n m j i top → n ≤ i → Cut w N ws₀ ws n m j top
cut_all {w} {N} {ws₀} {ws} {n} {m} {j} {i} u over =
    let e : i ≡ n = omega (arith, u.so_far) in
    let laid = u.laid in
    let room = u.room in
    let kept : trail_in w N ws j ≡ kept_to m (trail_in w N ws₀ n) = rw e at u.kept in
    record {
      only =
          record {
            long = u.only.long;
            rest = λ k o.
                u.only.rest k (⊎_elim (λ (l : k < N * w). inl (omega arith)) (λ (l : N * w + 4 * N ≤ k). inr (omega (arith, u.within))) o);
          };
      trail = kept;
      laid =
          record {
            enough = omega (arith, u.only.long, laid.enough);
            wide = laid.wide;
            narrow = laid.narrow;
            marked = λ t l.
                ⊎_elim
                (λ q. rw e at u.marks t l q)
                (λ o.
                rw e at u.passed t l o ∙ laid.marked t l ∙ kind_off t (trail_in w N ws₀ n) o
                ∙ sym (kind_off t (kept_to m (trail_in w N ws₀ n)) (kept_off m (trail_in w N ws₀ n) t o)))
                (is_or_not (on (trail_in w N ws₀ n) t))
                ∙ sym (ap (λ (s : Trail). kind_at s t) kept);
            distinct = rw kept (kept_distinct m (trail_in w N ws₀ n) laid.distinct);
            below = rw kept (kept_below N m (trail_in w N ws₀ n) laid.below);
          };
      greatest = u.greatest ∙ ap (λ (k : ℕ). top_level (kept_to m (trail_in w N ws₀ k))) e ∙ sym (ap top_level kept);
    }
