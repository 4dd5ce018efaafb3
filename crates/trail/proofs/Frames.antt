-- What leaves the trail as it is: a change of the words of a term that is not on it, and of the conflict's. What a term's words tell.
-- Assumes nothing.
use Prim.Native.Nat.{ℕ, ◌+◌, ◌*◌, ◌%◌, ◌≤◌, ◌<◌}
use native.Mathlib.Omega.{arith}
use mathlib.Core.Path.{◌≡◌, refl, sym, ap, ◌∙◌}
use mathlib.Core.Logic.{inl, inr, ⊎_elim}
use mathlib.Core.Bool.{Bool, true, false, ◌&&◌, cond}
use mathlib.Core.List.{List}
use lib.Dec.{eqb, ltb}
use lib.ListN.{length, get_or}
use borrow.Author.Tests.{ltb-true, ltb-false, eqb-true, eqb-false}
use Rattle.calculus.specs.Trail.{Trail, Entry, empty, on, value_at, level_at, decided_at, why_at, assigned}
use Rattle.calculus.specs.WellFormed.{Distinct, Below}
use Rattle.calculus.proofs.Facts.{is_or_not, true_or_false}
use Rattle.calculus.proofs.Entries.{entry_off}
use Rattle.bitset.specs.Windows.{set_at, Only}
use Rattle.bitset.proofs.Windows.{Filled}
use Rattle.trail.specs.Words.{values, levels, kinds, order, conflict, trail_in, kind_at, Laid, Started, Still}
use Rattle.trail.proofs.TermKind.{kind_off, kind_on}
use Rattle.trail.proofs.Laws.{why_in_lem, below_at, on_at, entry_same, trail_same, room_all, entry_at}

-- the numbers and the order are the same, and so is the justification of each term in the order
module _ (w N : ℕ) (ws vs : List ℕ) (n : ℕ) (laid : Laid w N ws n) (long : length vs ≡ length ws)
    (numbers : (k : ℕ) → N * w ≤ k → k < conflict w N → get_or vs k 0 ≡ get_or ws k 0)
    (whys : (u k : ℕ) → u < N → on (trail_in w N ws n) u ≡ true → k < w → get_or vs (u * w + k) 0 ≡ get_or ws (u * w + k) 0) where
  same : trail_in w N vs n ≡ trail_in w N ws n
  same =
      let r : n ≤ N = room_all w N ws n laid in
      sym (trail_same w N ws vs n (λ i l. sym (numbers _ (omega arith) (omega arith)))
      (λ i l.
      let p : get_or ws (order w N + i) 0 < N = below_at N w N ws n i laid.below l in
      sym (entry_same w N vs ws (get_or ws (order w N + i) 0)
      (numbers _ (omega arith) (omega arith)) (numbers _ (omega arith) (omega arith)) (numbers _ (omega arith) (omega arith))
      (λ k q. whys _ k p (on_at w N ws n i l) q))))

  pub frame : Still w N ws vs n
  frame =
      record {
        trail = same;
        laid =
            record {
              enough = omega (arith, long, laid.enough);
              wide = laid.wide;
              narrow = laid.narrow;
              marked = λ t l. numbers _ (omega arith) (omega arith) ∙ laid.marked t l ∙ sym (ap (λ (s : Trail). kind_at s t) same);
              distinct = rw same laid.distinct;
              below = rw same laid.below;
            };
      }

-- a term that is not on the trail: its own words
pub built : (w N : ℕ) (ws vs : List ℕ) (n t : ℕ) → Laid w N ws n → t < N → on (trail_in w N ws n) t ≡ false → Only ws vs (t * w) w → Still w N ws vs n
built w N ws vs n t laid h off o =
    let e : t * w + w ≤ N * w = why_in_lem w t N h in
    frame w N ws vs n laid o.long (λ k p q. o.rest k (inr (omega arith)))
    (λ u k l on q.
    o.rest _ (⊎_elim
    (λ b. inl (omega (arith, why_in_lem w u t (ltb-true u t b))))
    (λ b. let g : t ≤ u = ltb-false u t b in ⊎_elim
    (λ z. let y : u ≡ t = eqb-true u t z in absurd (true_or_false on (rw y off)))
    (λ z. let y : u ≡ t → ⊥ = eqb-false u t z in inr (omega (arith, why_in_lem w t u (omega arith))))
    (is_or_not (eqb u t)))
    (is_or_not (ltb u t))))

-- the conflict, and what comes after it
pub beside : (w N : ℕ) (ws vs : List ℕ) (n b x : ℕ) → Laid w N ws n → conflict w N ≤ b → Only ws vs b x → Still w N ws vs n
beside w N ws vs n b x laid h o =
    frame w N ws vs n laid o.long (λ k p q. o.rest k (inl (omega arith)))
    (λ u k l on q. o.rest _ (inl (omega (arith, why_in_lem w u N l))))

pub still_twice : (w N : ℕ) (ws us vs : List ℕ) (n : ℕ) → Still w N ws us n → Still w N us vs n → Still w N ws vs n
still_twice w N ws us vs n p q = record { trail = q.trail ∙ p.trail; laid = q.laid }

-- ---- nothing on the trail

pub started : {w N : ℕ} {ws vs : List ℕ} → conflict w N + w ≤ length ws → N ≤ 64 * w → w ≤ 1023 → Filled ws vs (kinds w N) N (λ k x. x ≡ 0)
    → Started w N ws vs
unfolding trail_in Distinct Below on kind_at
started h wide narrow f =
    record {
      only = f.only;
      laid = record { enough = omega (arith, f.only.long); wide = wide; narrow = narrow; marked = f.done; distinct = tt; below = tt };
    }

-- ---- a term's words

-- its value and its level, where it is on the trail
pub value_word : (w N : ℕ) (ws : List ℕ) (n t : ℕ) → on (trail_in w N ws n) t ≡ true → get_or ws (values w N + t) 0 % 65536 ≡ value_at (trail_in w N ws n) t
value_word w N ws n t h = sym (ap (λ (e : Entry). e.value) (entry_at w N ws n t h))

pub level_word : (w N : ℕ) (ws : List ℕ) (n t : ℕ) → on (trail_in w N ws n) t ≡ true → get_or ws (levels w N + t) 0 ≡ level_at (trail_in w N ws n) t
level_word w N ws n t h = sym (ap (λ (e : Entry). e.level) (entry_at w N ws n t h))

module _ (w N : ℕ) (ws : List ℕ) (n t : ℕ) (laid : Laid w N ws n) (h : t < N) where
  -- on the trail or not, and a decision or not: by the kind
  word_on : on (trail_in w N ws n) t ≡ true → get_or ws (kinds w N + t) 0 ≡ cond (decided_at (trail_in w N ws n) t) 2 1
  word_on o = laid.marked t h ∙ kind_on t (trail_in w N ws n) o

  word_off : on (trail_in w N ws n) t ≡ false → get_or ws (kinds w N + t) 0 ≡ 0
  word_off o = laid.marked t h ∙ kind_off t (trail_in w N ws n) o

  pub on_word : ltb 0 (get_or ws (kinds w N + t) 0) ≡ on (trail_in w N ws n) t
  on_word =
      ⊎_elim
      (λ o. ap (ltb 0) (word_on o) ∙ some (decided_at (trail_in w N ws n) t) ∙ sym o)
      (λ o. ap (ltb 0) (word_off o) ∙ sym o)
      (is_or_not (on (trail_in w N ws n) t))
    where
      some : (b : Bool) → ltb 0 (cond b 2 1) ≡ true
      some true = refl
      some false = refl

  pub decided_word : eqb (get_or ws (kinds w N + t) 0) 2 ≡ decided_at (trail_in w N ws n) t
  decided_word =
      ⊎_elim
      (λ o. ap (λ (k : ℕ). eqb k 2) (word_on o) ∙ two (decided_at (trail_in w N ws n) t))
      (λ o. ap (λ (k : ℕ). eqb k 2) (word_off o) ∙ sym (ap (λ (e : Entry). e.decided) (entry_off (trail_in w N ws n) t o)))
      (is_or_not (on (trail_in w N ws n) t))
    where
      two : (b : Bool) → eqb (cond b 2 1) 2 ≡ b
      two true = refl
      two false = refl

  -- with the value v
  pub assigned_word : (v : ℕ) → ltb 0 (get_or ws (kinds w N + t) 0) && eqb (get_or ws (values w N + t) 0 % 65536) v ≡ assigned (trail_in w N ws n) t v
  assigned_word v =
      ap (λ (b : Bool). b && eqb (get_or ws (values w N + t) 0 % 65536) v) on_word
      ∙ ⊎_elim
      (λ o. ap (λ (e : Entry). on (trail_in w N ws n) t && eqb e.value v) (sym (entry_at w N ws n t o)))
      (λ o. rw o)
      (is_or_not (on (trail_in w N ws n) t))

  -- where it is justified, its own words hold the justification
  pub why_words : on (trail_in w N ws n) t ≡ true → decided_at (trail_in w N ws n) t ≡ false → why_at (trail_in w N ws n) t ≡ set_at ws (t * w) w
  why_words o d =
      ap (λ (e : Entry). e.why) (entry_at w N ws n t o)
      ∙ ap (λ (b : Bool). cond b empty (set_at ws (t * w) w)) (decided_word ∙ d)
