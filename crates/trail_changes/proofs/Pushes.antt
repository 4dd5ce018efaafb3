-- One entry more: four words are written. Assumes nothing.
use Prim.Native.Nat.{ℕ, ◌+◌, ◌*◌, ◌%◌, ◌≤◌, ◌<◌}
use native.Mathlib.Nat.{mod-eq_of_lt}
use native.Mathlib.Omega.{arith}
use mathlib.Core.Path.{◌≡◌, refl, sym, ap, ap₂, ◌∙◌}
use mathlib.Core.Logic.{⊎_elim}
use mathlib.Core.Bool.{Bool, true, false, cond}
use mathlib.Core.List.{List, ◌∷◌}
use lib.Dec.{eqb}
use lib.ListN.{length, get_or, set, length-set}
use lib.Seq.{get_or-set_same, get_or-set_other}
use mir.Val.{bool_byte}
use borrow.Author.Tests.{eqb-true, eqb-false, ne_eqb}
use Rattle.calculus.specs.Trail.{Trail, Entry, empty, on}
use Rattle.calculus.specs.WellFormed.{Distinct, Below}
use Rattle.calculus.proofs.Facts.{is_or_not}
use Rattle.bitset.specs.Windows.{set_at}
use Rattle.bitset.proofs.Windows.{same_set}
use Rattle.trail.specs.Words.{values, levels, kinds, order, entry_of, entry_for, trail_in, kind_at, Laid, Pushed}
use Rattle.trail.proofs.TermKind.{kind_here, kind_older}
use Rattle.trail.proofs.Laws.{why_in_lem, trail_more, below_at, off_at, entry_same, trail_same, room_one}

-- ---- four stores, read back
abbrev four : List ℕ → ℕ → ℕ → ℕ → ℕ → ℕ → ℕ → ℕ → ℕ → List ℕ
four ws a b c d x y z u = set (set (set (set ws a x) b y) c z) d u

module _ (ws : List ℕ) (a b c d : ℕ) (x y z u : ℕ) where
  abbrev one : List ℕ
  one = set ws a x

  abbrev two : List ℕ
  two = set one b y

  abbrev three : List ℕ
  three = set two c z

  four_long : length (four ws a b c d x y z u) ≡ length ws
  four_long = simp length-set

  four_else : (k : ℕ) → (k ≡ a → ⊥) → (k ≡ b → ⊥) → (k ≡ c → ⊥) → (k ≡ d → ⊥) → get_or (four ws a b c d x y z u) k 0 ≡ get_or ws k 0
  four_else k na nb nc nd = get_or-set_other three d k u 0 nd ∙ get_or-set_other two c k z 0 nc ∙ get_or-set_other one b k y 0 nb
      ∙ get_or-set_other ws a k x 0 na

  module _ (p : a < b) (q : b < c) (r : c < d) (l : d < length ws) where
    four_a : get_or (four ws a b c d x y z u) a 0 ≡ x
    four_a =
        get_or-set_other three d a u 0 (λ e. omega arith) ∙ get_or-set_other two c a z 0 (λ e. omega arith) ∙ get_or-set_other one b a y 0 (λ e. omega arith)
        ∙ get_or-set_same ws a x 0 (omega arith)

    four_b : get_or (four ws a b c d x y z u) b 0 ≡ y
    four_b =
        get_or-set_other three d b u 0 (λ e. omega arith) ∙ get_or-set_other two c b z 0 (λ e. omega arith)
        ∙ get_or-set_same one b y 0 (simp length-set (omega arith))

    four_c : get_or (four ws a b c d x y z u) c 0 ≡ z
    four_c = get_or-set_other three d c u 0 (λ e. omega arith) ∙ get_or-set_same two c z 0 (simp length-set (omega arith))

    four_d : get_or (four ws a b c d x y z u) d 0 ≡ u
    four_d = get_or-set_same three d u 0 (simp length-set (omega arith))

-- ---- the kind that is written
flag : (d : Bool) → eqb (1 + bool_byte d) 2 ≡ d
flag true = refl
flag false = refl

kind_of : (d : Bool) → 1 + bool_byte d ≡ cond d 2 1
kind_of true = refl
kind_of false = refl

module _ (w N : ℕ) (ws : List ℕ) (n t v l : ℕ) (d : Bool) (fits : v < 65536) (laid : Laid w N ws n) (h : t < N) (off : on (trail_in w N ws n) t ≡ false) where
  room : n < N
  room = room_one w N ws n t laid h off

  last : order w N + n < length ws
  last = omega (arith, room, laid.enough)

  abbrev after : List ℕ
  after = four ws (values w N + t) (levels w N + t) (kinds w N + t) (order w N + n) v l (1 + bool_byte d) t

  long : length after ≡ length ws
  long = four_long ws (values w N + t) (levels w N + t) (kinds w N + t) (order w N + n) v l (1 + bool_byte d) t

  else : (k : ℕ) → (k ≡ values w N + t → ⊥) → (k ≡ levels w N + t → ⊥) → (k ≡ kinds w N + t → ⊥) → (k ≡ order w N + n → ⊥) → get_or after k 0 ≡ get_or ws k 0
  else = four_else ws (values w N + t) (levels w N + t) (kinds w N + t) (order w N + n) v l (1 + bool_byte d) t

  -- the four words that are written
  value_now : get_or after (values w N + t) 0 ≡ v
  value_now =
      four_a ws (values w N + t) (levels w N + t) (kinds w N + t) (order w N + n) v l (1 + bool_byte d) t
      (omega arith) (omega arith) (omega arith) last

  level_now : get_or after (levels w N + t) 0 ≡ l
  level_now =
      four_b ws (values w N + t) (levels w N + t) (kinds w N + t) (order w N + n) v l (1 + bool_byte d) t
      (omega arith) (omega arith) (omega arith) last

  kind_now : get_or after (kinds w N + t) 0 ≡ 1 + bool_byte d
  kind_now =
      four_c ws (values w N + t) (levels w N + t) (kinds w N + t) (order w N + n) v l (1 + bool_byte d) t
      (omega arith) (omega arith) (omega arith) last

  term_now : get_or after (order w N + n) 0 ≡ t
  term_now =
      four_d ws (values w N + t) (levels w N + t) (kinds w N + t) (order w N + n) v l (1 + bool_byte d) t
      (omega arith) (omega arith) (omega arith) last

  in_why : (u k : ℕ) → u < N → k < w → u * w + k < N * w
  in_why u k p q = omega (arith, why_in_lem w u N p)

  -- the words of another term
  others : (u : ℕ) → u < N → (u ≡ t → ⊥) → entry_for w N after u ≡ entry_for w N ws u
  others u p ne =
      let f : u * w + w ≤ N * w = why_in_lem w u N p in
      let r = room in
      entry_same w N after ws u
      (else _ (λ e. omega arith) (λ e. omega arith) (λ e. omega arith) (λ e. omega arith))
      (else _ (λ e. omega arith) (λ e. omega arith) (λ e. omega arith) (λ e. omega arith))
      (else _ (λ e. omega arith) (λ e. omega arith) (λ e. omega arith) (λ e. omega arith))
      (λ k q. else _ (λ e. omega arith) (λ e. omega arith) (λ e. omega arith) (λ e. omega arith))

  before : trail_in w N after n ≡ trail_in w N ws n
  before =
      let r = room in
      sym (trail_same w N ws after n
      (λ i p. sym (else _ (λ e. omega arith) (λ e. omega arith) (λ e. omega arith) (λ e. omega arith)))
      (λ i p. sym (others _ (below_at N w N ws n i laid.below p) (off_at w N ws n t i off p))))

  abbrev entry : Entry
  entry = entry_of t v l d (set_at ws (t * w) w)

  made : entry_for w N after t ≡ entry
  made x =
      record {
        term = t;
        value = (ap (λ (m : ℕ). m % 65536) value_now ∙ mod-eq_of_lt fits) x;
        level = level_now x;
        decided = (ap (λ (m : ℕ). eqb m 2) kind_now ∙ flag d) x;
        why = cond ((ap (λ (m : ℕ). eqb m 2) kind_now ∙ flag d) x) empty
            (same_set after ws (t * w) (t * w) w
            (λ k q. let g = in_why t k h q in else _ (λ e. omega arith) (λ e. omega arith) (λ e. omega arith) (λ e. omega arith)) x);
      }

  trail : trail_in w N after (n + 1) ≡ entry ∷ trail_in w N ws n
  trail =
      trail_more w N after n
      ∙ ap₂ (λ (x : Entry) (s : Trail). x ∷ s)
      (ap (entry_for w N after) term_now ∙ made)
      before

  marked : (u : ℕ) → u < N → get_or after (kinds w N + u) 0 ≡ kind_at (entry ∷ trail_in w N ws n) u
  marked u p =
      let r = room in
      ⊎_elim
      (λ q. let e : u ≡ t = eqb-true u t q in
      rw e (kind_now ∙ kind_of d ∙ sym (kind_here t entry (trail_in w N ws n) refl)))
      (λ q. let ne : u ≡ t → ⊥ = eqb-false u t q in
      else _ (λ e. omega arith) (λ e. omega arith) (λ e. omega arith) (λ e. omega arith)
      ∙ laid.marked u p ∙ sym (kind_older u entry (trail_in w N ws n) (ne_eqb t u (λ e. omega arith))))
      (is_or_not (eqb u t))

  pub pushed : Pushed w N ws after n entry
  unfolding Distinct Below
  pushed =
      let r = room in
      record {
        only = record {
          long = long;
          rest = λ k o. else k (λ e. ⊎_elim (λ (q : k < N * w). omega arith) (λ (q : N * w + 4 * N ≤ k). omega arith) o)
              (λ e. ⊎_elim (λ (q : k < N * w). omega arith) (λ (q : N * w + 4 * N ≤ k). omega arith) o)
              (λ e. ⊎_elim (λ (q : k < N * w). omega arith) (λ (q : N * w + 4 * N ≤ k). omega arith) o)
              (λ e. ⊎_elim (λ (q : k < N * w). omega arith) (λ (q : N * w + 4 * N ≤ k). omega arith) o);
        };
        trail = trail;
        laid =
            record {
              enough = omega (arith, long, laid.enough);
              wide = laid.wide;
              narrow = laid.narrow;
              marked = λ u p. rw trail (marked u p);
              distinct = rw trail (off, laid.distinct);
              below = rw trail (h, laid.below);
            };
      }
