-- Windows: what a store, or a run of stores, makes of the set in one. Assumes nothing.
use Prim.Native.Nat.{ℕ, ◌+◌, ◌-◌, ◌*◌, ◌/◌, ◌%◌, ◌^◌, ◌≤◌, ◌<◌}
use native.Mathlib.Omega.{arith}
use mathlib.Core.Path.{◌≡◌, refl, sym, ap, subst, ap₂, ◌∙◌}
use mathlib.Core.Logic.{◌⊎◌, inl, inr, ⊎_elim}
use mathlib.Core.Bool.{Bool, false, ◌&&◌, ◌||◌, not, or-false, and-true}
use mathlib.Core.List.{List}
use lib.Dec.{eqb, ltb}
use lib.ListN.{length, get_or, set, replicate, length-set}
use borrow.Rule.Slice.PartMut.{put_mid}
use Rattle.std.proofs.lemmas.List.{places}
use Rattle.std.proofs.lemmas.Nat.{one_shl}
use lib.Seq.{get_or-set_same, get_or-set_other}
use lib.Bits.{bit_or, bit_and}
use borrow.Author.Tests.{ltb-true, ltb-false, eqb-true, eqb-false, lt-ltb, le-ltb, eq-eqb, ne_eqb}
use Rattle.calculus.proofs.Facts.{is_or_not}
use Rattle.calculus.specs.Trail.{Set, empty, insert, remove, union}
use Rattle.bitset.specs.Members.{IsWord}
use Rattle.bitset.specs.Windows.{bit_at, set_at, Only, Holds}
use Rattle.bitset.proofs.Bits.{bit_at_or, bit_set, bit_cleared, bit_zero}

-- ---- reading a window

pub set_in : (ws : List ℕ) (b w t : ℕ) → t / 64 < w → set_at ws b w t ≡ bit_at (get_or ws (b + t / 64) 0) (t % 64)
unfolding set_at
set_in ws b w t h = rw (lt-ltb (t / 64) w h)

-- no row past a window is in it
pub set_past : (ws : List ℕ) (b w t : ℕ) → w ≤ t / 64 → set_at ws b w t ≡ false
unfolding set_at
set_past ws b w t h = rw (le-ltb (t / 64) w h)

-- row by row: those whose word is in the window
by_word : (s : Set) (ws : List ℕ) (b w : ℕ) → ((u : ℕ) → u / 64 < w → bit_at (get_or ws (b + u / 64) 0) (u % 64) ≡ s u) → ((u : ℕ) → w ≤ u / 64 → false ≡ s u)
    → set_at ws b w ≡ s
by_word s ws b w f g i u =
    ⊎_elim
    (λ l. let m : u / 64 < w = ltb-true _ _ l in set_in ws b w u m ∙ f u m)
    (λ l. let m : w ≤ u / 64 = ltb-false _ _ l in set_past ws b w u m ∙ g u m)
    (is_or_not (ltb (u / 64) w))
    i

-- two windows with the same words
pub same_set : (ws vs : List ℕ) (a b w : ℕ) → ((k : ℕ) → k < w → get_or ws (a + k) 0 ≡ get_or vs (b + k) 0) → set_at ws a w ≡ set_at vs b w
same_set ws vs a b w h =
    by_word (set_at vs b w) ws a w
    (λ u m. ap (λ (x : ℕ). bit_at x (u % 64)) (h (u / 64) m) ∙ sym (set_in vs b w u m))
    (λ u m. sym (set_past vs b w u m))

-- ---- changes one after the other

pub only_twice : (ws us vs : List ℕ) (b w : ℕ) → Only ws us b w → Only us vs b w → Only ws vs b w
only_twice ws us vs b w o q = record { long = q.long ∙ o.long; rest = λ k h. q.rest k h ∙ o.rest k h }

pub holds_twice : (ws us vs : List ℕ) (b w : ℕ) (s r : Set) → Holds ws us b w s → Holds us vs b w r → Holds ws vs b w r
holds_twice ws us vs b w s r one two = record { only = only_twice ws us vs b w one.only two.only; set = two.set }

-- ---- a word with one bit changed

-- the code's 1 << (t % 64)
pub mask : (t : ℕ) → 1 * 2 ^ (t % 64) % 2 ^ 64 ≡ 2 ^ (t % 64)
mask t = one_shl (t % 64) 64 (omega arith)

-- u is t where its word and its bit are
pub same_row : (u t : ℕ) → u / 64 ≡ t / 64 → eqb (u % 64) (t % 64) ≡ eqb u t
same_row u t e =
    ⊎_elim
    (λ b. let q : u % 64 ≡ t % 64 = eqb-true _ _ b in b ∙ sym (eq-eqb u t (omega arith)))
    (λ b. b ∙ sym (ne_eqb u t (λ q. eqb-false _ _ b (ap (λ (n : ℕ). n % 64) q))))
    (is_or_not (eqb (u % 64) (t % 64)))

-- a store of a word that differs from the old one at bit t % 64, by `op`, changes the set at t alone, by `op`
module _ (op : Bool → Bool → Bool) (keeps : (b : Bool) → op b false ≡ b) (ws : List ℕ) (b w t v : ℕ) (h : t / 64 < w) (f : b + w ≤ length ws)
    (bits : (k : ℕ) → k < 64 → bit_at v k ≡ op (bit_at (get_or ws (b + t / 64) 0) k) (eqb k (t % 64))) where
  changed_at : (u : ℕ) → bit_at (get_or (set ws (b + t / 64) v) (b + u / 64) 0) (u % 64) ≡ op (bit_at (get_or ws (b + u / 64) 0) (u % 64)) (eqb u t)
  changed_at u =
      ⊎_elim
      (λ q. let e : u / 64 ≡ t / 64 = eqb-true _ _ q in
      rw (e, get_or-set_same ws (b + t / 64) v 0 (omega arith), ← same_row u t e, ← bits (u % 64) (omega arith)))
      (λ q. let n : u / 64 ≡ t / 64 → ⊥ = eqb-false _ _ q in
      ap (λ (x : ℕ). bit_at x (u % 64)) (get_or-set_other ws (b + t / 64) (b + u / 64) v 0 (λ e. n (omega arith)))
      ∙ sym (ap (op (bit_at (get_or ws (b + u / 64) 0) (u % 64))) (ne_eqb u t (λ e. n (ap (λ (k : ℕ). k / 64) e))) ∙ keeps _))
      (is_or_not (eqb (u / 64) (t / 64)))

  changed : (s : Set) → ((u : ℕ) → s u ≡ op (set_at ws b w u) (eqb u t)) → Holds ws (set ws (b + t / 64) v) b w s
  changed s is =
      record {
        only =
            record {
              long = length-set ws (b + t / 64) v;
              rest = λ k o. get_or-set_other ws (b + t / 64) k v 0 (λ e. ⊎_elim (λ (l : k < b). omega arith) (λ (l : b + w ≤ k). omega arith) o);
            };
        set =
            by_word s (set ws (b + t / 64) v) b w
            (λ u m. changed_at u ∙ ap (λ (x : Bool). op x (eqb u t)) (sym (set_in ws b w u m)) ∙ sym (is u))
            (λ u m. sym (is u ∙ ap (op (set_at ws b w u)) (ne_eqb u t (λ e. omega arith)) ∙ keeps _ ∙ set_past ws b w u m));
      }

module _ (ws : List ℕ) (b w t : ℕ) (h : t / 64 < w) (f : b + w ≤ length ws) where
  abbrev old : ℕ
  old = get_or ws (b + t / 64) 0

  abbrev bit : ℕ
  bit = 1 * 2 ^ (t % 64) % 2 ^ 64

  pub insert_at : Holds ws (set ws (b + t / 64) (bit_or old bit)) b w (insert (set_at ws b w) t)
  insert_at = changed ◌||◌ or-false ws b w t _ h f (λ k l. bit_set old (t % 64) (omega arith) k) _ (λ u. refl)

  pub remove_at : Holds ws (set ws (b + t / 64) (bit_and old (2 ^ 64 - 1 - bit))) b w (remove (set_at ws b w) t)
  remove_at = changed (λ x y. x && not y) and-true ws b w t _ h f (bit_cleared old (t % 64) (omega arith)) _ (λ u. refl)

-- ---- a run of stores: after i of them the words at b are as P says

pub record Filled (ws₀ ws : List ℕ) (b i : ℕ) (P : ℕ → ℕ → Type 0) : Type 0 where
  pub only : Only ws₀ ws b i
  pub done : (k : ℕ) → k < i → P k (get_or ws (b + k) 0)

pub filled_none : (ws : List ℕ) (b : ℕ) (P : ℕ → ℕ → Type 0) → Filled ws ws b 0 P
filled_none ws b P = record { only = record { long = refl; rest = λ k o. refl }; done = λ k h. absurd (omega arith) }

pub filled_more : (ws₀ ws : List ℕ) (b i : ℕ) (P : ℕ → ℕ → Type 0) (v : ℕ) → b + i < length ws₀ → Filled ws₀ ws b i P → P i v
    → Filled ws₀ (set ws (b + i) v) b (i + 1) P
filled_more ws₀ ws b i P v h u e =
    record {
      only =
          record {
            long = length-set ws (b + i) v ∙ u.only.long;
            rest = λ k o.
                get_or-set_other ws (b + i) k v 0 (λ q. ⊎_elim (λ l. omega arith) (λ l. omega arith) o)
                ∙ u.only.rest k (⊎_elim (λ l. inl l) (λ l. inr (omega arith)) o);
          };
      done = λ k l.
          ⊎_elim
          (λ q. let r : k ≡ i = eqb-true k i q in rw r (subst (P i) (sym (get_or-set_same ws (b + i) v 0 (omega (arith, u.only.long)))) e))
          (λ q. let n : k ≡ i → ⊥ = eqb-false k i q in
          subst (P k) (sym (get_or-set_other ws (b + i) (b + k) v 0 (λ r. n (omega arith)))) (u.done k (omega arith)))
          (is_or_not (eqb k i));
    }

-- what has not been stored to is as it was
pub still : (ws₀ ws : List ℕ) (b i : ℕ) (P : ℕ → ℕ → Type 0) → Filled ws₀ ws b i P → (k : ℕ) → (k < b) ⊎ (b + i ≤ k) → get_or ws k 0 ≡ get_or ws₀ k 0
still ws₀ ws b i P u k o = u.only.rest k o

-- the words at b become the w words vs, which are 0
pub zeroed : (ws vs : List ℕ) (b w : ℕ) → b + w ≤ length ws → vs ≡ replicate w 0 → Filled ws (put_mid b (b + w - b) ws vs) b w (λ k x. x ≡ 0)
zeroed ws vs b w h e =
    rw e
    (record {
      only =
          record {
            long = grind (arith, places);
            rest = λ k o. ⊎_elim (λ (l : k < b). grind (arith, places)) (λ (l : b + w ≤ k). grind (arith, places)) o;
          };
      done = λ k l. grind (arith, places);
    })

pub cleared : (ws₀ ws : List ℕ) (b w : ℕ) → Filled ws₀ ws b w (λ k x. x ≡ 0) → Holds ws₀ ws b w empty
cleared ws₀ ws b w u =
    record {
      only = u.only;
      set = by_word empty ws b w (λ t m. ap (λ (x : ℕ). bit_at x (t % 64)) (u.done (t / 64) m) ∙ bit_zero (t % 64)) (λ t m. refl);
    }

-- the words are those of a set that has nothing past them
pub stored : (ws₀ ws : List ℕ) (b w : ℕ) (s : Set) → Filled ws₀ ws b w (IsWord s) → ((u : ℕ) → w ≤ u / 64 → s u ≡ false) → Holds ws₀ ws b w s
stored ws₀ ws b w s u past =
    record { only = u.only; set = by_word s ws b w (λ t m. sym (u.done (t / 64) m t refl)) (λ t m. sym (past t m)) }

pub united : (ws₀ ws : List ℕ) (to from w : ℕ) → Filled ws₀ ws to w (λ k x. x ≡ bit_or (get_or ws₀ (to + k) 0) (get_or ws₀ (from + k) 0))
    → Holds ws₀ ws to w (union (set_at ws₀ to w) (set_at ws₀ from w))
united ws₀ ws to from w u =
    record {
      only = u.only;
      set =
          by_word (union (set_at ws₀ to w) (set_at ws₀ from w)) ws to w
          (λ t m. ap (λ (x : ℕ). bit_at x (t % 64)) (u.done (t / 64) m) ∙ bit_at_or _ _ (t % 64) ∙ sym (ap₂ ◌||◌ (set_in ws₀ to w t m) (set_in ws₀ from w t m)))
          (λ t m. sym (ap₂ ◌||◌ (set_past ws₀ to w t m) (set_past ws₀ from w t m)));
    }
