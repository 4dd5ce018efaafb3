-- Tests below a bound; the first row with a head; rows noted by a key; rows chained by a key; the search for equal rows.
use mathlib.Core.Path.{◌≡◌, refl, sym, ap, ◌∙◌}
use mathlib.Core.Bool.{Bool, true, false, not, ◌&&◌, ◌||◌, cond, true≢false}
use mathlib.Core.List.{List}
use Prim.Native.Nat.{ℕ, zero, suc, ◌+◌, ◌*◌, ◌≤◌, ◌<◌}
use native.Mathlib.Omega.{arith}
use native.Mathlib.Nat.{not-suc-le-zero}
use native.Mathlib.Numerals.{add-one, unary_clauses}
use lib.ListN.{length, get_or, set, length-set}
use lib.Seq.{get_or-set_same, get_or-set_other}
use lib.Dec.{eqb, leb, ltb}
use borrow.Author.Tests.{leb-true, leb-false, ltb-true, ltb-false, eqb-true, eqb-false, ne_eqb, eq-eqb, lt-ltb, le-ltb, not-true, not-false}
use Rattle.calculus.proofs.Facts.{both_true, T_true, true_T, below_at}
use Rattle.calculus.proofs.Forms.{twins_columns}
use Rattle.calculus.specs.Lists.{below, first_where}
use Rattle.calculus.specs.Sheets.{blank}
use Rattle.calculus.specs.Terms.{head, first_use, twins, fresh}
use Rattle.term_search.specs.Found.{FirstUse, FirstRepeat, Noted, Chained, Linked, noted, slot, smaller, least, last_in, mix, most_rows, other_head, column, agree}

-- ---- tests of all numbers below a bound

below_more : (p : ℕ → Bool) (n : ℕ) → below n p ≡ true → p n ≡ true → below (n + 1) p ≡ true
below_more p n a b = rw (add-one, a, b)

below_not : (p : ℕ → Bool) (n k : ℕ) → k < n → p k ≡ false → below n p ≡ false
below_not p zero k h e = absurd (not-suc-le-zero h)
below_not p (suc n) k h e = go (leb n k) refl (λ l. below_not p n k l e)
  where
    both : (a b : Bool) → b ≡ false → (a && b) ≡ false
    both true b q = q
    both false b q = refl

    go : (g : Bool) → leb n k ≡ g → (k < n → below n p ≡ false) → (below n p && p n) ≡ false
    go true q r = let s : k ≡ n = omega (arith, leb-true) in both (below n p) (p n) (ap p (sym s) ∙ e)
    go false q r = rw (r (omega (arith, leb-false)))

below_is : (p : ℕ → Bool) (n k : ℕ) → below n p ≡ true → k < n → p k ≡ true
below_is p n k e h = T_true (p k) (below_at n p k (true_T (below n p) e) h)

below_of : (p : ℕ → Bool) (n : ℕ) → ((k : ℕ) → k < n → p k ≡ true) → below n p ≡ true
below_of p zero f = refl
below_of p (suc n) f = rw (below_of p n (λ k h. f k (omega arith)), f n (omega arith))

-- ---- the first number of which a test holds

where_none : (p : ℕ → Bool) (n : ℕ) → below n (λ k. not (p k)) ≡ true → first_where n p ≡ n
unfolding first_where
where_none p zero e = refl
where_none p (suc n) e =
    let b = both_true (below n (λ k. not (p k))) (not (p n)) e in
    rw (where_none p n b.0, le-ltb n n (omega arith), not-true (p n) b.1)

where_found : (p : ℕ → Bool) (n k : ℕ) → below k (λ j. not (p j)) ≡ true → p k ≡ true → k < n → first_where n p ≡ k
unfolding first_where
where_found p zero k e a h = absurd (not-suc-le-zero h)
where_found p (suc n) k e a h = go (leb n k) refl (λ l. where_found p n k e a l)
  where
    go : (g : Bool) → leb n k ≡ g → (k < n → first_where n p ≡ k) → cond (ltb (first_where n p) n) (first_where n p) (cond (p n) n (suc n)) ≡ k
    go true q r =
        let s : k ≡ n = omega (arith, leb-true) in
        rw (← s, where_none p k e, le-ltb k k (omega arith), a)
    go false q r =
        let l : k < n = omega (arith, leb-false) in
        rw (r l, lt-ltb k n l)

-- ---- the first row with a head

pub use_found : (ts : List ℕ) (t : ℕ) (u : ℕ) → u < t → below u (other_head ts t) ≡ true → head ts u ≡ head ts t → FirstUse ts t u
unfolding first_use
use_found ts t u l e h =
    let f = where_found (λ v. eqb (head ts v) (head ts t)) t u e (eq-eqb (head ts u) (head ts t) h) l in
    record { first = sym f; low = omega arith; like = h }

pub use_none : (ts : List ℕ) (t : ℕ) {u : ℕ} → u ≤ t → t ≤ u → below u (other_head ts t) ≡ true → FirstUse ts t t
unfolding first_use
use_none ts t {u} l m e =
    let s : u ≡ t = omega arith in
    record { first = sym (where_none (λ v. eqb (head ts v) (head ts t)) t (rw s at e)); low = omega arith; like = refl }

pub use_other : (ts : List ℕ) (t u : ℕ) → below u (other_head ts t) ≡ true → (head ts u ≡ head ts t → ⊥) → below (u + 1) (other_head ts t) ≡ true
use_other ts t u e d = below_more (other_head ts t) u e (ap not (ne_eqb (head ts u) (head ts t) d))

-- ---- rows noted by a key

smaller_low : (a b : ℕ) → (smaller a b ≤ a) × (smaller a b ≤ b)
smaller_low a b = pick (ltb b a) refl
  where
    pick : (g : Bool) → ltb b a ≡ g → (cond g b a ≤ a) × (cond g b a ≤ b)
    pick true q = let l : b < a = ltb-true b a q in (omega arith, omega arith)
    pick false q = let l : a ≤ b = ltb-false b a q in (omega arith, omega arith)

least_low : (xs : List ℕ) (k t v : ℕ) → v ≡ least xs k t → v ≤ t
least_low xs k t v e = rw e (smaller_low (get_or xs (slot k) 0) t).1

-- what holds of every row with another key than row t holds of the rows before the least one of its slot
before_least : (key : ℕ → ℕ) (p : ℕ → Bool) (xs : List ℕ) (t v : ℕ) → Noted key t xs → v ≡ least xs (key t) t
    → ((u : ℕ) → (key u ≡ key t → ⊥) → p u ≡ true) → below v p ≡ true
before_least key p xs t v N e f = below_of p v (λ u h. f u (λ s. other u h s))
  where
    other : (u : ℕ) → u < v → key u ≡ key t → ⊥
    other u h s =
        let l = smaller_low (get_or xs (slot (key t)) 0) t in
        let r : get_or xs (slot (key t)) 0 ≤ u = rw s at (N.rows u (omega arith)) in
        omega arith

pub note_none : (key : ℕ → ℕ) (xs : List ℕ) → length xs ≡ 1024 → Noted key 0 xs
note_none key xs e = record { size = e; rows = λ u h. absurd (not-suc-le-zero h) }

-- one row more is noted
note_more : (key : ℕ → ℕ) (xs ys : List ℕ) (t : ℕ) → Noted key t xs → ys ≡ noted xs (key t) t → Noted key (t + 1) ys
unfolding noted
note_more key xs ys t N e =
    record { size = rw e (simp length-set N.size); rows = λ u h. rw e (go u h (eqb (slot (key u)) (slot (key t))) refl) }
  where
    -- a row of the same slot, row t among them
    under : (u : ℕ) → u < t + 1 → slot (key u) ≡ slot (key t) → (g : Bool) → leb t u ≡ g → least xs (key t) t ≤ u
    under u h s true q = let l : t ≤ u = leb-true t u q in omega (arith, (smaller_low (get_or xs (slot (key t)) 0) t).1)
    under u h s false q =
        let l : u < t = leb-false t u q in
        let r : get_or xs (slot (key t)) 0 ≤ u = rw s at (N.rows u l) in
        omega (arith, (smaller_low (get_or xs (slot (key t)) 0) t).0)

    -- a row of another slot is not row t
    earlier_row : (u : ℕ) → u < t + 1 → (slot (key u) ≡ slot (key t) → ⊥) → u < t
    earlier_row u h d = close (leb t u) refl
      where
        close : (g : Bool) → leb t u ≡ g → u < t
        close true q = let l : t ≤ u = leb-true t u q in let e : u ≡ t = omega arith in absurd (d (ap (λ x. slot (key x)) e))
        close false q = leb-false t u q

    go : (u : ℕ) → u < t + 1 → (g : Bool) → eqb (slot (key u)) (slot (key t)) ≡ g → get_or (set xs (slot (key t)) (least xs (key t) t)) (slot (key u)) 0 ≤ u
    go u h true q =
        let s : slot (key u) ≡ slot (key t) = eqb-true (slot (key u)) (slot (key t)) q in
        let i : slot (key t) < length xs = omega (arith, N.size) in
        rw (s, get_or-set_same xs (slot (key t)) (least xs (key t) t) 0 i) (under u h s (leb t u) refl)
    go u h false q =
        let d = eqb-false (slot (key u)) (slot (key t)) q in
        rw (get_or-set_other xs (slot (key t)) (slot (key u)) (least xs (key t) t) 0 d) (N.rows u (earlier_row u h d))

-- the heads of the rows before row t are noted, and then its own
module _ (ts : List ℕ) (t : ℕ) {xs : List ℕ} (N : Noted (head ts) t xs) where
  pub use_low : {u : ℕ} → u ≡ least xs (head ts t) t → u ≤ t
  use_low {u} e = least_low xs (head ts t) t u e

  pub use_before : {u : ℕ} → u ≡ least xs (head ts t) t → below u (other_head ts t) ≡ true
  use_before {u} e = before_least (head ts) (other_head ts t) xs t u N e (λ v d. ap not (ne_eqb (head ts v) (head ts t) d))

  pub use_noted : {ys : List ℕ} → ys ≡ noted xs (head ts t) t → Noted (head ts) (t + 1) ys
  use_noted {ys} e = note_more (head ts) xs ys t N e

-- ---- rows chained by a key

-- the last row of a slot is in that slot and low, and rows after it are in others
last_slot : (key : ℕ → ℕ) (s n : ℕ) → last_in key s n < blank → slot (key (last_in key s n)) ≡ s
unfolding last_in
last_slot key s zero h = absurd (omega arith)
last_slot key s (suc n) h = go (eqb (slot (key n)) s) refl (last_slot key s n) h
  where
    go : (g : Bool) → eqb (slot (key n)) s ≡ g → (last_in key s n < blank → slot (key (last_in key s n)) ≡ s)
        → cond g n (last_in key s n) < blank → slot (key (cond g n (last_in key s n))) ≡ s
    go true q r l = eqb-true (slot (key n)) s q
    go false q r l = r l

last_low : (key : ℕ → ℕ) (s n : ℕ) → last_in key s n < blank → last_in key s n < n
unfolding last_in
last_low key s zero h = absurd (omega arith)
last_low key s (suc n) h = go (eqb (slot (key n)) s) (last_low key s n) h
  where
    go : (g : Bool) → (last_in key s n < blank → last_in key s n < n) → cond g n (last_in key s n) < blank → cond g n (last_in key s n) < suc n
    go true r l = omega arith
    go false r l = let m = r l in omega arith

last_other : (key : ℕ → ℕ) (s n v : ℕ) → v < n → (last_in key s n < n → last_in key s n < v) → slot (key v) ≡ s → ⊥
unfolding last_in
last_other key s zero v l f e = absurd (not-suc-le-zero l)
last_other key s (suc n) v l f e = go (eqb (slot (key n)) s) refl (last_other key s n v) f
  where
    go : (g : Bool) → eqb (slot (key n)) s ≡ g → (v < n → (last_in key s n < n → last_in key s n < v) → slot (key v) ≡ s → ⊥)
        → (cond g n (last_in key s n) < suc n → cond g n (last_in key s n) < v) → ⊥
    go true q r h = let m : n < v = h (omega arith) in omega arith
    go false q r h = close (leb n v) refl
      where
        close : (b : Bool) → leb n v ≡ b → ⊥
        close true p =
            let k : v ≡ n = omega (arith, leb-true) in
            eqb-false (slot (key n)) s q (ap (λ x. slot (key x)) (sym k) ∙ e)
        close false p = r (leb-false n v p) (λ m. h (omega arith)) e

-- no row is chained, and one more
pub chain_none : (key : ℕ → ℕ) (xs ys : List ℕ) → length xs ≡ 1024 → length ys ≡ most_rows → ((s : ℕ) → s < 1024 → get_or xs s 0 ≡ blank) → Chained key 0 xs ys
unfolding last_in
chain_none key xs ys a b f = record { slots = a; rows = b; lasts = f; backs = λ u h. absurd (not-suc-le-zero h) }

chain_more : (key : ℕ → ℕ) (t : ℕ) {xs xs' ys ys' : List ℕ} {r : ℕ} → Chained key t xs ys → t < most_rows → Linked xs xs' ys ys' (key t) t r
    → Chained key (t + 1) xs' ys'
unfolding last_in
chain_more key t {xs} {xs'} {ys} {ys'} {r} C h L =
    record {
      slots = rw L.lasts (simp length-set C.slots);
      rows = rw L.backs (simp length-set C.rows);
      lasts = λ s l. rw (add-one, L.lasts) (last s l (eqb (slot (key t)) s) refl);
      backs = λ u l. rw L.backs (back u l (leb t u) refl);
    }
  where
    in_slots : slot (key t) < 1024
    in_slots = omega arith

    last : (s : ℕ) → s < 1024 → (g : Bool) → eqb (slot (key t)) s ≡ g → get_or (set xs (slot (key t)) t) s 0 ≡ cond g t (last_in key s t)
    last s l true q =
        let e : slot (key t) ≡ s = eqb-true (slot (key t)) s q in
        let i : slot (key t) < length xs = omega (arith, C.slots) in
        rw (← e) (get_or-set_same xs (slot (key t)) t 0 i)
    last s l false q = get_or-set_other xs (slot (key t)) s t 0 (λ e. eqb-false (slot (key t)) s q (sym e)) ∙ C.lasts s l

    back : (u : ℕ) → u < t + 1 → (g : Bool) → leb t u ≡ g → get_or (set ys t r) u 0 ≡ last_in key (slot (key u)) u
    back u l true q =
        let e : u ≡ t = omega (arith, leb-true) in
        let i : t < length ys = omega (arith, C.rows) in
        rw e (get_or-set_same ys t r 0 i ∙ (L.back ∙ C.lasts (slot (key t)) in_slots))
    back u l false q =
        let m : u < t = leb-false t u q in
        get_or-set_other ys t u r 0 (λ e. omega arith) ∙ C.backs u m

-- ---- the search for a row like row t

abbrev pub unlike : List ℕ → ℕ → ℕ → Bool
unlike ts t u = not (twins ts t u)

pub column_low : (k : ℕ) → k < 5 → (column k < 6) × (eqb (column k) 1 ≡ false)
column_low zero h = (omega arith, refl)
column_low (suc zero) h = (omega arith, refl)
column_low (suc (suc zero)) h = (omega arith, refl)
column_low (suc (suc (suc zero))) h = (omega arith, refl)
column_low (suc (suc (suc (suc zero)))) h = (omega arith, refl)
column_low (suc (suc (suc (suc (suc k))))) h = absurd (omega arith)

-- a column that differs
unlike_here : (ts : List ℕ) (t u k : ℕ) → k < 5 → not (agree ts t u k) ≡ true → unlike ts t u ≡ true
unlike_here ts t u k h e =
    let c = column_low k h in
    let d : (eqb (column k) 1 || agree ts t u k) ≡ false = rw c.1 (not-true (agree ts t u k) e) in
    ap not (twins_columns ts t u ∙ below_not (λ j. eqb j 1 || eqb (get_or ts (t * 6 + j) 0) (get_or ts (u * 6 + j) 0)) 6 (column k) c.0 d)

-- the five columns agree
like : (ts : List ℕ) (t u k : ℕ) → k ≡ 5 → below k (agree ts t u) ≡ true → unlike ts t u ≡ false
like ts t u k h e =
    ap not (twins_columns ts t u ∙ turned (agree ts t u 0) (agree ts t u 1) (agree ts t u 2) (agree ts t u 3) (agree ts t u 4) (rw h at e))
  where
    turned : (a b c d h : Bool) → (((((true && a) && b) && c) && d) && h) ≡ true → ((((((true && (false || h)) && true) && a) && b) && c) && d) ≡ true
    turned true true true true true e = refl
    turned true true true true false e = absurd (true≢false (sym e))
    turned true true true false h e = absurd (true≢false (sym e))
    turned true true false d h e = absurd (true≢false (sym e))
    turned true false c d h e = absurd (true≢false (sym e))
    turned false b c d h e = absurd (true≢false (sym e))

-- rows of another mix are unlike row t
other_mix : (ts : List ℕ) (t u : ℕ) → (mix ts u ≡ mix ts t → ⊥) → unlike ts t u ≡ true
unfolding mix
other_mix ts t u d = go (twins ts t u) refl
  where
    alike_at : ℕ → Bool
    alike_at j = eqb j 1 || eqb (get_or ts (t * 6 + j) 0) (get_or ts (u * 6 + j) 0)

    same : twins ts t u ≡ true → (k : ℕ) → k < 6 → eqb k 1 ≡ false → get_or ts (u * 6 + k) 0 ≡ get_or ts (t * 6 + k) 0
    same e k h n =
        let b : below 6 alike_at ≡ true = sym (twins_columns ts t u) ∙ e in
        sym (eqb-true (get_or ts (t * 6 + k) 0) (get_or ts (u * 6 + k) 0) (rw n at (below_is alike_at 6 k b h)))

    go : (g : Bool) → twins ts t u ≡ g → not g ≡ true
    go true e =
        let h : head ts u ≡ head ts t = simp unary_clauses at (same e 0 (omega arith) refl) in
        let columns = same e in
        absurd (d (rw (h, columns 2 (omega arith) refl, columns 3 (omega arith) refl, columns 4 (omega arith) refl, columns 5 (omega arith) refl)))
    go false e = refl

fresh_row : (ts : List ℕ) (t u : ℕ) → u ≡ t → below u (unlike ts t) ≡ true → fresh ts t ≡ true
unfolding fresh
fresh_row ts t u h e = rw h at e

repeated : (ts : List ℕ) (t u : ℕ) → u < t → unlike ts t u ≡ false → fresh ts t ≡ false
unfolding fresh
repeated ts t u h e = below_not (unlike ts t) t u h e

-- the rows of row t's slot from u on, or all where u is none, are passed: no row after u is like row t
pub record Passed (ts : List ℕ) (t u : ℕ) : Type 0 where
  pub low : u < blank → u < t
  pub same : u < blank → slot (mix ts u) ≡ slot (mix ts t)
  pub others : (v : ℕ) → v < t → (u < t → u < v) → unlike ts t v ≡ true

other_slot : (ts : List ℕ) (t v : ℕ) → (slot (mix ts v) ≡ slot (mix ts t) → ⊥) → unlike ts t v ≡ true
other_slot ts t v d = other_mix ts t v (λ e. d (ap slot e))

pass_first : (ts xs ys : List ℕ) (t u : ℕ) → Chained (mix ts) t xs ys → u ≡ get_or xs (slot (mix ts t)) 0 → Passed ts t u
pass_first ts xs ys t u C e =
    let i : slot (mix ts t) < 1024 = omega arith in
    let p : u ≡ last_in (mix ts) (slot (mix ts t)) t = e ∙ C.lasts (slot (mix ts t)) i in
    record {
      low = λ h. rw p (last_low (mix ts) (slot (mix ts t)) t (rw p at h));
      same = λ h. rw p (last_slot (mix ts) (slot (mix ts t)) t (rw p at h));
      others = λ v l f. other_slot ts t v (last_other (mix ts) (slot (mix ts t)) t v l (rw p at f));
    }

-- row u is passed, and the row before it in its slot is next
module _ (ts : List ℕ) (t u w : ℕ) (P : Passed ts t u) (in_range : u < t) (small : t ≤ most_rows) (back : w ≡ last_in (mix ts) (slot (mix ts u)) u) where
  pass_next : unlike ts t u ≡ true → Passed ts t w
  pass_next d =
      let k : slot (mix ts u) ≡ slot (mix ts t) = P.same (omega arith) in
      record {
        low = λ h. let l : w < u = rw back (last_low (mix ts) (slot (mix ts u)) u (rw back at h)) in omega arith;
        same = λ h. rw back (last_slot (mix ts) (slot (mix ts u)) u (rw back at h)) ∙ k;
        others = λ v l f. go v l f k (leb u v) refl (leb v u) refl;
      }
    where
      go : (v : ℕ) → v < t → (w < t → w < v) → slot (mix ts u) ≡ slot (mix ts t) → (a : Bool) → leb u v ≡ a → (b : Bool) → leb v u ≡ b
          → unlike ts t v ≡ true
      go v l f k true p true q = let e : v ≡ u = omega (arith, leb-true) in rw e d
      go v l f k true p false q = P.others v l (λ h. leb-false v u q)
      go v l f k false p b q =
          let m : v < u = leb-false u v p in
          let n : w < u → w < v = λ h. f (omega arith) in
          other_slot ts t v (λ e. last_other (mix ts) (slot (mix ts u)) u v m (rw back at n) (e ∙ sym k))

  -- fewer rows are left
  pass_less : cond (ltb w t) (suc w) 0 < cond (ltb u t) (suc u) 0
  pass_less = rw (lt-ltb u t in_range) (go (ltb w t) refl)
    where
      go : (g : Bool) → ltb w t ≡ g → cond g (suc w) 0 < suc u
      go true q =
          let m : w < t = ltb-true w t q in
          let h : w < blank = omega arith in
          let l : w < u = rw back (last_low (mix ts) (slot (mix ts u)) u (rw back at h)) in
          omega arith
      go false q = omega arith

pass_all : (ts : List ℕ) (t u : ℕ) → Passed ts t u → t ≤ u → below t (unlike ts t) ≡ true
pass_all ts t u P h = below_of (unlike ts t) t (λ v l. P.others v l (λ m. absurd (omega arith)))

-- ---- the loop over rows: row t is chained, and rows before it are fresh

module _ (ts : List ℕ) (n t : ℕ) {xs xs' ys ys' : List ℕ} {k r : ℕ}
    (low : t < n) (small : n ≤ most_rows) (C : Chained (mix ts) t xs ys) (K : k ≡ mix ts t) (L : Linked xs xs' ys ys' k t r) where
  linked : Linked xs xs' ys ys' (mix ts t) t r
  linked = rw (← K) L

  pub chain_next : Chained (mix ts) (t + 1) xs' ys'
  chain_next = chain_more (mix ts) t C (omega arith) linked

  pub pairs_first : Passed ts t r
  pairs_first = pass_first ts xs ys t r C linked.back

  -- row u of its slot is compared
  module _ {u₀ u : ℕ} (P : Passed ts t u₀) (in_range : u₀ < t) (same : u ≡ u₀) where
    back : get_or ys' u 0 ≡ last_in (mix ts) (slot (mix ts u)) u
    back = chain_next.backs u (omega arith)

    pub pairs_next : {j : ℕ} {d : Bool} → j < 5 → d ≡ not (agree ts t u j) → d ≡ true → Passed ts t (get_or ys' u 0)
    pairs_next {j} h e q =
        pass_next ts t u (get_or ys' u 0) (rw same P) (omega arith) (omega arith) back (unlike_here ts t u j h (sym e ∙ q))

    pub pairs_fewer : cond (ltb (get_or ys' u 0) t) (suc (get_or ys' u 0)) 0 < cond (ltb u₀ t) (suc u₀) 0
    pairs_fewer = rw (← same) (pass_less ts t u (get_or ys' u 0) (rw same P) (omega arith) (omega arith) back)

-- no row of its slot is like row t
pub row_fresh : (ts : List ℕ) (t : ℕ) {u : ℕ} → below t (fresh ts) ≡ true → Passed ts t u → t ≤ u → below (t + 1) (fresh ts) ≡ true
row_fresh ts t {u} b P h = below_more (fresh ts) t b (fresh_row ts t t refl (pass_all ts t u P h))

pub columns_agree : (ts : List ℕ) (t u k : ℕ) {d : Bool} → below k (agree ts t u) ≡ true → d ≡ not (agree ts t u k) → d ≡ false
    → below (k + 1) (agree ts t u) ≡ true
columns_agree ts t u k b e q = below_more (agree ts t u) k b (not-false _ (sym e ∙ q))

pub repeat_none : (ts : List ℕ) (n t : ℕ) → t ≤ n → below t (fresh ts) ≡ true → n ≤ t → FirstRepeat ts n t
repeat_none ts n t l b h = record { low = l; before = b; found = λ m. absurd (omega arith) }

pub repeat_found : (ts : List ℕ) (n t : ℕ) {u₀ u k : ℕ} → t < n → below t (fresh ts) ≡ true → u₀ < t → u ≡ u₀ → k ≤ 5 → 5 ≤ k
    → below k (agree ts t u) ≡ true → FirstRepeat ts n t
repeat_found ts n t {u₀} {u} {k} l b i s h m e =
    record { low = omega arith; before = b; found = λ q. repeated ts t u (omega arith) (like ts t u k (omega arith) e) }
