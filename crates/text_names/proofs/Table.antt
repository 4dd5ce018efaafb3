-- Laws of a table of names: what a name that is put does to the lists of names that the tables hold.
use Prim.Native.Nat.{ℕ, zero, suc, ◌+◌, ◌-◌, ◌*◌, ◌≤◌, ◌<◌}
use mathlib.Core.Path.{◌≡◌, refl, ap, sym, ◌∙◌}
use mathlib.Core.Bool.{Bool, true, false}
use mathlib.Core.Logic.{◌⊎◌, inl, inr}
use mathlib.Core.List.{List, [], ◌∷◌, ◌++◌, append_assoc}
use native.Mathlib.Omega.{arith}
use native.Mathlib.Nat.{add-suc, suc-add, add-zero}
use native.Mathlib.Numerals.{add-one}
use borrow.Author.Tests.{eq-eqb, ne_eqb, eqb-true, eqb-false, leb-true, leb-false, ltb-true, ltb-false, lt-ltb, le-ltb}
use lib.Dec.{eqb, leb, ltb}
use lib.ListN.{length, take, drop, get_or, length-drop, set, length-set, get_or-append}
use lib.Seq.{paste, drop_at, take_all, length-take-le, length-paste, drop-paste, get_or-drop, get_or-take, get_or-set_same, get_or-set_other, ext_get_or}
use Rattle.text_fields.specs.Split.{pick}
use Rattle.text_fields.specs.Class.{class_of, is_name, named}
use Rattle.text_fields.specs.Words.{index_from}
use Rattle.text_fields.specs.declared.ByteClass.TheVariants.{Space, Newline, Other}
use Rattle.text_fields.proofs.Laws.{same_self}
use Rattle.text_tags.specs.Tags.{tag_of}
use Rattle.text_tags.proofs.Laws.{tag_small}
use Rattle.std.specs.Prelude.{Some, None, Ok, Err}
use Rattle.std.specs.Result.{result_ok}
use Rattle.text_names.specs.Table.{Spot, length_at, tag_at, name_from, held, written, slot_of, first_place, below_place, digit_of, number_at, next_place, leads_on, seek_from, spot_of, found, is_number, name_at, names_on, names_from, slot_put, put_at, with_name}
use Rattle.text_names.proofs.Laws.{length_slot, slot_name, slot_length, slot_tag}
use Rattle.text_names.proofs.Search.{Reached, first, next, Ended, leads_to, not_past, by_tag, not_left, seek_past, seek_ends, seek_hits, seek_goes_on, free_is, held_not_free, reached_next, reached_behind, reached_inside, reached_alike, spot_ended}
use Rattle.text_names.proofs.Found.{take_most, written_short, held_written, found_is}

pub length_names : (t : List ℕ) (base n : ℕ) → length (names_from t base n) ≡ n
length_names t base n = go n 0 where
  go : (m j : ℕ) → length (names_on t base n j m) ≡ m
  go zero j = refl
  go (suc m) j = ap suc (go m (suc j))

names_snoc : (t : List ℕ) (base n j m : ℕ) → names_on t base n j (suc m) ≡ names_on t base n j m ++ (name_at t base n (j + m) ∷ [])
names_snoc t base n j zero = rw add-zero
names_snoc t base n j (suc m) = ap (λ (r : List (List ℕ)). name_at t base n j ∷ r) (names_snoc t base n (suc j) m ∙ rw (add-suc, suc-add))

names_same : (t u : List ℕ) (base n k j m : ℕ) → ((i : ℕ) → i < j + m → name_at u base k i ≡ name_at t base n i) → names_on u base k j m ≡ names_on t base n j m
names_same t u base n k j zero h = refl
names_same t u base n k j (suc m) h = rw (h j (omega arith), names_same t u base n k (suc j) m (λ i l. h i (omega arith)))

-- both of two tests
pub both : (t x : Bool) → pick t x false ≡ true → (t ≡ true) × (x ≡ true)
both true x e = (refl, e)
both false x e = absurd (let z : ◌≡◌ {A = ℕ} 0 1 = cc in omega arith)

-- the first byte of a name is a byte
pub named_byte : (name : List ℕ) → named name ≡ true → get_or name 0 0 < 256
named_byte [] e = omega arith
named_byte (b ∷ bs) e = go (leb b 126) refl (both (is_name (class_of b)) (named bs) e).0 where
  other : (x y z : Bool) → is_name (pick x Space (pick y Newline (pick z Other Other))) ≡ false
  other true y z = refl
  other false true z = refl
  other false false true = refl
  other false false false = refl

  go : (t : Bool) → leb b 126 ≡ t → is_name (class_of b) ≡ true → b < 256
  go true p q = omega (arith, leb-true b 126 p)
  go false p q =
      let r : is_name (pick (eqb b 32) Space (pick (eqb b 10) Newline (pick (leb 33 b) Other Other))) ≡ true = rw p at q in
      let w : ◌≡◌ {A = Bool} true false = sym r ∙ other (eqb b 32) (eqb b 10) (leb 33 b) in
      absurd (let z : ◌≡◌ {A = ℕ} 0 1 = cc in omega arith)

length_cut : (m : ℕ) (x y : List ℕ) → length x ≡ length y → length (take m x) ≡ length (take m y)
length_cut zero x y e = refl
length_cut (suc m) [] [] e = refl
length_cut (suc m) [] (b ∷ y) e = absurd (omega arith)
length_cut (suc m) (a ∷ x) [] e = absurd (omega arith)
length_cut (suc m) (a ∷ x) (b ∷ y) e = ap suc (length_cut m x y (omega arith))

-- two lists of bytes that agree in a slot
abbrev Agree : List ℕ → List ℕ → ℕ → Type 0
Agree t u s = (i : ℕ) → i < 67 → get_or u (s * 67 + i) 0 ≡ get_or t (s * 67 + i) 0

module _ (t u : List ℕ) (long : length u ≡ length t) where
  cut_same : (a m : ℕ) → ((i : ℕ) → i < m → get_or u (a + i) 0 ≡ get_or t (a + i) 0) → take m (drop a u) ≡ take m (drop a t)
  cut_same a m h =
      ext_get_or 0 (take m (drop a u)) (take m (drop a t))
      (length_cut m (drop a u) (drop a t) (length-drop a u ∙ ap (λ (k : ℕ). k - a) long ∙ sym (length-drop a t)))
      (λ i l. let k : i < m = omega (arith, take_most m (drop a u)) in
      get_or-take m (drop a u) i 0 k ∙ get_or-drop a u i 0 ∙ h i k ∙ sym (get_or-take m (drop a t) i 0 k ∙ get_or-drop a t i 0))

  module _ (s : ℕ) (agree : Agree t u s) where
    length_same : length_at u s ≡ length_at t s
    length_same = rw add-zero at (agree 0 (omega arith))

    tag_same : tag_at u s ≡ tag_at t s
    tag_same = rw (agree 1 (omega arith), agree 2 (omega arith))

    name_same : (i : ℕ) → i < 64 → get_or u (name_from s + i) 0 ≡ get_or t (name_from s + i) 0
    name_same i h = let z : s * 67 + (3 + i) ≡ s * 67 + 3 + i = omega arith in rw z at (agree (3 + i) (omega arith))

    held_same : (x : List ℕ) → length x ≤ 64 → held u s x ≡ held t s x
    unfolding held
    held_same x h = rw (length_same, cut_same (name_from s) (length x) (λ i l. name_same i (omega arith)))

    written_same : written u s ≡ written t s
    unfolding written
    written_same = rw (length_same, cut_same (name_from s) 64 (λ i l. name_same i (omega arith)))

    leads_same : (base n tag low e : ℕ) → base + e ≡ s → leads_on u base n tag low e ≡ leads_on t base n tag low e
    unfolding leads_on
    leads_same base n tag low e q = rw (ap (tag_at u) q ∙ tag_same ∙ ap (tag_at t) (sym q))

  -- where all slots of n names agree, the same numbers lead on
  module _ (base n : ℕ) (slots : (j : ℕ) → j < n → Agree t u (base + j)) where
    lead_same : (tag low e : ℕ) → leads_on u base n tag low e ≡ leads_on t base n tag low e
    lead_same tag low e = go (ltb e n) refl where
      go : (b : Bool) → ltb e n ≡ b → leads_on u base n tag low e ≡ leads_on t base n tag low e
      go true p = leads_same (base + e) (slots e (ltb-true e n p)) base n tag low e refl
      go false p = not_past u base n tag low e (ltb-false e n p) ∙ sym (not_past t base n tag low e (ltb-false e n p))

    -- and where all numbers agree too that a search can be at, so does what it finds
    module _ (numbers : (tag low place : ℕ) → tag < 1024 → Reached t base n tag low place → number_at u place ≡ number_at t place) where
      seek_same : (x : List ℕ) → length x ≤ 64 → (m low place d : ℕ) → Reached t base n (tag_of x) low place
          → seek_from u base n x m low place d ≡ seek_from t base n x m low place d
      seek_same x h zero low place d r = refl
      seek_same x h (suc m) low place d r =
          rw (numbers (tag_of x) low place (tag_small x) r, lead_same (tag_of x) low (number_at t place))
          (go (seek_same x h m (suc (number_at t place)) (next_place t base x place d) (suc d))
          (leads_on t base n (tag_of x) low (number_at t place)) refl) where
            go : (Reached t base n (tag_of x) (suc (number_at t place)) (next_place t base x place d)
                → seek_from u base n x m (suc (number_at t place)) (next_place t base x place d) (suc d)
                ≡ seek_from t base n x m (suc (number_at t place)) (next_place t base x place d) (suc d))
                → (b : Bool) → leads_on t base n (tag_of x) low (number_at t place) ≡ b
                → pick b (pick (held u (base + number_at t place) x) (Ok (number_at t place))
                (seek_from u base n x m (suc (number_at t place)) (next_place t base x place d) (suc d))) (Err place)
                ≡ pick b (pick (held t (base + number_at t place) x) (Ok (number_at t place))
                (seek_from t base n x m (suc (number_at t place)) (next_place t base x place d) (suc d))) (Err place)
            go ih true p =
                let e = number_at t place in
                let k = leads_to t base n (tag_of x) low e p in
                rw (held_same (base + e) (slots e k.1) x h, ih (reached_next t base n x low e d p))
            go ih false p = refl

      -- a table of which nothing changed
      table_same : names_from u base n ≡ names_from t base n
      unfolding name_at spot_of
      table_same =
          names_same t u base n n 0 n
          (λ j h.
          let k : j < n = omega arith in
          let x = written t (base + j) in
          rw (written_same (base + j) (slots j k), seek_same x (written_short t (base + j)) n 0 (first_place base (tag_of x)) 0 (first refl refl)))

-- a run of bytes that is put at a place
module _ (t : List ℕ) (a : ℕ) (l : List ℕ) (fits : a + length l ≤ length t) where
  all_put : length (paste t a l (length l)) ≡ length t
  all_put = length-paste t a l (length l) fits (omega arith)

  put_parts : paste t a l (length l) ≡ take a t ++ (l ++ drop (a + length l) t)
  put_parts = append_assoc (take a t) (take (length l) l) (drop (a + length l) t) ∙ rw (take_all (length l) l (omega arith))

  put_before : (i : ℕ) → i < a → get_or (paste t a l (length l)) i 0 ≡ number_at t i
  put_before i h =
      let z : length (take a t) ≡ a = length-take-le a t (omega arith) in
      ap (λ (x : List ℕ). get_or x i 0) put_parts ∙ get_or-append (take a t) (l ++ drop (a + length l) t) 0 i (omega arith) ∙ get_or-take a t i 0 h

  put_after : (i : ℕ) → a + length l ≤ i → get_or (paste t a l (length l)) i 0 ≡ number_at t i
  put_after i h =
      let z : a + length l + (i - (a + length l)) ≡ i = omega arith in
      let x = get_or-drop (a + length l) (paste t a l (length l)) (i - (a + length l)) 0 in
      let y = get_or-drop (a + length l) t (i - (a + length l)) 0 in
      sym (rw z at x)
      ∙ ap (λ (w : List ℕ). get_or w (i - (a + length l)) 0) (drop-paste t a l (length l) (omega arith) (omega arith))
      ∙ (rw z at y)

  put_in : (i : ℕ) → i < length l → get_or (paste t a l (length l)) (a + i) 0 ≡ get_or l i 0
  put_in i h =
      sym (get_or-drop a (paste t a l (length l)) i 0)
      ∙ ap (λ (x : List ℕ). get_or x i 0)
      (ap (drop a) put_parts ∙ drop_at (take a t) (l ++ drop (a + length l) t) a (length-take-le a t (omega arith)))
      ∙ get_or-append l (drop (a + length l) t) 0 i h

-- a name that is put where the search for it ended
module _ (t : List ℕ) (base n : ℕ) (name : List ℕ) (size : length t ≡ 55392) (base_low : base ≤ 288) (few : n < 256) (short : length name ≤ 64)
    (place : ℕ) (free : spot_of t base n name ≡ Err place) where
  abbrev after : List ℕ
  after = with_name t base n name

  ended : Ended t base n name place
  ended = spot_ended t base n name place free

  fits : (base + n) * 67 + length (slot_of name) ≤ length t
  fits = omega (arith, length_slot name)

  pasted : List ℕ
  pasted = paste t ((base + n) * 67) (slot_of name) (length (slot_of name))

  length_pasted : length pasted ≡ length t
  unfolding pasted
  length_pasted = all_put t ((base + n) * 67) (slot_of name) fits

  -- its number, behind the slots
  put_number : after ≡ set pasted place n
  unfolding with_name pasted
  put_number = ap (put_at t base n name) free

  free_length : length after ≡ length t
  free_length = ap length put_number ∙ length-set pasted place n ∙ length_pasted

  apart : (i : ℕ) → (i ≡ place → ⊥) → number_at after i ≡ get_or pasted i 0
  apart i h = ap (λ (u : List ℕ). number_at u i) put_number ∙ get_or-set_other pasted place i n 0 h

  number_new : number_at after place ≡ n
  number_new =
      ap (λ (u : List ℕ). number_at u place) put_number
      ∙ get_or-set_same pasted place n 0
      (omega (arith, length_pasted, reached_inside t base n base_low (omega arith) (tag_small name) ended.reached))

  number_old : (i : ℕ) → 36448 ≤ i → (i ≡ place → ⊥) → number_at after i ≡ number_at t i
  unfolding pasted
  number_old i h q = apart i q ∙ put_after t ((base + n) * 67) (slot_of name) fits i (omega (arith, length_slot name))

  slot_new : (i : ℕ) → i < 3 + length name → get_or after ((base + n) * 67 + i) 0 ≡ get_or (slot_of name) i 0
  unfolding pasted
  slot_new i h =
      apart ((base + n) * 67 + i) (λ q. omega (arith, reached_behind t base n ended.reached))
      ∙ put_in t ((base + n) * 67) (slot_of name) fits i (omega (arith, length_slot name))

  slot_old : (s : ℕ) → s < 544 → (s ≡ base + n → ⊥) → Agree t after s
  unfolding pasted
  slot_old s h q i l = apart (s * 67 + i) (λ e. omega (arith, reached_behind t base n ended.reached)) ∙ go (leb (base + n) s) refl where
    go : (b : Bool) → leb (base + n) s ≡ b → get_or pasted (s * 67 + i) 0 ≡ get_or t (s * 67 + i) 0
    go true p =
        let z = leb-true (base + n) s p in
        let y : base + n < s = omega (arith, q) in
        put_after t ((base + n) * 67) (slot_of name) fits (s * 67 + i) (omega (arith, length_slot name))
    go false p = let z = leb-false (base + n) s p in put_before t ((base + n) * 67) (slot_of name) fits (s * 67 + i) (omega arith)

  -- ---- the names of other tables stay

  -- tables whose slots lie before, or behind
  abbrev Aside : ℕ → ℕ → Type 0
  Aside b m = ((b + m ≤ base) × (b + 32 ≤ base)) ⊎ ((b ≤ 288) × (base + n < b) × (base + 32 ≤ b))

  elsewhere : (b m : ℕ) {tag tag' low low' i : ℕ} → Aside b m → tag < 1024 → tag' < 1024 → Reached t b m tag low i → Reached t base n tag' low' i → ⊥
  elsewhere b m (inl s) h h' (first l p) (first l' p') = omega (arith, s.0, s.1)
  elsewhere b m (inl s) h h' (first l p) (next e' x' l' p' k' y' g') = omega (arith, s.0, s.1)
  elsewhere b m (inl s) h h' (next e x l p k y g) (first l' p') = omega arith
  elsewhere b m (inl s) h h' (next e x l p k y g) (next e' x' l' p' k' y' g') = omega (arith, s.0, s.1)
  elsewhere b m (inr s) h h' (first l p) (first l' p') = omega (arith, s.2)
  elsewhere b m (inr s) h h' (first l p) (next e' x' l' p' k' y' g') = omega (arith, s.0)
  elsewhere b m (inr s) h h' (next e x l p k y g) (first l' p') = omega arith
  elsewhere b m (inr s) h h' (next e x l p k y g) (next e' x' l' p' k' y' g') = omega (arith, s.1)

  names_aside : (b m : ℕ) → Aside b m → b + m ≤ 544 → names_from after b m ≡ names_from t b m
  names_aside b m s h =
      table_same t after free_length b m (λ j l. slot_old (b + j) (omega arith) (apart_from s j l))
      (λ tag low i k r.
      number_old i (reached_behind t b m r)
      (λ q. let z : Reached t base n (tag_of name) ended.low i = rw q ended.reached in elsewhere b m s k (tag_small name) r z)) where
        apart_from : Aside b m → (j : ℕ) → j < m → b + j ≡ base + n → ⊥
        apart_from (inl z) j l q = omega (arith, z.0)
        apart_from (inr z) j l q = omega (arith, z.1)

  -- ---- the new name is found

  -- what the new slot holds
  cut_new : take (length name) (drop (name_from (base + n)) after) ≡ name
  cut_new =
      let a = name_from (base + n) in
      let z : length (take (length name) (drop a after)) ≡ length name =
      length-take-le (length name) (drop a after) (omega (arith, length-drop a after, free_length)) in
      ext_get_or 0 (take (length name) (drop a after)) name z
      (λ i l.
      let k : i < length name = omega arith in
      let m : (base + n) * 67 + 3 + i ≡ (base + n) * 67 + (3 + i) = omega arith in
      get_or-take (length name) (drop a after) i 0 k ∙ get_or-drop a after i 0 ∙ ap (λ (j : ℕ). get_or after j 0) m ∙ slot_new (3 + i) (omega arith)
      ∙ slot_name name i)

  length_new : length_at after (base + n) ≡ length name
  length_new = (rw add-zero at (slot_new 0 (omega arith))) ∙ slot_length name

  tag_new : tag_at after (base + n) ≡ tag_of name
  tag_new = rw (slot_new 1 (omega arith), slot_new 2 (omega arith)) (slot_tag name)

  held_new : held after (base + n) name ≡ true
  unfolding held
  held_new = rw (length_new, eq-eqb (length name) (length name) refl, cut_new) (same_self name)

  written_new : written after (base + n) ≡ name
  written_new = held_written after (base + n) name short held_new

  -- numbers of the names before it lead on as they did
  leads_old : (tag low e : ℕ) → (e ≡ n → ⊥) → leads_on after base (suc n) tag low e ≡ leads_on t base n tag low e
  unfolding leads_on
  leads_old tag low e q = go (ltb e n) refl where
    go : (b : Bool) → ltb e n ≡ b
        → pick (leb low e) (pick (ltb e (suc n)) (eqb (tag_at after (base + e)) tag) false) false
        ≡ pick (leb low e) (pick (ltb e n) (eqb (tag_at t (base + e)) tag) false) false
    go true p =
        let l = ltb-true e n p in
        rw (p, lt-ltb e (suc n) (omega arith), tag_same t after free_length (base + e) (slot_old (base + e) (omega arith) (λ z. omega arith)))
    go false p = let l = ltb-false e n p in rw (p, le-ltb e (suc n) (omega (arith, q)))

  held_old : (e : ℕ) (x : List ℕ) → length x ≤ 64 → e < n → held after (base + e) x ≡ held t (base + e) x
  held_old e x h k = held_same t after free_length (base + e) (slot_old (base + e) (omega arith) (λ z. omega arith)) x h

  at_place : (m low d : ℕ) → low ≤ n → seek_from after base (suc n) name (suc m) low place d ≡ Ok n
  at_place m low d h =
      rw (number_new, by_tag after base (suc n) (tag_of name) low n h (omega arith), tag_new, eq-eqb (tag_of name) (tag_of name) refl, held_new)

  -- the search for it goes on as before, up to its number
  seek_new : (m low i d : ℕ) → n ≤ low + m → low ≤ n → 36448 ≤ i → seek_from t base n name m low i d ≡ Err place
      → seek_from after base (suc n) name (suc m) low i d ≡ Ok n
  seek_new zero low i d h l b q = let z : i ≡ place = cc in rw z (at_place zero low d l)
  seek_new (suc m) low i d h l b q =
      go (seek_new m (suc (number_at t i)) (next_place t base name i d) (suc d)) (eqb i place) refl
      (leads_on t base n (tag_of name) low (number_at t i)) refl (held t (base + number_at t i) name) refl where
        go : (n ≤ suc (number_at t i) + m → suc (number_at t i) ≤ n → 36448 ≤ next_place t base name i d
            → seek_from t base n name m (suc (number_at t i)) (next_place t base name i d) (suc d) ≡ Err place
            → seek_from after base (suc n) name (suc m) (suc (number_at t i)) (next_place t base name i d) (suc d) ≡ Ok n)
            → (a : Bool) → eqb i place ≡ a → (c : Bool) → leads_on t base n (tag_of name) low (number_at t i) ≡ c
            → (x : Bool) → held t (base + number_at t i) name ≡ x → seek_from after base (suc n) name (suc (suc m)) low i d ≡ Ok n
        go ih true p c r x y = rw (eqb-true i place p) (at_place (suc m) low d l)
        go ih false p false r x y = absurd (let z : i ≡ place = free_is (sym (seek_ends t base n name low i d (suc m) r) ∙ q) in eqb-false i place p z)
        go ih false p true r true y =
            absurd (held_not_free (sym (seek_hits t base n name low i d m r y) ∙ q))
        go ih false p true r false y =
            let k = leads_to t base n (tag_of name) low (number_at t i) r in
            let o : number_at after i ≡ number_at t i = number_old i b (eqb-false i place p) in
            rw (o, leads_old (tag_of name) low (number_at t i) (λ z. omega (arith, k.1)) ∙ r, held_old (number_at t i) name short k.1 ∙ y)
            (ih (omega (arith, k.0)) (omega (arith, k.1)) (omega arith) (sym (seek_goes_on t base n name low i d m r y) ∙ q))

  found_new : found after base (suc n) name ≡ Some n
  unfolding spot_of
  found_new = ap result_ok (seek_new n 0 (first_place base (tag_of name)) 0 (omega arith) (omega arith) (omega arith) free)

  -- ---- what another search finds

  -- what a search finds after the name is put, and what it found before: the same, or the new name and nothing
  abbrev Kept : Spot → Spot → Type 0
  Kept s r = (result_ok s ≡ result_ok r) ⊎ ((result_ok s ≡ Some n) × (result_ok r ≡ None))

  module _ (x : List ℕ) (x_short : length x ≤ 64) where
    -- at the new name's number the search ends: there is no name behind it
    at_new : (m low i d : ℕ) (r : Spot) → number_at after i ≡ n → result_ok r ≡ None → Kept (seek_from after base (suc n) x (suc m) low i d) r
    at_new m low i d r e none =
        rw e (go (leads_on after base (suc n) (tag_of x) low n) (held after (base + n) x)) where
          go : (b c : Bool) → Kept
              (pick b (pick c (Ok n) (seek_from after base (suc n) x m (suc n) (below_place (base + n) (digit_of x d)) (suc d))) (Err i)) r
          go true true = inr (refl, none)
          go true false =
              inl (ap result_ok (seek_past after base (suc n) x m (suc n) (below_place (base + n) (digit_of x d)) (suc d) (omega arith)) ∙ sym none)
          go false c = inl (sym none)

    -- where the new number stands, no name was found before
    none_before : (m low i d : ℕ) → Reached t base n (tag_of x) low i → number_at after i ≡ n → result_ok (seek_from t base n x m low i d) ≡ None
    none_before m low i d r e = ap result_ok (seek_ends t base n x low i d m (go (eqb i place) refl)) where
      go : (b : Bool) → eqb i place ≡ b → leads_on t base n (tag_of x) low (number_at t i) ≡ false
      go true p =
          let z = eqb-true i place p in
          let o : Reached t base n (tag_of name) ended.low i = rw z ended.reached in
          let a = reached_alike t base n base_low (tag_small x) (tag_small name) r o in
          rw (a.0, a.1, z) ended.stops
      go false p =
          let o : number_at t i ≡ n = sym (number_old i (reached_behind t base n r) (eqb-false i place p)) ∙ e in
          not_past t base n (tag_of x) low (number_at t i) (omega arith)

    -- where another number stands, it is the one that stood there
    number_same : (low i : ℕ) → Reached t base n (tag_of x) low i → (number_at after i ≡ n → ⊥) → number_at after i ≡ number_at t i
    number_same low i r q = number_old i (reached_behind t base n r) (λ z. q (rw z number_new))

    kept : (m low i d : ℕ) → n ≤ low + m → low ≤ n → Reached t base n (tag_of x) low i
        → Kept (seek_from after base (suc n) x (suc m) low i d) (seek_from t base n x m low i d)
    kept zero low i d h l r = go (eqb (number_at after i) n) refl where
      go : (b : Bool) → eqb (number_at after i) n ≡ b → Kept (seek_from after base (suc n) x 1 low i d) (seek_from t base n x 0 low i d)
      go true p = let e = eqb-true (number_at after i) n p in at_new 0 low i d (seek_from t base n x 0 low i d) e (none_before 0 low i d r e)
      go false p =
          let q = eqb-false (number_at after i) n p in
          inl (ap result_ok (seek_ends after base (suc n) x low i d 1
          (leads_old (tag_of x) low (number_at after i) q ∙ not_left t base n (tag_of x) low (number_at after i) (omega arith))))
    kept (suc m) low i d h l r =
        go (kept m (suc (number_at t i)) (next_place t base x i d) (suc d)) (eqb (number_at after i) n) refl
        (leads_on t base n (tag_of x) low (number_at t i)) refl (held t (base + number_at t i) x) refl where
          go : (n ≤ suc (number_at t i) + m → suc (number_at t i) ≤ n
              → Reached t base n (tag_of x) (suc (number_at t i)) (next_place t base x i d)
              → Kept (seek_from after base (suc n) x (suc m) (suc (number_at t i)) (next_place t base x i d) (suc d))
              (seek_from t base n x m (suc (number_at t i)) (next_place t base x i d) (suc d)))
              → (b : Bool) → eqb (number_at after i) n ≡ b → (c : Bool) → leads_on t base n (tag_of x) low (number_at t i) ≡ c
              → (y : Bool) → held t (base + number_at t i) x ≡ y
              → Kept (seek_from after base (suc n) x (suc (suc m)) low i d) (seek_from t base n x (suc m) low i d)
          go ih true p c w y v =
              let e = eqb-true (number_at after i) n p in
              at_new (suc m) low i d (seek_from t base n x (suc m) low i d) e (none_before (suc m) low i d r e)
          go ih false p false w y v =
              let q = eqb-false (number_at after i) n p in
              let o = number_same low i r q in
              inl (rw (o, leads_old (tag_of x) low (number_at t i) (λ z. q (o ∙ z)) ∙ w, w))
          go ih false p true w y v =
              let q = eqb-false (number_at after i) n p in
              let o = number_same low i r q in
              let k = leads_to t base n (tag_of x) low (number_at t i) w in
              rw (o, leads_old (tag_of x) low (number_at t i) (λ z. q (o ∙ z)) ∙ w, held_old (number_at t i) x x_short k.1 ∙ v, w, v) (two y) where
                two : (b : Bool) → Kept
                    (pick b (Ok (number_at t i)) (seek_from after base (suc n) x (suc m) (suc (number_at t i)) (next_place t base x i d) (suc d)))
                    (pick b (Ok (number_at t i)) (seek_from t base n x m (suc (number_at t i)) (next_place t base x i d) (suc d)))
                two true = inl refl
                two false =
                    let k = leads_to t base n (tag_of x) low (number_at t i) w in
                    ih (omega (arith, k.0)) (omega (arith, k.1)) (reached_next t base n x low (number_at t i) d w)

    -- another name is found where it was, unless it is the new one
    pub found_old : Kept (spot_of after base (suc n) x) (spot_of t base n x)
    unfolding spot_of
    found_old = kept n 0 (first_place base (tag_of x)) 0 (omega arith) (omega arith) (first refl refl)

  -- the names before it stay, and it comes behind them
  name_old : (j : ℕ) → j < n → name_at after base (suc n) j ≡ name_at t base n j
  unfolding name_at
  name_old j h =
      let agree = slot_old (base + j) (omega arith) (λ q. omega arith) in
      rw (written_same t after free_length (base + j) agree) (go (found_old (written t (base + j)) (written_short t (base + j)))) where
        go : Kept (spot_of after base (suc n) (written t (base + j))) (spot_of t base n (written t (base + j)))
            → pick (is_number (found after base (suc n) (written t (base + j))) j) (written t (base + j)) (256 ∷ [])
            ≡ pick (is_number (found t base n (written t (base + j))) j) (written t (base + j)) (256 ∷ [])
        go (inl p) = rw p
        go (inr p) = rw (p.0, p.1, ne_eqb n j (λ q. omega arith))

  name_new : name_at after base (suc n) n ≡ name
  unfolding name_at
  name_new = rw (written_new, found_new, eq-eqb n n refl)

  free_put : names_from after base (n + 1) ≡ names_from t base n ++ (name ∷ [])
  free_put =
      let z : 0 + n ≡ n = omega arith in
      ap (names_from after base) (add-one n) ∙ names_snoc after base (suc n) 0 n
      ∙ rw (z, name_new, names_same t after base n (suc n) 0 n (λ i l. name_old i (omega arith)))

-- ---- a name that is put, wherever the search for it ends

module _ (t : List ℕ) (base n : ℕ) (name : List ℕ) (size : length t ≡ 55392) (base_low : base ≤ 288) (few : n < 256) (short : length name ≤ 64) where
  there : (e : ℕ) → spot_of t base n name ≡ Ok e → with_name t base n name ≡ t
  unfolding with_name
  there e q = ap (put_at t base n name) q

  pub length_put : length (with_name t base n name) ≡ length t
  length_put = go (spot_of t base n name) refl where
    go : (s : Spot) → spot_of t base n name ≡ s → length (with_name t base n name) ≡ length t
    go (Ok e) q = ap length (there e q)
    go (Err place) q = free_length t base n name size base_low few short place q

  -- the names of other tables stay
  names_stay : (b m : ℕ) → ((b + m ≤ base) × (b + 32 ≤ base)) ⊎ ((b ≤ 288) × (base + n < b) × (base + 32 ≤ b)) → b + m ≤ 544
      → names_from (with_name t base n name) b m ≡ names_from t b m
  names_stay b m aside h = go (spot_of t base n name) refl where
    go : (s : Spot) → spot_of t base n name ≡ s → names_from (with_name t base n name) b m ≡ names_from t b m
    go (Ok e) q = ap (λ (u : List ℕ). names_from u b m) (there e q)
    go (Err place) q = names_aside t base n name size base_low few short place q b m aside h

  pub names_before : (b m : ℕ) → b + m ≤ base → b + 32 ≤ base → names_from (with_name t base n name) b m ≡ names_from t b m
  names_before b m h k = names_stay b m (inl (h, k)) (omega arith)

  pub names_after : (b m : ℕ) → b ≤ 288 → b + m ≤ 544 → base + n < b → base + 32 ≤ b → names_from (with_name t base n name) b m ≡ names_from t b m
  names_after b m i h k g = names_stay b m (inr (i, k, g)) h

  -- a name that is new is put behind the names of its table
  pub names_put : get_or name 0 0 < 256 → index_from 0 (names_from t base n) name ≡ None
      → names_from (with_name t base n name) base (n + 1) ≡ names_from t base n ++ (name ∷ [])
  names_put byte new = go (spot_of t base n name) refl where
    go : (s : Spot) → spot_of t base n name ≡ s → names_from (with_name t base n name) base (n + 1) ≡ names_from t base n ++ (name ∷ [])
    go (Ok e) q =
        let z : Some e ≡ None = ap result_ok (sym q) ∙ found_is t base n name short byte ∙ new in
        absurd (let y : ◌≡◌ {A = ℕ} 0 1 = cc in omega arith)
    go (Err place) q = free_put t base n name size base_low few short place q

-- ---- the stores that put a name

module _ (t : List ℕ) (base n : ℕ) (name : List ℕ) {s : Spot} (s_is : s ≡ spot_of t base n name) where
  pub put_none : (e : ℕ) → s ≡ Ok e → t ≡ with_name t base n name
  unfolding with_name
  put_none e q = ap (put_at t base n name) (sym q ∙ s_is)

  module _ (place : ℕ) (s_free : s ≡ Err place) (p : List ℕ) (p_is : p ≡ slot_put t (base + n) name) where
    pub put_some : set p place n ≡ with_name t base n name
    unfolding with_name
    put_some = rw p_is (ap (put_at t base n name) (sym s_free ∙ s_is))

    pub put_room : length t ≡ 55392 → base ≤ 288 → n < 256 → length name ≤ 64 → place < length p
    put_room size low few short =
        let long : length p ≡ length t = ap length p_is ∙ all_put t ((base + n) * 67) (slot_of name) (omega (arith, length_slot name)) in
        let end = spot_ended t base n name place (sym s_is ∙ s_free) in
        omega (arith, reached_inside t base n low (omega arith) (tag_small name) end.reached)
