-- Laws of the search of a table: its steps, where it can be, and where it ends.
use Prim.Native.Nat.{ℕ, zero, suc, ◌+◌, ◌/◌, ◌%◌, ◌≤◌, ◌<◌}
use mathlib.Core.Path.{◌≡◌, refl, ap, sym, ◌∙◌}
use mathlib.Core.Bool.{Bool, true, false}
use mathlib.Core.List.{List}
use native.Mathlib.Omega.{arith}
use native.Mathlib.Numerals.{add-one}
use borrow.Author.Tests.{eqb-true, leb-true, leb-false, le-leb, lt-leb, ltb-true, lt-ltb, le-ltb}
use lib.Dec.{eqb, leb, ltb}
use lib.ListN.{length, get_or}
use Rattle.text_fields.specs.Split.{pick}
use Rattle.text_tags.specs.Tags.{tag_of}
use Rattle.text_tags.proofs.Laws.{tag_small}
use Rattle.std.specs.Prelude.{Ok, Err}
use Rattle.text_names.specs.Table.{Spot, tag_at, held, first_place, below_place, digit_of, number_at, next_place, leads_on, seek_from, spot_of}

-- ---- a number that leads on

module _ (t : List ℕ) (base n tag low e : ℕ) where
  -- it is that of a name, not below `low`, and the slot has the tag
  pub leads_to : leads_on t base n tag low e ≡ true → (low ≤ e) × (e < n) × (tag_at t (base + e) ≡ tag)
  unfolding leads_on
  leads_to h = go (leb low e) (ltb e n) (eqb (tag_at t (base + e)) tag) refl refl refl h where
    go : (a b c : Bool) → leb low e ≡ a → ltb e n ≡ b → eqb (tag_at t (base + e)) tag ≡ c → pick a (pick b c false) false ≡ true
        → (low ≤ e) × (e < n) × (tag_at t (base + e) ≡ tag)
    go true true true p q r z = (leb-true low e p, ltb-true e n q, eqb-true _ _ r)
    go true true false p q r z = absurd (let y : ◌≡◌ {A = ℕ} 0 1 = cc in omega arith)
    go true false c p q r z = absurd (let y : ◌≡◌ {A = ℕ} 0 1 = cc in omega arith)
    go false b c p q r z = absurd (let y : ◌≡◌ {A = ℕ} 0 1 = cc in omega arith)

  -- a number below `low`, or of no name, does not lead on; of any other one the slot's tag tells
  pub not_below : e < low → leads_on t base n tag low e ≡ false
  unfolding leads_on
  not_below h = rw (lt-leb low e h)

  pub not_past : n ≤ e → leads_on t base n tag low e ≡ false
  unfolding leads_on
  not_past h = rw (le-ltb e n h) (go (leb low e)) where
    go : (b : Bool) → pick b false false ≡ false
    go true = refl
    go false = refl

  pub by_tag : low ≤ e → e < n → leads_on t base n tag low e ≡ eqb (tag_at t (base + e)) tag
  unfolding leads_on
  by_tag h k = rw (le-leb low e h, lt-ltb e n k)

  -- where no name is left at `low` or above, none does
  pub not_left : n ≤ low → leads_on t base n tag low e ≡ false
  not_left h = go (leb low e) refl where
    go : (b : Bool) → leb low e ≡ b → leads_on t base n tag low e ≡ false
    go true p = not_past (omega (arith, leb-true low e p))
    go false p = not_below (leb-false low e p)

-- ---- the search, step by step

pub free_is : {a b : ℕ} → ◌≡◌ {A = Spot} (Err a) (Err b) → a ≡ b
free_is q = cc

pub held_not_free : {a b : ℕ} → ◌≡◌ {A = Spot} (Ok a) (Err b) → ⊥
held_not_free q = let z : ◌≡◌ {A = ℕ} 0 1 = cc in omega arith

module _ (t : List ℕ) (base n : ℕ) (name : List ℕ) where
  pub seek_past : (m low place d : ℕ) → n ≤ low → seek_from t base n name m low place d ≡ Err place
  seek_past zero low place d h = refl
  seek_past (suc m) low place d h = rw (not_left t base n (tag_of name) low (number_at t place) h)

  module _ (low place d : ℕ) where
    -- the number that stands there
    abbrev e : ℕ
    e = number_at t place

    pub seek_ends : (m : ℕ) → leads_on t base n (tag_of name) low e ≡ false → seek_from t base n name m low place d ≡ Err place
    seek_ends zero h = refl
    seek_ends (suc m) h = rw h

    -- a search that goes on has names left
    pub seek_left : (m : ℕ) → n ≤ low + m → leads_on t base n (tag_of name) low e ≡ true → 0 < m
    seek_left m k h = let r = leads_to t base n (tag_of name) low e h in omega (arith, r.0, r.1)

    module _ (m : ℕ) (h : leads_on t base n (tag_of name) low e ≡ true) where
      pub seek_hits : held t (base + e) name ≡ true → seek_from t base n name (suc m) low place d ≡ Ok e
      seek_hits p = rw (h, p)

      pub seek_goes_on : held t (base + e) name ≡ false
          → seek_from t base n name (suc m) low place d ≡ seek_from t base n name m (suc e) (below_place (base + e) (digit_of name d)) (suc d)
      seek_goes_on p = rw (h, p)

-- ---- where a search can be

pub digit_small : (name : List ℕ) (d : ℕ) → digit_of name d < 16
digit_small name d = go (eqb (d % 2) 0) where
  go : (b : Bool) → pick b (get_or name (d / 2) 0 % 16) (get_or name (d / 2) 0 / 16 % 16) < 16
  go true = omega arith
  go false = omega arith

-- at the first number of a tag, or at a number below one of n names that has the tag
pub data Reached (t : List ℕ) (base n tag low place : ℕ) : Type 0 where
  first : low ≡ 0 → place ≡ first_place base tag → Reached t base n tag low place
  next : (e x : ℕ) → low ≡ suc e → place ≡ below_place (base + e) x → e < n → x < 16 → tag_at t (base + e) ≡ tag → Reached t base n tag low place

module _ (t : List ℕ) (base n : ℕ) where
  pub reached_next : (name : List ℕ) (low e d : ℕ) → leads_on t base n (tag_of name) low e ≡ true
      → Reached t base n (tag_of name) (suc e) (below_place (base + e) (digit_of name d))
  reached_next name low e d h =
      let r = leads_to t base n (tag_of name) low e h in
      next e (digit_of name d) refl refl r.1 (digit_small name d) r.2

  -- numbers stand behind the slots
  pub reached_behind : {tag low place : ℕ} → Reached t base n tag low place → 36448 ≤ place
  reached_behind (first l p) = omega arith
  reached_behind (next e x l p k y g) = omega arith

  pub reached_inside : {tag low place : ℕ} → base ≤ 288 → base + n ≤ 544 → tag < 1024 → Reached t base n tag low place → place < 55392
  reached_inside b r h (first l p) = omega arith
  reached_inside b r h (next e x l p k y g) = omega arith

  -- a place tells the tag, and which names can be there
  pub reached_alike : {tag tag' low low' place : ℕ} → base ≤ 288 → tag < 1024 → tag' < 1024
      → Reached t base n tag low place → Reached t base n tag' low' place → (tag ≡ tag') × (low ≡ low')
  reached_alike b h h' (first l p) (first l' p') = (omega arith, omega arith)
  reached_alike b h h' (first l p) (next e' x' l' p' k' y' g') = absurd (omega arith)
  reached_alike b h h' (next e x l p k y g) (first l' p') = absurd (omega arith)
  reached_alike b h h' (next e x l p k y g) (next e' x' l' p' k' y' g') =
      let z : e ≡ e' = omega arith in
      (sym g ∙ ap (λ (i : ℕ). tag_at t (base + i)) z ∙ g', omega arith)

  -- a search ends at a place that it can be at, whose number does not lead on
  pub record Ended (name : List ℕ) (place : ℕ) : Type 0 where
    pub low : ℕ
    pub reached : Reached t base n (tag_of name) low place
    pub stops : leads_on t base n (tag_of name) low (number_at t place) ≡ false

  seek_ended : (name : List ℕ) (m low place d end : ℕ) → n ≤ low + m → Reached t base n (tag_of name) low place
      → seek_from t base n name m low place d ≡ Err end → Ended name end
  seek_ended name zero low place d end h r q =
      let z : place ≡ end = cc in
      rw (sym z) (record { low = low; reached = r; stops = not_left t base n (tag_of name) low (number_at t place) (omega arith) })
  seek_ended name (suc m) low place d end h r q =
      go (seek_ended name m (suc (number_at t place)) (next_place t base name place d) (suc d) end)
      (leads_on t base n (tag_of name) low (number_at t place)) (held t (base + number_at t place) name) refl q where
        go : (n ≤ suc (number_at t place) + m → Reached t base n (tag_of name) (suc (number_at t place)) (next_place t base name place d)
            → seek_from t base n name m (suc (number_at t place)) (next_place t base name place d) (suc d) ≡ Err end → Ended name end)
            → (b c : Bool) → leads_on t base n (tag_of name) low (number_at t place) ≡ b
            → pick b (pick c (Ok (number_at t place)) (seek_from t base n name m (suc (number_at t place))
            (next_place t base name place d) (suc d))) (Err place) ≡ Err end
            → Ended name end
        go ih true true p z = absurd (let y : ◌≡◌ {A = ℕ} 0 1 = cc in omega arith)
        go ih true false p z =
            let s = leads_to t base n (tag_of name) low (number_at t place) p in
            ih (omega (arith, s.0)) (reached_next name low (number_at t place) d p) z
        go ih false c p z = let y : place ≡ end = cc in rw (sym y) (record { low = low; reached = r; stops = p })

  pub spot_ended : (name : List ℕ) (place : ℕ) → spot_of t base n name ≡ Err place → Ended name place
  unfolding spot_of
  spot_ended name place q = seek_ended name n 0 (first_place base (tag_of name)) 0 place (omega arith) (first refl refl) q

-- ---- the search in code

-- where it stands: what is left of it ends where the whole search ends
pub record Seeking (t : List ℕ) (base count : ℕ) (name : List ℕ) (tag place low d : ℕ) : Type 0 where
  pub size : length t ≡ 55392
  pub base_low : base ≤ 288
  pub room : base + count ≤ 544
  pub short : length name ≤ 64
  pub tag_is : tag ≡ tag_of name
  pub reached : Reached t base count tag low place
  pub digits : d ≤ low
  pub fuel : ℕ
  pub enough : count ≤ low + fuel
  pub left : seek_from t base count name fuel low place d ≡ spot_of t base count name

module _ {t : List ℕ} {base count : ℕ} {name : List ℕ} {tag : ℕ} where
  pub seek_begins : {place : ℕ} → length t ≡ 55392 → base ≤ 288 → base + count ≤ 544 → length name ≤ 64 → tag ≡ tag_of name → place ≡ first_place base tag
      → Seeking t base count name tag place 0 0
  unfolding spot_of
  seek_begins size low room short is p =
      record {
        size = size;
        base_low = low;
        room = room;
        short = short;
        tag_is = is;
        reached = first refl p;
        digits = omega arith;
        fuel = count;
        enough = omega arith;
        left = rw (p, is);
      }

  module _ {place low d : ℕ} (l : Seeking t base count name tag place low d) where
    pub seek_inside : place < 55392
    seek_inside = reached_inside t base count l.base_low l.room (rw l.tag_is (tag_small name)) l.reached

    pub seek_over : count ≤ low → Err place ≡ spot_of t base count name
    seek_over h = sym (seek_past t base count name l.fuel low place d h) ∙ l.left

    module _ {e : ℕ} (e_is : e ≡ number_at t place) {b : Bool} (b_is : b ≡ leads_on t base count tag low e) where
      pub seek_stops : b ≡ false → Err place ≡ spot_of t base count name
      seek_stops h = sym (seek_ends t base count name low place d l.fuel (rw (l.tag_is, e_is) at (sym b_is ∙ h))) ∙ l.left

      module _ (b_leads : b ≡ true) where
        leads : leads_on t base count (tag_of name) low (number_at t place) ≡ true
        leads = rw (l.tag_is, e_is) at (sym b_is ∙ b_leads)

        pub seek_low : (low ≤ e) × (e < count)
        seek_low = let k = leads_to t base count (tag_of name) low (number_at t place) leads in rw e_is (k.0, k.1)

        module _ {c : Bool} (c_is : c ≡ held t (base + e) name) where
          pub seek_finds : c ≡ true → Ok e ≡ spot_of t base count name
          seek_finds h = go l.fuel l.enough l.left where
            there : held t (base + number_at t place) name ≡ true
            there = rw e_is at (sym c_is ∙ h)

            go : (m : ℕ) → count ≤ low + m → seek_from t base count name m low place d ≡ spot_of t base count name → Ok e ≡ spot_of t base count name
            go zero k q = absurd (omega (arith, seek_left t base count name low place d 0 k leads))
            go (suc m) k q = ap Ok e_is ∙ sym (seek_hits t base count name low place d m leads there) ∙ q

          pub seek_next : c ≡ false → {x place' : ℕ} → x ≡ digit_of name d → place' ≡ below_place (base + e) x
              → Seeking t base count name tag place' (e + 1) (d + 1)
          seek_next h p q = rw (q, p, add-one, add-one, e_is) (go l.fuel l.enough l.left) where
            away : held t (base + number_at t place) name ≡ false
            away = rw e_is at (sym c_is ∙ h)

            go : (m : ℕ) → count ≤ low + m → seek_from t base count name m low place d ≡ spot_of t base count name
                → Seeking t base count name tag (next_place t base name place d) (suc (number_at t place)) (suc d)
            go zero k q = absurd (omega (arith, seek_left t base count name low place d 0 k leads))
            go (suc m) k q =
                let r = leads_to t base count (tag_of name) low (number_at t place) leads in
                record {
                  size = l.size;
                  base_low = l.base_low;
                  room = l.room;
                  short = l.short;
                  tag_is = l.tag_is;
                  reached = rw l.tag_is (reached_next t base count name low (number_at t place) d leads);
                  digits = omega (arith, l.digits, r.0);
                  fuel = m;
                  enough = omega (arith, r.0);
                  left = sym (seek_goes_on t base count name low place d m leads away) ∙ q;
                }
