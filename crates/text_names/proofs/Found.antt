-- What the search of a table finds is where the list of its names has the name.
use Prim.Native.Nat.{ℕ, zero, suc, ◌+◌, ◌≤◌, ◌<◌}
use mathlib.Core.Path.{◌≡◌, refl, ap, sym, ◌∙◌}
use mathlib.Core.Bool.{Bool, true, false}
use mathlib.Core.List.{List, [], ◌∷◌}
use native.Mathlib.Omega.{arith}
use borrow.Author.Tests.{eqb-true, eqb-false, eq-eqb}
use lib.Dec.{eqb}
use lib.ListN.{length, take, drop, get_or}
use Rattle.text_fields.specs.Split.{pick, same}
use Rattle.text_fields.specs.Words.{index_from}
use Rattle.text_fields.proofs.Laws.{same_length, same_equal, same_unequal, same_self}
use Rattle.text_tags.specs.Tags.{tag_of}
use Rattle.std.specs.Prelude.{Option, Some, None, Ok, Err}
use Rattle.std.specs.Result.{result_ok}
use Rattle.text_names.specs.Table.{Spot, name_from, length_at, held, number_at, next_place, leads_on, seek_from, spot_of, found, written, is_number, name_at, names_on, names_from}
use Rattle.text_names.proofs.Search.{leads_to}

-- ---- a name that is found stands in its slot

seek_sound : (t : List ℕ) (base n : ℕ) (name : List ℕ) (m low place d k : ℕ) → seek_from t base n name m low place d ≡ Ok k
    → (held t (base + k) name ≡ true) × (k < n)
seek_sound t base n name zero low place d k q = absurd (let z : ◌≡◌ {A = ℕ} 0 1 = cc in omega arith)
seek_sound t base n name (suc m) low place d k q =
    go (seek_sound t base n name m (suc (number_at t place)) (next_place t base name place d) (suc d) k)
    (leads_on t base n (tag_of name) low (number_at t place)) (held t (base + number_at t place) name) refl refl q where
      go : (seek_from t base n name m (suc (number_at t place)) (next_place t base name place d) (suc d) ≡ Ok k
          → (held t (base + k) name ≡ true) × (k < n))
          → (b c : Bool) → leads_on t base n (tag_of name) low (number_at t place) ≡ b → held t (base + number_at t place) name ≡ c
          → pick b (pick c (Ok (number_at t place)) (seek_from t base n name m (suc (number_at t place))
          (next_place t base name place d) (suc d))) (Err place) ≡ Ok k
          → (held t (base + k) name ≡ true) × (k < n)
      go ih true true p r z =
          let y : number_at t place ≡ k = cc in
          let s = leads_to t base n (tag_of name) low (number_at t place) p in
          (rw (sym y) r, omega (arith, s.1))
      go ih true false p r z = ih z
      go ih false c p r z = absurd (let y : ◌≡◌ {A = ℕ} 0 1 = cc in omega arith)

spot_held : (s : Spot) (k : ℕ) → result_ok s ≡ Some k → s ≡ Ok k
spot_held (Ok e) k q = let z : e ≡ k = cc in ap Ok z
spot_held (Err place) k q = absurd (let z : ◌≡◌ {A = ℕ} 0 1 = cc in omega arith)

found_sound : (t : List ℕ) (base n : ℕ) (name : List ℕ) (k : ℕ) → found t base n name ≡ Some k → (held t (base + k) name ≡ true) × (k < n)
unfolding spot_of
found_sound t base n name k q = seek_sound t base n name n 0 _ 0 k (spot_held (spot_of t base n name) k q)

-- ---- what is written in a slot

pub take_most : (n : ℕ) (l : List ℕ) → length (take n l) ≤ n
take_most zero l = omega arith
take_most (suc n) [] = omega arith
take_most (suc n) (x ∷ xs) = omega (arith, take_most n xs)

take_least : (n : ℕ) (l : List ℕ) → length (take n l) ≤ length l
take_least zero l = omega arith
take_least (suc n) [] = omega arith
take_least (suc n) (x ∷ xs) = omega (arith, take_least n xs)

pub take_take : (m n : ℕ) (l : List ℕ) → m ≤ n → take m (take n l) ≡ take m l
take_take zero n l h = refl
take_take (suc m) zero l h = absurd (omega arith)
take_take (suc m) (suc n) [] h = refl
take_take (suc m) (suc n) (x ∷ xs) h = rw (take_take m n xs (omega arith))

pub written_short : (t : List ℕ) (s : ℕ) → length (written t s) ≤ 64
unfolding written
written_short t s = omega (arith, take_least (length_at t s) (take 64 (drop (name_from s) t)), take_most 64 (drop (name_from s) t))

-- a slot that holds a name has it written
pub held_written : (t : List ℕ) (s : ℕ) (name : List ℕ) → length name ≤ 64 → held t s name ≡ true → written t s ≡ name
unfolding held written
held_written t s name h q = go (eqb (length_at t s) (length name)) refl q where
  go : (b : Bool) → eqb (length_at t s) (length name) ≡ b → pick b (same (take (length name) (drop (name_from s) t)) name) false ≡ true
      → take (length_at t s) (take 64 (drop (name_from s) t)) ≡ name
  go true p r =
      let z : length_at t s ≡ length name = eqb-true (length_at t s) (length name) p in
      rw z (take_take (length name) 64 (drop (name_from s) t) h ∙ same_equal (take (length name) (drop (name_from s) t)) name r)
  go false p r = absurd (let y : ◌≡◌ {A = ℕ} 0 1 = cc in omega arith)

number_is : (f : Option ℕ) (j : ℕ) → is_number f j ≡ true → f ≡ Some j
number_is (Some k) j e = ap Some (eqb-true k j e)
number_is None j e = absurd (let y : ◌≡◌ {A = ℕ} 0 1 = cc in omega arith)

module _ (t : List ℕ) (base n : ℕ) (name : List ℕ) (short : length name ≤ 64) (byte : get_or name 0 0 < 256) where
  -- where a name is found, it is the name of that number, and nowhere else
  named_at : (j : ℕ) → found t base n name ≡ Some j → name_at t base n j ≡ name
  unfolding name_at
  named_at j e =
      let w : written t (base + j) ≡ name = held_written t (base + j) name short (found_sound t base n name j e).0 in
      rw (w, e, eq-eqb j j refl)

  found_at_lem : (j : ℕ) → name_at t base n j ≡ name → found t base n name ≡ Some j
  unfolding name_at
  found_at_lem j e = go (is_number (found t base n (written t (base + j))) j) refl e where
    go : (b : Bool) → is_number (found t base n (written t (base + j))) j ≡ b
        → pick b (written t (base + j)) (256 ∷ []) ≡ name → found t base n name ≡ Some j
    go true p q = ap (found t base n) (sym q) ∙ number_is (found t base n (written t (base + j))) j p
    go false p q = absurd (let z : get_or (256 ∷ []) 0 0 ≡ get_or name 0 0 = ap (λ (l : List ℕ). get_or l 0 0) q in omega arith)

  index_none : found t base n name ≡ None → (m j : ℕ) → index_from j (names_on t base n j m) name ≡ None
  index_none e zero j = refl
  index_none e (suc m) j =
      let other : name_at t base n j ≡ name → ⊥ = λ p. let q = found_at_lem j p in let z : ◌≡◌ {A = ℕ} 0 1 = cc in omega arith in
      rw (same_unequal (name_at t base n j) name other) (index_none e m (suc j))

  index_some : (k : ℕ) → found t base n name ≡ Some k → (m j : ℕ) → j ≤ k → k < j + m → index_from j (names_on t base n j m) name ≡ Some k
  index_some k e zero j h l = absurd (omega arith)
  index_some k e (suc m) j h l = go (index_some k e m (suc j)) (eqb j k) refl where
    go : (suc j ≤ k → k < suc j + m → index_from (suc j) (names_on t base n (suc j) m) name ≡ Some k) → (b : Bool) → eqb j k ≡ b
        → pick (same (name_at t base n j) name) (Some j) (index_from (suc j) (names_on t base n (suc j) m) name) ≡ Some k
    go ih true p =
        let z : j ≡ k = eqb-true j k p in
        let w : name_at t base n j ≡ name = named_at j (e ∙ ap Some (sym z)) in
        rw (ap (λ (l : List ℕ). same l name) w ∙ same_self name) (ap Some z)
    go ih false p =
        let z = eqb-false j k p in
        rw (same_unequal (name_at t base n j) name (λ q. let r = found_at_lem j q in let y : j ≡ k = cc in z y)) (ih (omega arith) (omega arith))

  below : (k : ℕ) → found t base n name ≡ Some k → k < n
  below k q = (found_sound t base n name k q).1

  -- the search finds what the list of names has
  pub found_is : found t base n name ≡ index_from 0 (names_from t base n) name
  found_is = go (found t base n name) refl where
    go : (f : Option ℕ) → found t base n name ≡ f → found t base n name ≡ index_from 0 (names_from t base n) name
    go (Some k) e = e ∙ sym (index_some k e n 0 (omega arith) (omega (arith, below k e)))
    go None e = e ∙ sym (index_none e n 0)

-- a name of more than 64 bytes is nowhere
pub long_nowhere : (t : List ℕ) (base n : ℕ) (name : List ℕ) → 64 < length name → None ≡ index_from 0 (names_from t base n) name
unfolding name_at
long_nowhere t base n name h = sym (go n 0) where
  short : (j : ℕ) → length (name_at t base n j) ≤ 64
  short j = two (is_number (found t base n (written t (base + j))) j) where
    two : (b : Bool) → length (pick b (written t (base + j)) (256 ∷ [])) ≤ 64
    two true = written_short t (base + j)
    two false = omega arith

  go : (m j : ℕ) → index_from j (names_on t base n j m) name ≡ None
  go zero j = refl
  go (suc m) j = rw (same_length (name_at t base n j) name (λ e. omega (arith, short j))) (go m (suc j))
