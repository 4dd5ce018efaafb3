-- Laws of names: words of bytes, and bytes that are mixed.
use Prim.Native.Nat.{ℕ, zero, suc, ◌+◌, ◌-◌, ◌*◌, ◌/◌, ◌%◌, ◌≤◌, ◌<◌}
use mathlib.Core.Path.{◌≡◌, refl, ap, sym, ◌∙◌}
use mathlib.Core.Bool.{Bool, true, false, ◌&&◌}
use mathlib.Core.List.{List}
use native.Mathlib.Omega.{arith}
use borrow.Author.Tests.{eqb-true, eqb-false, ltb-true, ltb-false, le-ltb}
use mir.Syntax.{w8}
use mir.Val.{Fits}
use lib.Dec.{eqb, ltb}
use lib.ListN.{length, get_or}
use lib.Seq.{ext_get_or}
use Rattle.text_fields.specs.Split.{same}
use Rattle.text_fields.proofs.Laws.{same_unequal, same_self}
use Rattle.text_tags.specs.Tags.{word_at, wide_at, mixed, mix_words, mix_name, tag_of}

-- every element is a byte
abbrev pub Bytes : List ℕ → Type 0
Bytes l = (k : ℕ) → Fits w8 (get_or l k 0)

-- the first i bytes of two lists are alike
abbrev pub Alike : List ℕ → List ℕ → ℕ → Type 0
Alike a b i = (k : ℕ) → k < i → get_or a k 0 ≡ get_or b k 0

-- n bytes from place i on as a number, the first the least
abbrev num : List ℕ → ℕ → ℕ → ℕ
num l zero i = 0
num l (suc n) i = get_or l i 0 + 256 * num l n (i + 1)

-- four bytes and eight
word_num : (l : List ℕ) (i : ℕ) → word_at l i ≡ num l 4 i
word_num l i =
    let two : i + 1 + 1 ≡ i + 2 = omega arith in
    let three : i + 2 + 1 ≡ i + 3 = omega arith in
    rw (two, three) (omega arith)

wide_num : (l : List ℕ) (i : ℕ) → wide_at l i ≡ num l 8 i
wide_num l i =
    let four : i + 1 + 1 + 1 + 1 ≡ i + 4 = omega arith in
    rw (word_num l i, word_num l (i + 4), four) (omega arith)

module _ (a b : List ℕ) where
  -- lists that differ in what is asked of both
  pub parts : (f : List ℕ → ℕ) {x y : ℕ} → x ≡ f a → y ≡ f b → (x ≡ y → ⊥) → false ≡ same a b
  parts f p q h = sym (same_unequal a b (λ e. h (p ∙ ap f e ∙ sym q)))

  pub wide_parts : (i : ℕ) {x y : ℕ} → x ≡ wide_at a i → y ≡ wide_at b i → (x ≡ y → ⊥) → false ≡ same a b
  wide_parts i = parts (λ (l : List ℕ). wide_at l i)

  -- lists that are alike to the end
  pub alike_all : {i : ℕ} → length a ≡ length b → length a ≤ i → Alike a b i → true ≡ same a b
  alike_all h l s = sym (rw (ext_get_or 0 a b h (λ k m. s k (omega arith))) (same_self b))

  module _ (p : Bytes a) (q : Bytes b) where
    -- numbers of n bytes that are equal have equal bytes
    num_alike : (n i : ℕ) → num a n i ≡ num b n i → (k : ℕ) → i ≤ k → k < i + n → get_or a k 0 ≡ get_or b k 0
    num_alike zero i e k h l = absurd (omega arith)
    num_alike (suc n) i e k h l = go (num_alike n (i + 1) (omega (arith, p i, q i)) k) (eqb k i) refl where
      go : (i + 1 ≤ k → k < i + 1 + n → get_or a k 0 ≡ get_or b k 0) → (t : Bool) → eqb k i ≡ t → get_or a k 0 ≡ get_or b k 0
      go ih true z = rw (eqb-true k i z) (omega (arith, p i, q i))
      go ih false z = let y = eqb-false k i z in ih (omega arith) (omega arith)

    -- one more number of n bytes is equal, from a place on that is reached
    alike_on : (n : ℕ) (f : List ℕ → ℕ → ℕ) → ((l : List ℕ) (i : ℕ) → f l i ≡ num l n i) → (i j : ℕ) {x y : ℕ} → Alike a b i → j ≤ i
        → x ≡ f a j → y ≡ f b j → x ≡ y → Alike a b (j + n)
    alike_on n f is i j s h u v e k l = go (ltb k i) refl where
      go : (t : Bool) → ltb k i ≡ t → get_or a k 0 ≡ get_or b k 0
      go true z = s k (ltb-true k i z)
      go false z = num_alike n j (sym (u ∙ is a j) ∙ e ∙ v ∙ is b j) k (omega (arith, ltb-false k i z)) l

    -- from four bytes to seven: the first four and the last four
    pub word_pair : {x y z w : ℕ} → length a ≡ length b → 4 ≤ length a → length a < 8 → x ≡ word_at a 0 → y ≡ word_at b 0
        → z ≡ word_at a (length a - 4) → w ≡ word_at b (length a - 4) → (eqb x y && eqb z w) ≡ same a b
    word_pair {x} {y} {z} {w} h l m u v s t = go (eqb x y) (eqb z w) refl refl where
      go : (d e : Bool) → eqb x y ≡ d → eqb z w ≡ e → (d && e) ≡ same a b
      go false e f g = parts (λ (l : List ℕ). word_at l 0) u v (eqb-false x y f)
      go true false f g = parts (λ (l : List ℕ). word_at l (length a - 4)) s t (eqb-false z w g)
      go true true f g =
          let front = alike_on 4 word_at word_num 0 0 (λ k n. absurd (omega arith)) (omega arith) u v (eqb-true x y f) in
          alike_all h (omega arith) (alike_on 4 word_at word_num 4 (length a - 4) front (omega arith) s t (eqb-true z w g))

-- where words of eight bytes are compared: the first i bytes are alike, and the last eight
pub record Comparing (a b : List ℕ) (i : ℕ) : Type 0 where
  pub inside : i < length a
  pub long : length a ≡ length b
  pub bytes : Bytes a × Bytes b
  pub so_far : Alike a b i
  pub last : wide_at a (length a - 8) ≡ wide_at b (length a - 8)

module _ {a b : List ℕ} {i : ℕ} (s : Comparing a b i) where
  reach : (j : ℕ) {x y : ℕ} → j ≤ i → x ≡ wide_at a j → y ≡ wide_at b j → x ≡ y → Alike a b (j + 8)
  reach j = alike_on a b s.bytes.0 s.bytes.1 8 wide_at wide_num i j s.so_far

  pub compare_done : length a - i ≤ 8 → true ≡ same a b
  compare_done h = alike_all a b s.long (omega arith) (reach (length a - 8) (omega arith) refl refl s.last)

  pub compare_goes_on : {x y : ℕ} → 8 < length a - i → x ≡ wide_at a i → y ≡ wide_at b i → x ≡ y → Comparing a b (i + 8)
  compare_goes_on h u v e =
      record { inside = omega arith; long = s.long; bytes = s.bytes; so_far = reach i (omega arith) u v e; last = s.last }

pub compare_begins : {a b : List ℕ} {x y : ℕ} → Bytes a → Bytes b → length a ≡ length b → 8 ≤ length a
    → x ≡ wide_at a (length a - 8) → y ≡ wide_at b (length a - 8) → x ≡ y → Comparing a b 0
compare_begins p q h l u v e = record { inside = omega arith; long = h; bytes = (p, q); so_far = λ k z. absurd (omega arith); last = sym u ∙ e ∙ v }

-- one more word is mixed in, and the last
module _ (name : List ℕ) (i : ℕ) {h : ℕ} where
  module _ {x r : ℕ} (p : h ≡ mix_words name (i / 4)) (whole : i % 4 ≡ 0) where
    pub words_on : x ≡ word_at name i → r ≡ mixed h x → r ≡ mix_words name ((i + 4) / 4)
    unfolding mix_words
    words_on q e =
        let z : (i + 4) / 4 ≡ suc (i / 4) = omega arith in
        let y : i / 4 * 4 ≡ i = omega arith in
        e ∙ rw (z, p, q, y)

    pub words_end : i < length name → length name - i ≤ 4 → 4 ≤ length name → x ≡ word_at name (length name - 4) → r ≡ mixed h x → r ≡ mix_name name
    unfolding mix_name
    words_end k l m q e =
        let z : i / 4 ≡ (length name - 1) / 4 = omega arith in
        e ∙ rw (p, q, z, le-ltb (length name) 4 m)

-- a tag is below 1,024
pub tag_small : (name : List ℕ) → tag_of name < 1024
unfolding tag_of
tag_small name = omega arith
