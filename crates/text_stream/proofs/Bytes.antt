-- Laws of the stream: a byte, and the bytes of a piece.
use Prim.Native.Nat.{ℕ, zero, suc, ◌+◌, ◌≤◌, ◌<◌, min}
use mathlib.Core.Path.{◌≡◌, refl, ap, sym, ◌∙◌}
use mathlib.Core.Bool.{Bool, true, false}
use mathlib.Core.List.{List, [], ◌∷◌, ◌++◌}
use native.Mathlib.Omega.{arith}
use native.Mathlib.Numerals.{add-one}
use borrow.Author.Tests.{ltb-true, ltb-false, le-ltb}
use lib.Dec.{eqb, ltb}
use lib.ListN.{length, take, drop, get_or, set, drop_of_length-le}
use lib.Seq.{drop-cons, take-suc-set, set_out, take_all}
use Rattle.text_fields.specs.Split.{pick, before}
use Rattle.text_fields.specs.Class.{class_of, is_newline}
use Rattle.text_fields.proofs.Laws.{newline_is}
use Rattle.text_position.specs.declared.Position.{Position}
use Rattle.text_position.specs.Place.{advanced}
use Rattle.text_lines.specs.Lines.{Control}
use Rattle.text_lines.specs.View.{Sheets}
use Rattle.text_stream.specs.Stream.{Stream, step_byte, feed_all, holding}

-- feeding the bytes from i on
module _ (s : Stream) (l : List ℕ) (i : ℕ) where
  pub feed_more : i < length l → feed_all s (drop i l) ≡ feed_all (step_byte s (get_or l i 0)) (drop (i + 1) l)
  feed_more h = rw (drop-cons l i 0, add-one)

  pub feed_end : length l ≤ i → feed_all s (drop i l) ≡ s
  feed_end h = rw drop_of_length-le

-- piece after piece is the whole
pub feed_append : (s : Stream) (xs ys : List ℕ) → feed_all s (xs ++ ys) ≡ feed_all (feed_all s xs) ys
feed_append s [] ys = refl
feed_append s (x ∷ xs) ys = feed_append (step_byte s x) xs ys

-- a byte of an unfinished line is held, as far as the buffer reaches
module _ (pos : Position) (line : List ℕ) (b : ℕ) where
  grown : (at : ℕ) → length line ≡ 526
      → take (pick (ltb at 526) (at + 1) at) (set line at b) ≡ pick (ltb at 526) (take at line ++ (b ∷ [])) (take at line)
  grown at h = go (ltb at 526) refl where
    go : (x : Bool) → ltb at 526 ≡ x → take (pick x (at + 1) at) (set line at b) ≡ pick x (take at line ++ (b ∷ [])) (take at line)
    go true e = let k = ltb-true at 526 e in rw add-one (take-suc-set line at b (omega arith))
    go false e = let k = ltb-false at 526 e in rw (set_out line at b (omega arith))

  pub step_plain : (next : Position) (line' : List ℕ) (c : Control) (s : Sheets)
      → next ≡ advanced pos b → is_newline (class_of b) ≡ false → length line ≡ 526 → line' ≡ set line pos.at b
      → holding next line' c s ≡ step_byte (holding pos line c s) b
  unfolding step_byte
  step_plain next line' c s is e h g = rw (is, g, e, grown pos.at h)

-- no byte is a newline
clear_rest : (b : ℕ) (bs : List ℕ) → before 10 (b ∷ bs) ≡ suc (length bs) → (eqb b 10 ≡ false) × (before 10 bs ≡ length bs)
clear_rest b bs h = go (eqb b 10) refl h where
  go : (t : Bool) → eqb b 10 ≡ t → pick t 0 (suc (before 10 bs)) ≡ suc (length bs) → (eqb b 10 ≡ false) × (before 10 bs ≡ length bs)
  go true e q = absurd (omega arith)
  go false e q = (e, omega arith)

clear_at : (l : List ℕ) (i : ℕ) → before 10 l ≡ length l → i < length l → eqb (get_or l i 0) 10 ≡ false
clear_at [] i h k = absurd (omega arith)
clear_at (b ∷ bs) zero h k = (clear_rest b bs h).0
clear_at (b ∷ bs) (suc i) h k = clear_at bs i (clear_rest b bs h).1 (omega arith)

pub clear_take : (l : List ℕ) (n : ℕ) → before 10 l ≡ length l → before 10 (take n l) ≡ length (take n l)
clear_take l zero h = refl
clear_take [] (suc n) h = refl
clear_take (b ∷ bs) (suc n) h = let k = clear_rest b bs h in rw k.0 (ap suc (clear_take bs n k.1))

-- a line that is too long is held as far as it will be
module _ (s : Stream) where
  step_full : (b : ℕ) → 526 ≤ s.pos.at → eqb b 10 ≡ false → step_byte s b ≡ s
  unfolding step_byte
  step_full b h e = rw (newline_is b ∙ e, le-ltb s.pos.at 526 h)

  feed_full : (l : List ℕ) → 526 ≤ s.pos.at → before 10 l ≡ length l → feed_all s l ≡ s
  feed_full [] h k = refl
  feed_full (b ∷ bs) h k =
      let c = clear_rest b bs k in
      ap (λ (x : Stream). feed_all x bs) (step_full b h c.0) ∙ feed_full bs h c.1

  step_at : (b n : ℕ) → eqb b 10 ≡ false → 526 ≤ s.pos.at + suc n → 526 ≤ (step_byte s b).pos.at + n
  unfolding step_byte
  step_at b n e h = rw (newline_is b ∙ e) (go (ltb s.pos.at 526) refl) where
    go : (x : Bool) → ltb s.pos.at 526 ≡ x → 526 ≤ pick x (s.pos.at + 1) s.pos.at + n
    go true x = omega arith
    go false x = let k = ltb-false s.pos.at 526 x in omega arith

-- as many bytes as fill the line do what all of them do
pub feed_most : (s : Stream) (l : List ℕ) (n : ℕ) → before 10 l ≡ length l → 526 ≤ s.pos.at + n → feed_all s (take n l) ≡ feed_all s l
feed_most s l zero k h = sym (feed_full s l (omega arith) k)
feed_most s [] (suc n) k h = refl
feed_most s (b ∷ bs) (suc n) k h = let c = clear_rest b bs k in feed_most (step_byte s b) bs n c.1 (step_at s b n c.0 h)

-- so do the first 526 at most
pub feed_first : (s : Stream) (l : List ℕ) (n : ℕ) → before 10 l ≡ length l → min (length l) 526 ≤ n → feed_all s (take n l) ≡ feed_all s l
feed_first s l n clear h = go (ltb (length l) 526) refl where
  go : (t : Bool) → ltb (length l) 526 ≡ t → feed_all s (take n l) ≡ feed_all s l
  go true e = let k = ltb-true (length l) 526 e in ap (feed_all s) (take_all n l (omega arith))
  go false e = let k = ltb-false (length l) 526 e in feed_most s l n clear (omega arith)

pub hold_more : (pos : Position) (line l : List ℕ) (i : ℕ) {next : Position} {line' : List ℕ} (c : Control) (s : Sheets)
    → before 10 l ≡ length l → i < length l → length line ≡ 526
    → line' ≡ set line pos.at (get_or l i 0) → next ≡ advanced pos (get_or l i 0)
    → feed_all (holding next line' c s) (drop (i + 1) l) ≡ feed_all (holding pos line c s) (drop i l)
hold_more pos line l i {next} {line'} c s clear h m g is =
    ap (λ (x : Stream). feed_all x (drop (i + 1) l))
    (step_plain pos line (get_or l i 0) next line' c s is (newline_is (get_or l i 0) ∙ clear_at l i clear h) m g)
    ∙ sym (feed_more (holding pos line c s) l i h)
