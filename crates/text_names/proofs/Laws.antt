-- Laws of slots.
use Prim.Native.Nat.{ℕ, suc, ◌+◌, ◌*◌, ◌/◌, ◌%◌, ◌≤◌, ◌<◌}
use mathlib.Core.Path.{◌≡◌, refl, ap, sym, ◌∙◌}
use mathlib.Core.List.{List, append_assoc}
use native.Mathlib.Omega.{arith}
use native.Mathlib.Nat.{add-zero}
use native.Mathlib.Numerals.{add-one}
use lib.ListN.{length, take, drop, get_or, set, length-set}
use lib.Seq.{drop-drop, paste, paste-zero, paste-suc, length-paste, take-paste, drop-paste}
use Rattle.text_tags.specs.Tags.{tag_of}
use Rattle.text_names.specs.Table.{slot_of, slot_put}

-- the bytes of a name's slot
module _ (name : List ℕ) where
  pub length_slot : length (slot_of name) ≡ 3 + length name
  unfolding slot_of
  length_slot = omega arith

  pub slot_length : get_or (slot_of name) 0 0 ≡ length name
  unfolding slot_of
  slot_length = refl

  pub slot_tag : get_or (slot_of name) 1 0 + get_or (slot_of name) 2 0 * 256 ≡ tag_of name
  unfolding slot_of
  slot_tag = omega arith

  pub slot_name : (i : ℕ) → get_or (slot_of name) (3 + i) 0 ≡ get_or name i 0
  unfolding slot_of
  slot_name i = let z : 3 + i ≡ suc (suc (suc i)) = omega arith in rw z

-- a run of stores that copies s into d at a place
module _ (d : List ℕ) (at : ℕ) (s : List ℕ) (i : ℕ) (t : List ℕ) (is : t ≡ paste d at s i) where
  pub put_more : (v : ℕ) → v ≡ get_or s i 0 → i < length s → at + i < length d → set t (at + i) v ≡ paste d at s (i + 1)
  put_more v e h k = rw (is, e, add-one) (paste-suc d at s i 0 k h)

  pub put_length : i ≤ length s → at + i ≤ length d → length t ≡ length d
  put_length h k = ap length is ∙ length-paste d at s i k h

-- the stores that write a name's slot: three bytes, and then the name
module _ (t : List ℕ) (s : ℕ) (name : List ℕ) (fits : s * 67 + 67 ≤ length t) (short : length name ≤ 64) where
  abbrev headed : ℕ → List ℕ
  headed tag = set (set (set t (s * 67) (length name)) (s * 67 + 1) (tag % 256)) (s * 67 + 2) (tag / 256)

  head_put : headed (tag_of name) ≡ paste t (s * 67) (slot_of name) 3
  unfolding slot_of
  head_put =
      let l = slot_of name in
      let a = put_more t (s * 67) l 0 t (paste-zero t (s * 67) l) (length name) refl (omega arith) (omega arith) in
      let b = put_more t (s * 67) l 1 _ (rw add-zero at a) (tag_of name % 256) refl (omega arith) (omega arith) in
      put_more t (s * 67) l 2 _ b (tag_of name / 256) refl (omega arith) (omega arith)

  head_length : (tag : ℕ) → length (headed tag) ≡ length t
  head_length tag = simp length-set

  pub slot_put_lem : {tag : ℕ} → tag ≡ tag_of name → (p : List ℕ) → p ≡ paste (headed tag) (s * 67 + 3) name (length name) → p ≡ slot_put t s name
  unfolding slot_of
  slot_put_lem is p e =
      let a = s * 67 in
      let n = length name in
      let l = slot_of name in
      let u = paste t a l 3 in
      let z : a + 3 + n ≡ a + length l = omega arith in
      let tail : drop (a + 3 + n) u ≡ drop (a + 3 + n) t =
      sym (drop-drop n (a + 3) u) ∙ ap (drop n) (drop-paste t a l 3 (omega arith) (omega arith)) ∙ drop-drop n (a + 3) t in
      e ∙ rw (is, head_put, take-paste t a l 3 (omega arith) (omega arith), tail, z, append_assoc (take a t) (take 3 l) (take n name))
