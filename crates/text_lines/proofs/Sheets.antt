-- Laws of storing rows in sheets.
use Rattle.std.proofs.Common.{◌≡◌, ℕ, zero, suc, ◌+◌, ◌-◌, ◌≤◌, min, Bool, true, false, List, [], ◌∷◌, ◌++◌, length, length-take, take, drop, set, refl, sym, ap, append_assoc, ◌∙◌, arith}
use Rattle.std.proofs.lemmas.List.{take_min}
use Rattle.std.proofs.lemmas.List.Edits.{sets, sets-eq}
use borrow.Rule.Slice.PartMut.{put_mid, post_of, Post-is}
use borrow.Author.Tests.{leb-true, leb-false}
use lib.Dec.{leb}
use lib.ListN.{length-set}
use lib.Seq.{set_out}
use Rattle.text_rows.specs.Rows.{Kept}
use Rattle.text_lines.specs.declared.Sheet.{Sheet}
use Rattle.text_lines.specs.declared.Sheet.TheVariants.{Sorts, Terms, Inputs, Steps}
use Rattle.text_lines.specs.View.{Sheets, stored}

-- numbers behind the end are not stored
sets_beyond : (s : List ℕ) (at : ℕ) (cells : List ℕ) → length s ≤ at → sets s at cells ≡ s
sets_beyond s at [] h = refl
sets_beyond s at (x ∷ xs) h = rw (set_out s at x h) (sets_beyond s (suc at) xs (omega arith))

sets_room : (cells s : List ℕ) (at n : ℕ) → at + n ≡ length s → sets s at (take n cells) ≡ sets s at cells
sets_room [] s at zero h = refl
sets_room [] s at (suc n) h = refl
sets_room (x ∷ xs) s at zero h = sym (sets_beyond s at (x ∷ xs) (omega arith))
sets_room (x ∷ xs) s at (suc n) h = sets_room xs (set s at x) (suc at) n (rw length-set (omega arith))

sets_from : (s cells : List ℕ) (at from : ℕ) → from ≡ min at (length s) → sets s from cells ≡ sets s at cells
sets_from s cells at from p = go (leb (length s) at) refl where
  go : (t : Bool) → leb (length s) at ≡ t → sets s from cells ≡ sets s at cells
  go true e =
      let h = leb-true (length s) at e in
      sets_beyond s from cells (omega arith) ∙ sym (sets_beyond s at cells h)
  go false e =
      let h = leb-false (length s) at e in
      let q : from ≡ at = omega arith in
      ap (λ i. sets s i cells) q

-- the numbers for which there is room, stored at once
pub sets_part : (s cells ys : List ℕ) (at from n : ℕ) → from ≡ min at (length s) → n ≡ min (length s - from) (length cells) → ys ≡ take n cells
    → put_mid from (from + n - from) s ys ≡ sets s at cells
sets_part s cells ys at from n p q r =
    let same : ys ≡ take (length s - from) cells = rw (r, q) (take_min (length s - from) cells) in
    let long : length ys ≡ n = rw (r, length-take) (omega arith) in
    let after : post_of from (from + n - from) s ≡ drop (from + n) s = Post-is from (from + n) s (omega arith) in
    let stored : sets s from ys ≡ (take from s ++ ys) ++ drop (from + length ys) s = sets-eq ys s from (omega arith) in
    rw after (sym (append_assoc (take from s) ys (drop (from + n) s))
    ∙ sym (rw long at stored)
    ∙ rw same (sets_room cells s from (length s - from) (omega arith))
    ∙ sets_from s cells at from p)

-- the same where they are stored one after the other
pub sets_fit : (s cells row ys : List ℕ) (at from n : ℕ) → from ≡ min at (length s) → n ≡ min (length s - from) (length cells) → row ≡ take n cells
    → ys ≡ sets s from row → ys ≡ sets s at cells
sets_fit s cells row ys at from n p q r e =
    let same : row ≡ take (length s - from) cells = rw (r, q) (take_min (length s - from) cells) in
    e ∙ rw same (sets_room cells s from (length s - from) (omega arith)) ∙ sets_from s cells at from p

-- no row
pub stored_none : (sheet : Sheet) (k : Kept) (s : Sheets) → stored sheet k s [] ≡ s
unfolding stored
stored_none Sorts k s = refl
stored_none Terms k s = refl
stored_none Inputs k s = refl
stored_none Steps k s = refl
