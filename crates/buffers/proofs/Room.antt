-- Laws of buffers that are filled from the left.
use Prim.Native.Nat.{ℕ, zero, suc, ◌+◌, ◌≤◌, ◌<◌}
use mathlib.Core.Path.{◌≡◌, refl, ap, sym, ◌∙◌}
use mathlib.Core.List.{List, [], ◌∷◌, ◌++◌, append_assoc}
use native.Mathlib.Omega.{arith}
use native.Mathlib.Numerals.{add-one}
use lib.ListN.{length, take, drop, get_or, set, replicate, drop_of_length-le, length-append}
use lib.Seq.{drop-cons, sets}
use Rattle.buffers.specs.Room.{pad_to}

-- a run of stores, from the jth on
module _ (s : List ℕ) (at : ℕ) (row : List ℕ) (j : ℕ) where
  pub sets_more : j < length row → sets s (at + j) (drop j row) ≡ sets (set s (at + j) (get_or row j 0)) (at + (j + 1)) (drop (j + 1) row)
  sets_more h = let e : at + (j + 1) ≡ suc (at + j) = omega arith in rw (drop-cons row j 0, e, add-one)

  pub sets_end : length row ≤ j → sets s (at + j) (drop j row) ≡ s
  sets_end h = rw drop_of_length-le

pub length_pad_to : (n : ℕ) (l : List ℕ) → length (pad_to n l) ≡ n
length_pad_to zero l = refl
length_pad_to (suc n) [] = ap suc (length_pad_to n [])
length_pad_to (suc n) (x ∷ xs) = ap suc (length_pad_to n xs)

-- a sheet that holds the rows so far and then zeros: a store past the rows appends a number, and past the sheet's end changes nothing
pad_snoc : (n : ℕ) (l : List ℕ) (v : ℕ) → set (pad_to n l) (length l) v ≡ pad_to n (l ++ (v ∷ []))
pad_snoc zero l v = refl
pad_snoc (suc n) [] v = refl
pad_snoc (suc n) (x ∷ xs) v = ap (λ (r : List ℕ). x ∷ r) (pad_snoc n xs v)

pub pad_none : (n : ℕ) → pad_to n [] ≡ replicate n 0
pad_none zero = refl
pad_none (suc n) = ap (λ (r : List ℕ). 0 ∷ r) (pad_none n)

pub append_nil : (l : List ℕ) → l ++ [] ≡ l
append_nil [] = refl
append_nil (x ∷ xs) = ap (λ (r : List ℕ). x ∷ r) (append_nil xs)

-- a row stored past the rows is a row appended
pub store_row : (n : ℕ) (l vs : List ℕ) → sets (pad_to n l) (length l) vs ≡ pad_to n (l ++ vs)
store_row n l [] = ap (pad_to n) (sym (append_nil l))
store_row n l (v ∷ vs) =
    let e : length (l ++ (v ∷ [])) ≡ suc (length l) = length-append l (v ∷ []) ∙ add-one (length l) in
    ap (λ (s : List ℕ). sets s (suc (length l)) vs) (pad_snoc n l v) ∙ ap (λ (i : ℕ). sets (pad_to n (l ++ (v ∷ []))) i vs) (sym e)
    ∙ store_row n (l ++ (v ∷ [])) vs ∙ ap (pad_to n) (append_assoc l (v ∷ []) vs)

-- what was put comes back, where there was room
pub take_pad : (n : ℕ) (l : List ℕ) → length l ≤ n → take (length l) (pad_to n l) ≡ l
take_pad n [] h = refl
take_pad zero (x ∷ xs) h = absurd (omega arith)
take_pad (suc n) (x ∷ xs) h = ap (λ (r : List ℕ). x ∷ r) (take_pad n xs (omega arith))
