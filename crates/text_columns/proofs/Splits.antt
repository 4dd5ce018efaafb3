-- Laws of the loop that splits a line: what the fields from a place on say, and the marks so far.
use Prim.Native.Nat.{ℕ, suc, ◌+◌, ◌-◌, ◌≤◌, ◌<◌}
use mathlib.Core.Path.{◌≡◌, refl, ap, sym, ◌∙◌}
use mathlib.Core.Bool.{Bool, true, false}
use mathlib.Core.List.{List, [], ◌∷◌}
use mathlib.Core.Logic.{inl, inr}
use native.Mathlib.Omega.{arith}
use borrow.Author.Tests.{eq-eqb, ne_eqb, eqb-true, eqb-false, le-leb}
use lib.Dec.{eqb, leb}
use lib.ListN.{length, take, drop, get_or, set, length-drop, length-set}
use Rattle.std.proofs.Common.{◌++◌, append_assoc, append-nil}
use Rattle.std.proofs.lemmas.List.{take_more_set}
use lib.Seq.{drop-drop, get_or-drop, length-take-le, take_all}
use Rattle.text_fields.specs.Split.{pick, before, prepend, pieces}
use Rattle.text_fields.specs.Class.{class_of, is_space, is_name, named, run, name_end}
use Rattle.text_fields.specs.Shape.{filled, spaced, fields_are}
use Rattle.text_fields.proofs.Laws.{space_is, pick_both}
use Rattle.text_columns.proofs.Cut.{pieces_one, pieces_cut, run_before, run_named, name_parted}

-- a line has a first field
head_of_lem : (c : ℕ) (l : List ℕ) → 0 < length (pieces c l)
head_of_lem c [] = omega arith
head_of_lem c (b ∷ bs) = go (eqb b c) (pieces c bs) where
  go : (t : Bool) (ps : List (List ℕ)) → 0 < length (pick t ([] ∷ pieces c bs) (prepend b ps))
  go true ps = omega arith
  go false [] = omega arith
  go false (p ∷ ps) = omega arith

-- fields of which the first is not filled
unfilled : (n : ℕ) (fs : List (List ℕ)) → 0 < length fs → filled (get_or fs 0 []) ≡ false → fields_are n fs ≡ false
unfilled n [] h e = absurd (omega arith)
unfilled n (f ∷ fs) h e = rw e

prepended : (b : ℕ) (ps : List (List ℕ)) → 0 < length ps → get_or (prepend b ps) 0 [] ≡ b ∷ get_or ps 0 []
prepended b [] h = absurd (omega arith)
prepended b (p ∷ ps) h = refl

-- the bytes of names stop at a byte that is no space: the first field has that byte
unnamed : (l : List ℕ) → run l < length l → is_space (class_of (get_or l (run l) 0)) ≡ false → named (get_or (pieces 32 l) 0 []) ≡ false
unnamed [] h e = absurd (omega arith)
unnamed (b ∷ bs) h e = go (unnamed bs) (is_name (class_of b)) refl h e where
  go : (run bs < length bs → is_space (class_of (get_or bs (run bs) 0)) ≡ false → named (get_or (pieces 32 bs) 0 []) ≡ false)
      → (t : Bool) → is_name (class_of b) ≡ t → pick t (suc (run bs)) 0 < suc (length bs)
      → is_space (class_of (get_or (b ∷ bs) (pick t (suc (run bs)) 0) 0)) ≡ false
      → named (get_or (pick (eqb b 32) ([] ∷ pieces 32 bs) (prepend b (pieces 32 bs))) 0 []) ≡ false
  go ih true p h e = rw (name_parted b p, prepended b (pieces 32 bs) (head_of_lem 32 bs), p) (ih (omega arith) e)
  go ih false p h e = rw (sym (space_is b) ∙ e, prepended b (pieces 32 bs) (head_of_lem 32 bs), p)

filled_by : (f : List ℕ) → 0 < length f → named f ≡ true → filled f ≡ true
filled_by f h e = rw (le-leb 1 (length f) h, e)

-- a filled field before the others is one of them more
fields_cons : (c n : ℕ) (f : List ℕ) (fs : List (List ℕ)) → filled f ≡ true → c ≡ suc n → fields_are c (f ∷ fs) ≡ fields_are n fs
fields_cons c n f fs e h = rw (e, h) (ap (λ (t : Bool). pick (spaced fs) t false) (go (eqb (length fs) n) refl)) where
  go : (t : Bool) → eqb (length fs) n ≡ t → eqb (suc (length fs)) (suc n) ≡ eqb (length fs) n
  go true q = let z = eqb-true (length fs) n q in eq-eqb (suc (length fs)) (suc n) (ap suc z) ∙ sym q
  go false q = let z = eqb-false (length fs) n q in ne_eqb (suc (length fs)) (suc n) (λ y. z (omega arith)) ∙ sym q

module _ (l : List ℕ) (from e n : ℕ) (is : e ≡ name_end l from) (in_line : from ≤ length l) where
  run_is : run (drop from l) ≡ e - from
  run_is = omega arith

  byte_is : get_or (drop from l) (run (drop from l)) 0 ≡ get_or l e 0
  byte_is = get_or-drop from l (run (drop from l)) 0 ∙ ap (λ (i : ℕ). get_or l i 0) (sym is)

  pub fields_stop : e < length l → is_space (class_of (get_or l e 0)) ≡ false → fields_are n (pieces 32 (drop from l)) ≡ false
  fields_stop h s =
      unfilled n (pieces 32 (drop from l)) (head_of_lem 32 (drop from l))
      (rw (unnamed (drop from l) (omega (arith, length-drop from l)) (rw byte_is s))
      (pick_both (leb 1 (length (get_or (pieces 32 (drop from l)) 0 []))) refl refl))

  pub pieces_last : e ≡ length l → pieces 32 (drop from l) ≡ take (e - from) (drop from l) ∷ []
  pieces_last h =
      pieces_one 32 (drop from l) (run_before (drop from l) (inl (omega (arith, length-drop from l))) ∙ omega (arith, length-drop from l))
      ∙ ap (λ (f : List ℕ). f ∷ []) (sym (take_all (e - from) (drop from l) (omega (arith, length-drop from l))))

  pub pieces_more : e < length l → get_or l e 0 ≡ 32 → pieces 32 (drop from l) ≡ take (e - from) (drop from l) ∷ pieces 32 (drop (e + 1) l)
  pieces_more h s =
      let p : before 32 (drop from l) ≡ e - from = run_before (drop from l) (inr (byte_is ∙ s)) ∙ run_is in
      let q : from + suc (e - from) ≡ e + 1 = omega arith in
      pieces_cut 32 (drop from l) (omega (arith, length-drop from l)) ∙ rw (p, drop-drop (suc (e - from)) from l, q)

  first_filled : from < e → e ≤ length l → filled (take (e - from) (drop from l)) ≡ true
  first_filled h k =
      filled_by (take (e - from) (drop from l))
      (omega (arith, length-take-le (e - from) (drop from l) (omega (arith, length-drop from l))))
      (ap (λ (m : ℕ). named (take m (drop from l))) (sym run_is) ∙ run_named (drop from l))

  pub fields_last : from < e → e ≡ length l → fields_are n (pieces 32 (drop from l)) ≡ eqb 1 n
  fields_last h k = rw (pieces_last k, first_filled h (omega arith))

pub fields_none : (l : List ℕ) (from n : ℕ) → from ≡ name_end l from → from ≤ length l → fields_are n (pieces 32 (drop from l)) ≡ false
fields_none l from n is h =
    unfilled n (pieces 32 (drop from l)) (head_of_lem 32 (drop from l)) (go (drop from l) (omega arith)) where
      go : (m : List ℕ) → run m ≡ 0 → filled (get_or (pieces 32 m) 0 []) ≡ false
      go [] e = refl
      go (b ∷ bs) e = two (is_name (class_of b)) refl e where
        two : (t : Bool) → is_name (class_of b) ≡ t → pick t (suc (run bs)) 0 ≡ 0
            → filled (get_or (pick (eqb b 32) ([] ∷ pieces 32 bs) (prepend b (pieces 32 bs))) 0 []) ≡ false
        two true p q = absurd (omega arith)
        two false p q = three (eqb b 32) where
          three : (s : Bool) → filled (get_or (pick s ([] ∷ pieces 32 bs) (prepend b (pieces 32 bs))) 0 []) ≡ false
          three true = refl
          three false = rw (prepended b (pieces 32 bs) (head_of_lem 32 bs), p) (pick_both (leb 1 (length (b ∷ get_or (pieces 32 bs) 0 []))) refl refl)

-- where the loop stands: k fields are cut, and what is left begins at `from`
pub record Splitting (l : List ℕ) (n : ℕ) (m : List (List ℕ)) (from k : ℕ) : Type 0 where
  pub long : length m ≡ n
  pub in_line : from ≤ length l
  pub says : fields_are (n - k) (pieces 32 (drop from l)) ≡ fields_are n (pieces 32 l)
  pub those : take k m ++ pieces 32 (drop from l) ≡ pieces 32 l

pub split_start : (l : List ℕ) (n : ℕ) (m : List (List ℕ)) → length m ≡ n → Splitting l n m 0 0
split_start l n m h = record {
  long = h;
  in_line = omega arith;
  says = let z : n - 0 ≡ n = omega arith in rw z;
  those = refl;
}

module _ (l : List ℕ) (n : ℕ) (m : List (List ℕ)) (from k e : ℕ) (s : Splitting l n m from k) (is : e ≡ name_end l from) (room : k < n) where
  pub split_none : e ≡ from → false ≡ fields_are n (pieces 32 l)
  split_none h = sym (fields_none l from (n - k) (sym h ∙ is) s.in_line) ∙ s.says

  pub split_stop : e < length l → is_space (class_of (get_or l e 0)) ≡ false → false ≡ fields_are n (pieces 32 l)
  split_stop h p = sym (fields_stop l from e (n - k) is s.in_line h p) ∙ s.says

  -- the field that is cut
  abbrev pub cut : List ℕ
  cut = take (e - from) (drop from l)

  module _ (some : from < e) where
    with_cut : (ps : List (List ℕ)) → pieces 32 (drop from l) ≡ cut ∷ ps → take (k + 1) (set m k cut) ++ ps ≡ pieces 32 l
    with_cut ps p = rw (take_more_set m k cut (omega (arith, s.long)), append_assoc) (ap (λ (x : List (List ℕ)). take k m ++ x) (sym p) ∙ s.those)

    pub split_last : e ≡ length l → eqb (k + 1) n ≡ fields_are n (pieces 32 l)
    split_last h = count ∙ sym (fields_last l from e (n - k) is s.in_line some h) ∙ s.says where
      count : eqb (k + 1) n ≡ eqb 1 (n - k)
      count = go (eqb (k + 1) n) refl where
        go : (t : Bool) → eqb (k + 1) n ≡ t → eqb (k + 1) n ≡ eqb 1 (n - k)
        go true q = let z = eqb-true (k + 1) n q in eq-eqb (k + 1) n z ∙ sym (eq-eqb 1 (n - k) (omega arith))
        go false q = let z = eqb-false (k + 1) n q in ne_eqb (k + 1) n z ∙ sym (ne_eqb 1 (n - k) (λ y. z (omega arith)))

    pub all_cut : e ≡ length l → eqb (k + 1) n ≡ true → set m k cut ≡ pieces 32 l
    all_cut h t =
        let z = eqb-true (k + 1) n t in
        sym (take_all (k + 1) (set m k cut) (omega (arith, length-set m k cut, s.long)))
        ∙ sym (append-nil (take (k + 1) (set m k cut)))
        ∙ with_cut [] (pieces_last l from e n is s.in_line h)

    pub split_more : e ≤ length l → e < length l → get_or l e 0 ≡ 32 → Splitting l n (set m k cut) (e + 1) (k + 1)
    split_more most h p =
        let c = pieces_more l from e n is s.in_line h p in
        let z : n - k ≡ suc (n - (k + 1)) = omega arith in
        let f = first_filled l from e n is s.in_line some most in
        record {
          long = length-set m k cut ∙ s.long;
          in_line = omega arith;
          says = sym (ap (fields_are (n - k)) c ∙ fields_cons (n - k) (n - (k + 1)) cut (pieces 32 (drop (e + 1) l)) f z) ∙ s.says;
          those = with_cut (pieces 32 (drop (e + 1) l)) c;
        }

-- more fields than columns
pub split_over : (l : List ℕ) (n : ℕ) (m : List (List ℕ)) (from k : ℕ) → Splitting l n m from k → n ≤ k → false ≡ fields_are n (pieces 32 l)
split_over l n m from k s h =
    let z : n - k ≡ 0 = omega arith in
    sym (rw z (pick_both (spaced (pieces 32 (drop from l)))
    (ne_eqb (length (pieces 32 (drop from l))) 0 (λ e. omega (arith, head_of_lem 32 (drop from l)))) refl))
    ∙ s.says
