-- Definitions in other forms: as the code tests them, and as proofs take them apart.
use mathlib.Core.Path.{◌≡◌, refl, sym, ap, subst, ◌∙◌}
use mathlib.Core.Logic.{◌⊎◌, inl, inr}
use mathlib.Core.Bool.{Bool, true, false, not, ◌&&◌, ◌||◌, cond, and-false, or-false, true≢false}
use mathlib.Core.List.{List, [], ◌∷◌}
use Prim.Native.Nat.{ℕ, zero, suc, ◌+◌, ◌*◌, ◌≤◌}
use native.Mathlib.Omega.{arith}
use native.Mathlib.Nat.{add-zero}
use lib.ListN.{length, get_or, get_or-eq_default}
use lib.Dec.{T, eqb, leb, ltb, eqb→eq}
use borrow.Author.Tests.{lt-leb}
use Rattle.calculus.specs.declared.Premise.{Premise}
use Rattle.calculus.specs.declared.Step.{Step}
use Rattle.calculus.specs.declared.Head.TheVariants.{Free, Unlisted}
use Rattle.calculus.specs.declared.Rule.TheVariants.{Congruence, Predicate}
use Rattle.calculus.specs.Lists.{all, below, somewhere}
use Rattle.calculus.specs.Sheets.{blank}
use Rattle.calculus.specs.Terms.{head, cells, filled, args, arg, heads, head_of, is_free, is_function, twins}
use Rattle.calculus.specs.Terms.{eq_head, not_head, and_head, or_head, select_head, store_head, first_free}
use Rattle.calculus.specs.Place.{first_fault, premise_fault}
use Rattle.calculus.specs.Rules.{is_connective, leading, gives, others, all_but, unit_at, is_head, pairs, fits}
use Rattle.calculus.proofs.Facts.{or_cases}

-- ---- filled columns

filled_short : (xs : List ℕ) → length (filled xs) ≤ length xs
filled_short [] = omega arith
filled_short (x ∷ xs) = go (filled_short xs) (eqb x blank)
  where
    go : length (filled xs) ≤ length xs → (b : Bool) → length (cond b [] (x ∷ filled xs)) ≤ suc (length xs)
    go h true = omega arith
    go h false = omega arith

pub args_short : (ts : List ℕ) (t : ℕ) → length (args ts t) ≤ 4
unfolding args cells
args_short ts t = filled_short (cells ts t)

-- ---- heads

-- the number of a free head
abbrev pub free_number : ℕ → Bool
free_number h = leb first_free h && ltb h blank

-- the number of a function's head: select's, store's or a free one
abbrev pub function_number : ℕ → Bool
function_number h = leb select_head h && leb h store_head || free_number h

-- past the listed heads
pub head_past : (h : ℕ) → 6 ≤ h → head_of h ≡ cond (free_number h) Free Unlisted
head_past h l = get_or-eq_default heads _ l

is_free_past : (b : Bool) → is_free (cond b Free Unlisted) ≡ b
is_free_past true = refl
is_free_past false = refl

is_function_past : (b : Bool) → is_function (cond b Free Unlisted) ≡ b
is_function_past true = refl
is_function_past false = refl

-- a head is free, and a function's, just where its number is
pub free_numbers : (h : ℕ) → is_free (head_of h) ≡ free_number h
free_numbers zero = refl
free_numbers (suc zero) = refl
free_numbers (suc (suc zero)) = refl
free_numbers (suc (suc (suc zero))) = refl
free_numbers (suc (suc (suc (suc zero)))) = refl
free_numbers (suc (suc (suc (suc (suc zero))))) = refl
free_numbers (suc (suc (suc (suc (suc (suc n)))))) = is_free_past _

pub function_numbers : (h : ℕ) → is_function (head_of h) ≡ function_number h
function_numbers zero = refl
function_numbers (suc zero) = refl
function_numbers (suc (suc zero)) = refl
function_numbers (suc (suc (suc zero))) = refl
function_numbers (suc (suc (suc (suc zero)))) = refl
function_numbers (suc (suc (suc (suc (suc zero))))) = refl
function_numbers (suc (suc (suc (suc (suc (suc n)))))) =
    let h = suc (suc (suc (suc (suc (suc n))))) in
    is_function_past (free_number h) ∙ sym (rw (lt-leb h store_head (omega arith), and-false (leb select_head h)))

-- a connective is a not, an and or an or: a case for each
pub connective_case {ℓ} : (P : ℕ → Type ℓ) → P not_head → P and_head → P or_head → (h : ℕ) → T (is_connective h) → P h
connective_case P n a o h c = go (or_cases (eqb h not_head) _ c)
  where
    here : {k : ℕ} → P k → T (eqb h k) → P h
    here p t = subst P (sym (eqb→eq h _ t)) p

    last : T (eqb h and_head) ⊎ T (eqb h or_head) → P h
    last (inl t) = here a t
    last (inr t) = here o t

    go : T (eqb h not_head) ⊎ T (eqb h and_head || eqb h or_head) → P h
    go (inl t) = here n t
    go (inr t) = last (or_cases (eqb h and_head) _ t)

-- ---- rows with the same head and arguments

-- column by column, the sort's left out
abbrev pub alike : List ℕ → ℕ → ℕ → Bool
alike ts t u = below 6 (λ k. eqb k 1 || eqb (get_or ts (t * 6 + k) 0) (get_or ts (u * 6 + k) 0))

pub twins_columns : (ts : List ℕ) (t u : ℕ) → twins ts t u ≡ alike ts t u
unfolding twins cells
twins_columns ts t u = rw (add-zero (t * 6), add-zero (u * 6)) (go (eqb (head ts t) (head ts u)) (same 2) (same 3) (same 4) (same 5))
  where
    same : ℕ → Bool
    same k = eqb (get_or ts (t * 6 + k) 0) (get_or ts (u * 6 + k) 0)

    go : (a b c d e : Bool) → (a && (b && (c && (d && (e && true))))) ≡ (((((true && a) && true) && b) && c) && d) && e
    go true true true true true = refl
    go true true true true false = refl
    go true true true false e = refl
    go true true false d e = refl
    go true false c d e = refl
    go false b c d e = refl

-- ---- the filled columns, with one more in front

module _ (p : ℕ → Bool) (x : ℕ) (xs : List ℕ) where
  pub all_blank : eqb x blank ≡ true → all p (filled (x ∷ xs)) ≡ true
  all_blank e = rw e

  pub all_filled : eqb x blank ≡ false → all p (filled (x ∷ xs)) ≡ (p x && all p (filled xs))
  all_filled e = rw e

  -- as a test without branches
  pub all_more : all p (filled (x ∷ xs)) ≡ (eqb x blank || (p x && all p (filled xs)))
  all_more = go (eqb x blank)
    where
      go : (g : Bool) → all p (cond g [] (x ∷ filled xs)) ≡ (g || (p x && all p (filled xs)))
      go true = refl
      go false = refl

-- ---- some number below a bound

or_assoc : (a b c : Bool) → (a || b || c) ≡ (a || (b || c))
or_assoc true b c = refl
or_assoc false b c = refl

-- the first number, or one after it
somewhere_first : (n : ℕ) (p : ℕ → Bool) → somewhere (suc n) p ≡ (p 0 || somewhere n (λ k. p (suc k)))
somewhere_first zero p = sym (or-false (p 0))
somewhere_first (suc n) p = ap (λ b. b || p (suc n)) (somewhere_first n p) ∙ or_assoc (p 0) _ _

somewhere_none : (n : ℕ) (p : ℕ → Bool) → somewhere n (λ k. p k && false) ≡ false
somewhere_none zero p = refl
somewhere_none (suc n) p = rw (and-false (p n), or-false) (somewhere_none n p)

-- ---- unit, argument by argument

-- the first argument is the one that is left out, and ps are the others
abbrev pub unit_here : ℕ → ℕ → ℕ → List ℕ → List Premise → Bool
unit_here w l a xs ps = eqb a l && others w xs ps

-- no position of the empty list is left out
pub unit_none : (w l : ℕ) (ps : List Premise) → unit_at w l [] ps ≡ false
unfolding unit_at
unit_none w l ps = refl

-- without a premise the first argument is left out
pub unit_last : (w l a : ℕ) (xs : List ℕ) → unit_at w l (a ∷ xs) [] ≡ unit_here w l a xs []
unfolding unit_at
unit_last w l a xs =
    somewhere_first (length xs) _ ∙ ap (λ b. unit_here w l a xs [] || b) (somewhere_none (length xs) (λ k. eqb (get_or xs k blank) l)) ∙ or-false _

-- the first argument is left out; or the first premise is it, and another one is left out
pub unit_front : (w l a : ℕ) (xs : List ℕ) (p : Premise) (ps : List Premise)
    → unit_at w l (a ∷ xs) (p ∷ ps) ≡ (unit_here w l a xs (p ∷ ps) || (gives a w p && unit_at w l xs ps))
unfolding unit_at
unit_front w l a xs p ps = somewhere_first (length xs) _ ∙ ap (λ b. unit_here w l a xs (p ∷ ps) || b) (go (gives a w p))
  where
    go : (g : Bool) → somewhere (length xs) (λ k. eqb (get_or xs k blank) l && (g && others w (all_but k xs) ps))
        ≡ (g && somewhere (length xs) (λ k. eqb (get_or xs k blank) l && others w (all_but k xs) ps))
    go true = refl
    go false = somewhere_none (length xs) (λ k. eqb (get_or xs k blank) l)

-- ---- part and unit

-- p is a term with head h and value w, and the value v that is given is x
abbrev pub connected : List ℕ → ℕ → Premise → ℕ → ℕ → ℕ → Bool
connected ts h p w v x = is_head ts p.row h && (eqb p.value w && eqb v x)

-- ---- cong and pred, with the heads' numbers

module _ (ts : List ℕ) (l v : ℕ) (ps : List Premise) where
  pub cong_numbers : fits ts Congruence l v ps
      ≡ (is_head ts l eq_head
      && (eqb (head ts (arg ts l 0)) (head ts (arg ts l 1))
      && (function_number (head ts (arg ts l 0))
      && (pairs ts (args ts (arg ts l 0)) (args ts (arg ts l 1)) ps && eqb v 1))))
  unfolding fits
  cong_numbers = rw (function_numbers (head ts (arg ts l 0)))

  pub pred_numbers : fits ts Predicate l v ps
      ≡ leading ps (λ p qs.
      free_number (head ts l)
      && (eqb (head ts p.row) (head ts l)
      && (eqb p.value v && pairs ts (args ts p.row) (args ts l) qs)))
  unfolding fits
  pred_numbers =
      ap (λ (b : Bool). leading ps (λ p qs. b && (eqb (head ts p.row) (head ts l) && (eqb p.value v && pairs ts (args ts p.row) (args ts l) qs))))
      (free_numbers (head ts l))

-- ---- the first column with a fault, with one more in front

module _ (ok : ℕ → Bool) (c x : ℕ) (xs : List ℕ) where
  abbrev later : ℕ
  later = first_fault (λ y. not (ok y)) (suc c) xs

  -- one that is blank or has no fault is passed over
  pub fault_later : {r : Bool} → r ≡ ok x → (eqb x blank || r) ≡ true → first_fault (λ y. not (ok y)) c (x ∷ xs) ≡ later
  fault_later q e = go (eqb x blank) (ok x) (rw (← q) e)
    where
      go : (a b : Bool) → (a || b) ≡ true → cond (not a && not b) c later ≡ later
      go true b e = refl
      go false true e = refl
      go false false e = absurd (true≢false (sym e))

  -- another is the first
  pub fault_here : {r : Bool} → r ≡ ok x → (eqb x blank || r) ≡ false → first_fault (λ y. not (ok y)) c (x ∷ xs) ≡ c
  fault_here q e = go (eqb x blank) (ok x) (rw (← q) e)
    where
      go : (a b : Bool) → (a || b) ≡ false → cond (not a && not b) c later ≡ c
      go true b e = absurd (true≢false e)
      go false true e = absurd (true≢false e)
      go false false e = refl

-- the five columns, one after the other from the last
module _ (fault : ℕ → Bool) (x : Step) where
  abbrev More : ℕ → ℕ → ℕ → ℕ → Type 0
  More c y rest here = (xs : List ℕ) → rest ≡ first_fault fault (suc c) xs → here ≡ first_fault fault c (y ∷ xs)

  pub premise_fault_lem : {p q r s t : ℕ} → More 9 x.t 10 t → More 8 x.s t s → More 7 x.r s r → More 6 x.q r q → More 5 x.p q p
      → p ≡ premise_fault fault x
  premise_fault_lem last fourth third second first =
      let five = x.t ∷ [] in
      let four = x.s ∷ five in
      let three = x.r ∷ four in
      first (x.q ∷ three) (second three (third four (fourth five (last [] refl))))
