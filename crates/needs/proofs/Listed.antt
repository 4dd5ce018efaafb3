-- What stands in the columns: one premise more, arguments, equalities between arguments.
use mathlib.Core.Path.{◌≡◌, refl, sym, ap}
use mathlib.Core.Bool.{Bool, true, false, cond}
use mathlib.Core.List.{List, [], ◌∷◌, ◌++◌, map}
use Prim.Native.Nat.{ℕ, zero, suc, ◌+◌, ◌≤◌, min}
use native.Mathlib.Omega.{arith}
use lib.Dec.{eqb}
use lib.ListN.{length, take}
use Rattle.calculus.specs.declared.Premise.{Premise}
use Rattle.calculus.specs.declared.Term.{Term}
use Rattle.calculus.specs.Sheets.{blank}
use Rattle.calculus.specs.Terms.{filled, cells_of, args_of}
use Rattle.calculus.specs.Rules.{all_but}
use Rattle.calculus.specs.Place.{with}
use Rattle.completions.specs.Needs.{equation, equations}
use Rattle.needs.specs.declared.Columns.{Columns}
use Rattle.needs.specs.Listed.{listed, Four, three_of}

-- ---- one premise more in front

pub front_lists : (p : Premise) (x : Columns) → x.count ≤ 4
    → listed (record { count = x.count + 1; p = p; q = x.p; r = x.q; s = x.r; t = x.s }) ≡ p ∷ listed x
unfolding listed
front_lists p x h = go x.count h
  where
    go : (m : ℕ) → m ≤ 4 → take (m + 1) (p ∷ x.p ∷ x.q ∷ x.r ∷ x.s ∷ []) ≡ p ∷ take m (x.p ∷ x.q ∷ x.r ∷ x.s ∷ x.t ∷ [])
    go zero h = refl
    go (suc zero) h = refl
    go (suc (suc zero)) h = refl
    go (suc (suc (suc zero))) h = refl
    go (suc (suc (suc (suc zero)))) h = refl
    go (suc (suc (suc (suc (suc m))))) h = absurd (omega arith)

-- ---- how many arguments there are

filled_length : (xs : List ℕ) → length (filled xs) ≤ length xs
filled_length [] = omega arith
filled_length (x ∷ xs) = go (eqb x blank) (filled_length xs)
  where
    go : (g : Bool) → length (filled xs) ≤ length xs → length (cond g [] (x ∷ filled xs)) ≤ suc (length xs)
    go true h = omega arith
    go false h = omega arith

-- ---- all arguments, and the equalities between two terms' arguments

filled_take : (f : ℕ → Premise) (xs : List ℕ) (ys : List Premise) → take (length (filled xs)) (map f xs ++ ys) ≡ map f (filled xs)
filled_take f [] ys = refl
filled_take f (x ∷ xs) ys = go (eqb x blank) (filled_take f xs ys)
  where
    go : (g : Bool) → take (length (filled xs)) (map f xs ++ ys) ≡ map f (filled xs)
        → take (length (cond g [] (x ∷ filled xs))) (f x ∷ map f xs ++ ys) ≡ map f (cond g [] (x ∷ filled xs))
    go true h = refl
    go false h = ap {B = List Premise} (λ zs. f x ∷ zs) h

pub arguments_listed : (w : ℕ) (e : Term) {m : ℕ} {p q r s : Premise} → m ≡ length (args_of e)
    → p ≡ with w e.a → q ≡ with w e.b → r ≡ with w e.c → s ≡ with w e.d
    → Four (record { count = m; p = p; q = q; r = r; s = s; t = s }) (map (with w) (args_of e))
unfolding listed
arguments_listed w e m p q r s =
    rw (m, p, q, r, s) (record { few = filled_length (cells_of e); lists = filled_take (with w) (cells_of e) (with w e.d ∷ []) })

module _ (ts : List ℕ) where
  equations_take : (xs ys : List ℕ) (zs : List Premise)
      → take (min (length (filled xs)) (length (filled ys))) (equations ts xs ys ++ zs) ≡ equations ts (filled xs) (filled ys)
  equations_take [] ys zs = let e : min 0 (length (filled ys)) ≡ 0 = omega arith in rw e
  equations_take (a ∷ xs) [] zs = let e : min (length (filled (a ∷ xs))) 0 ≡ 0 = omega arith in rw e (sym (none (filled (a ∷ xs))))
    where
      none : (xs : List ℕ) → equations ts xs [] ≡ []
      none [] = refl
      none (x ∷ xs) = refl
  equations_take (a ∷ xs) (b ∷ ys) zs = go (eqb a blank) (eqb b blank) (equations_take xs ys zs)
    where
      go : (g h : Bool) → take (min (length (filled xs)) (length (filled ys))) (equations ts xs ys ++ zs) ≡ equations ts (filled xs) (filled ys)
          → take (min (length (cond g [] (a ∷ filled xs))) (length (cond h [] (b ∷ filled ys)))) (with 1 (equation ts a b) ∷ equations ts xs ys ++ zs)
          ≡ equations ts (cond g [] (a ∷ filled xs)) (cond h [] (b ∷ filled ys))
      go true h k = let e : min 0 (length (cond h [] (b ∷ filled ys))) ≡ 0 = omega arith in rw e
      go false true k = let e : min (suc (length (filled xs))) 0 ≡ 0 = omega arith in rw e
      go false false k =
          let e : min (suc (length (filled xs))) (suc (length (filled ys))) ≡ suc (min (length (filled xs)) (length (filled ys))) = omega arith in
          rw e (ap {B = List Premise} (λ ps. with 1 (equation ts a b) ∷ ps) k)

  pub equations_listed : (f g : Term) {i j m : ℕ} {p q r s : Premise} → i ≡ length (args_of f) → j ≡ length (args_of g) → m ≡ min i j
      → p ≡ with 1 (equation ts f.a g.a) → q ≡ with 1 (equation ts f.b g.b)
      → r ≡ with 1 (equation ts f.c g.c) → s ≡ with 1 (equation ts f.d g.d)
      → Four (record { count = m; p = p; q = q; r = r; s = s; t = s }) (equations ts (args_of f) (args_of g))
  unfolding listed
  equations_listed f g i j m p q r s =
      rw (m, i, j, p, q, r, s) (record {
        few = let h = filled_length (cells_of f) in omega arith;
        lists = equations_take (cells_of f) (cells_of g) (with 1 (equation ts f.d g.d) ∷ []);
      })

-- ---- the arguments but one

-- the cell that is left out is the first: a blank ends the arguments all the same
but_here : (x y : ℕ) (xs : List ℕ) → filled (cond (eqb x blank) blank y ∷ xs) ≡ all_but 0 (filled (x ∷ y ∷ xs))
but_here x y xs = go (eqb x blank)
  where
    go : (g : Bool) → filled (cond g blank y ∷ xs) ≡ all_but 0 (cond g [] (x ∷ filled (y ∷ xs)))
    go true = refl
    go false = refl

-- it comes later
but_later : (i x : ℕ) (xs ys : List ℕ) → filled ys ≡ all_but i (filled xs) → filled (x ∷ ys) ≡ all_but (suc i) (filled (x ∷ xs))
but_later i x xs ys h = go (eqb x blank)
  where
    go : (g : Bool) → cond g [] (x ∷ filled ys) ≡ all_but (suc i) (cond g [] (x ∷ filled xs))
    go true = refl
    go false = ap {B = List ℕ} (λ zs. x ∷ zs) h

-- the blank after three cells is none of them
but_last : (d : ℕ) → filled (blank ∷ []) ≡ all_but 0 (filled (d ∷ []))
but_last d = go (eqb d blank)
  where
    go : (g : Bool) → filled (blank ∷ []) ≡ all_but 0 (cond g [] (d ∷ []))
    go true = refl
    go false = refl

but_none : (i : ℕ) (xs : List ℕ) → length xs ≤ i → xs ≡ all_but i xs
but_none zero [] h = refl
but_none (suc i) [] h = refl
but_none zero (x ∷ xs) h = absurd (omega arith)
but_none (suc i) (x ∷ xs) h = ap {B = List ℕ} (λ ys. x ∷ ys) (but_none i xs (omega arith))

module _ (e : Term) {i : ℕ} where
  module _ {r : Term} {x : ℕ} where
    pub but_0 : i ≡ 0 → x ≡ cond (eqb e.a blank) blank e.b → r ≡ three_of e x e.c e.d → args_of r ≡ all_but i (args_of e)
    but_0 k x h = rw (h, k, x) (but_here e.a e.b (e.c ∷ e.d ∷ blank ∷ []))

    pub but_1 : i ≡ 1 → x ≡ cond (eqb e.b blank) blank e.c → r ≡ three_of e e.a x e.d → args_of r ≡ all_but i (args_of e)
    but_1 k x h = rw (h, k, x)
        (but_later 0 e.a (e.b ∷ e.c ∷ e.d ∷ []) (cond (eqb e.b blank) blank e.c ∷ e.d ∷ blank ∷ []) (but_here e.b e.c (e.d ∷ blank ∷ [])))

    pub but_2 : i ≡ 2 → x ≡ cond (eqb e.c blank) blank e.d → r ≡ three_of e e.a e.b x → args_of r ≡ all_but i (args_of e)
    but_2 k x h = rw (h, k, x)
        (but_later 1 e.a (e.b ∷ e.c ∷ e.d ∷ []) (e.b ∷ cond (eqb e.c blank) blank e.d ∷ blank ∷ [])
        (but_later 0 e.b (e.c ∷ e.d ∷ []) (cond (eqb e.c blank) blank e.d ∷ blank ∷ []) (but_here e.c e.d (blank ∷ []))))

  pub but_3 : {r : Term} → i ≡ 3 → r ≡ three_of e e.a e.b e.c → args_of r ≡ all_but i (args_of e)
  but_3 k h = rw (h, k)
      (but_later 2 e.a (e.b ∷ e.c ∷ e.d ∷ []) (e.b ∷ e.c ∷ blank ∷ [])
      (but_later 1 e.b (e.c ∷ e.d ∷ []) (e.c ∷ blank ∷ []) (but_later 0 e.c (e.d ∷ []) (blank ∷ []) (but_last e.d))))

  pub but_4 : (i ≡ 0 → ⊥) → (i ≡ 1 → ⊥) → (i ≡ 2 → ⊥) → (i ≡ 3 → ⊥) → args_of e ≡ all_but i (args_of e)
  but_4 j k l m = but_none i (args_of e) (let h = filled_length (cells_of e) in omega arith)
