-- The rule eval: where some values complete the premises, the open arguments all false or all true do.
use mathlib.Core.Path.{◌≡◌, refl, sym, ap, subst}
use mathlib.Core.Logic.{◌⊎◌, inl, inr}
use mathlib.Core.Bool.{Bool, true, false, not, ◌&&◌, ◌||◌}
use mathlib.Core.List.{List, [], ◌∷◌, ◌++◌, map}
use Prim.Native.Nat.{ℕ, ◌<◌}
use lib.Dec.{T, eqb, ltb, eqb_refl, lit<}
use Rattle.calculus.specs.declared.Premise.{Premise}
use Rattle.calculus.specs.declared.Rule.TheVariants.{Evaluation}
use Rattle.calculus.specs.Lists.{all, eq_list, num, is_true}
use Rattle.calculus.specs.Sheets.{term_rows}
use Rattle.calculus.specs.Terms.{head, args, not_head, and_head, or_head}
use Rattle.calculus.specs.Rules.{row_of, value_of, not_of, and_of, or_of, evaluates, fits}
use Rattle.calculus.specs.Place.{with}
use Rattle.calculus.proofs.Facts.{and_l, and_r, and_both, or_cases, or_l, or_r, facts}
use Rattle.completions.specs.Needs.{needs}
use Rattle.completions.specs.Search.{over, is_row}
use Rattle.completions.proofs.Openings.{chain, Rows, Complete, found_plain}

-- the rows of the premises are xs
abbrev Named : List ℕ → List Premise → Type 0
Named xs ps = T (eq_list (map row_of ps) xs)

-- qs, and the arguments after them with value w
abbrev filled_up : ℕ → List ℕ → List Premise → List Premise
filled_up w xs qs = over qs (map (with w) xs)

-- ---- the rows

-- they are the arguments still
names_open : (w : ℕ) (xs : List ℕ) (qs rs : List Premise) → Named xs (qs ++ rs) → Named xs (filled_up w xs qs)
names_open w [] [] rs h = tt
names_open w (x ∷ xs) [] [] h = absurd h
names_open w (x ∷ xs) [] (r ∷ rs) h = and_both (eqb x x) _ (eqb_refl x) (names_open w xs [] rs (and_r (eqb r.row x) _ h))
names_open w [] (q ∷ qs) rs h = absurd h
names_open w (x ∷ xs) (q ∷ qs) rs h =
    and_both (eqb q.row x) _ (and_l (eqb q.row x) _ h) (names_open w xs qs rs (and_r (eqb q.row x) _ h))

-- premises that name the same rows are rows alike
rows_named : (ts xs : List ℕ) (ps qs : List Premise) → Named xs ps → Named xs qs → Rows ts ps → Rows ts qs
rows_named ts [] ps [] a b R = tt
rows_named ts [] ps (q ∷ qs) a b R = absurd b
rows_named ts (x ∷ xs) ps [] a b R = absurd b
rows_named ts (x ∷ xs) [] (q ∷ qs) a b R = absurd a
rows_named ts (x ∷ xs) (p ∷ ps) (q ∷ qs) a b R =
    let e : p.row ≡ x = search facts in
    let f : q.row ≡ x = search facts in
    let r = rows_named ts xs ps qs (and_r (eqb p.row x) _ a) (and_r (eqb q.row x) _ b) (and_r (is_row ts p) _ R) in
    and_both (is_row ts q) _ (subst (λ a. T (ltb a (term_rows ts))) (sym f) (subst (λ a. T (ltb a (term_rows ts))) e (and_l (is_row ts p) _ R))) r

-- ---- the values

-- what f makes of the values of qs ++ rs it makes of qs with the others false, or with the others true
abbrev Either : (List ℕ → Bool) → List ℕ → List Premise → List Premise → Type 0
Either f xs qs rs =
    (f (map value_of (qs ++ rs)) ≡ f (map value_of (filled_up 0 xs qs)))
    ⊎ (f (map value_of (qs ++ rs)) ≡ f (map value_of (filled_up 1 xs qs)))

one_of : (a b c : Bool) → b ≡ not c → (a ≡ b) ⊎ (a ≡ c)
one_of true b true e = inr refl
one_of true b false e = inl (sym e)
one_of false b true e = inl (sym e)
one_of false b false e = inr refl

-- where f of a list goes by its first value and f of the rest, and false arguments and true ones make a difference
module _ (f : List ℕ → Bool)
    (onward : (x : ℕ) (ys zs : List ℕ) → f ys ≡ f zs → f (x ∷ ys) ≡ f (x ∷ zs))
    (turns : (x : ℕ) (xs : List ℕ) → f (map value_of (map (with 0) (x ∷ xs))) ≡ not (f (map value_of (map (with 1) (x ∷ xs))))) where
  either_open : (xs : List ℕ) (qs rs : List Premise) → Named xs (qs ++ rs) → Either f xs qs rs
  either_open [] [] [] h = inl refl
  either_open [] [] (r ∷ rs) h = absurd h
  either_open (x ∷ xs) [] rs h = one_of _ _ _ (turns x xs)
  either_open [] (q ∷ qs) rs h = absurd h
  either_open (x ∷ xs) (q ∷ qs) rs h = go (either_open xs qs rs (and_r (eqb q.row x) _ h))
    where
      go : Either f xs qs rs → Either f (x ∷ xs) (q ∷ qs) rs
      go (inl e) = inl (onward q.value _ _ e)
      go (inr e) = inr (onward q.value _ _ e)

-- and of true arguments, or of false ones
all_ones : (xs : List ℕ) → and_of (map value_of (map (with 1) xs)) ≡ true
all_ones [] = refl
all_ones (x ∷ xs) = all_ones xs

no_ones : (xs : List ℕ) → or_of (map value_of (map (with 0) xs)) ≡ false
no_ones [] = refl
no_ones (x ∷ xs) = no_ones xs

and_either : (xs : List ℕ) (qs rs : List Premise) → Named xs (qs ++ rs) → Either and_of xs qs rs
and_either = either_open and_of (λ x ys zs e. ap (λ b. is_true x && b) e) (λ x xs. sym (ap not (all_ones xs)))

or_either : (xs : List ℕ) (qs rs : List Premise) → Named xs (qs ++ rs) → Either or_of xs qs rs
or_either = either_open or_of (λ x ys zs e. ap (λ b. is_true x || b) e) (λ x xs. no_ones xs)

not_either : (xs : List ℕ) (qs rs : List Premise) → Named xs (qs ++ rs) → Either not_of xs qs rs
not_either = either_open not_of (λ x ys zs e. refl) (λ x xs. refl)

-- head h gives v also with the open arguments all false, or all true
module _ (h v : ℕ) (xs : List ℕ) (qs rs : List Premise) (e : Named xs (qs ++ rs)) where
  abbrev By : (List ℕ → Bool) → ℕ → List Premise → Bool
  By f r ps = eqb h r && eqb v (num (f (map value_of ps)))

  -- some w, false or true, for the open ones
  abbrev Filled : (List Premise → Bool) → Type 0
  Filled t = (w : ℕ) × (w < 2) × T (t (filled_up w xs qs))

  -- for one of not, and, or
  filled : (f : List ℕ → Bool) (r : ℕ) → Either f xs qs rs → T (By f r (qs ++ rs)) → Filled (By f r)
  filled f r (inl e) t = (0, lit< tt, subst (λ b. T (eqb h r && eqb v (num b))) e t)
  filled f r (inr e) t = (1, lit< tt, subst (λ b. T (eqb h r && eqb v (num b))) e t)

  -- either of two tests
  either : (s t : List Premise → Bool) → (T (s (qs ++ rs)) → Filled s) → (T (t (qs ++ rs)) → Filled t)
      → T (s (qs ++ rs) || t (qs ++ rs)) → Filled (λ ps. s ps || t ps)
  either s t f g b = go (or_cases (s (qs ++ rs)) _ b)
    where
      go : T (s (qs ++ rs)) ⊎ T (t (qs ++ rs)) → Filled (λ ps. s ps || t ps)
      go (inl b) = let x = f b in (x.0, x.1, or_l (s (filled_up x.0 xs qs)) _ x.2)
      go (inr b) = let x = g b in (x.0, x.1, or_r (s (filled_up x.0 xs qs)) _ x.2)

  evaluates_open : T (evaluates h (map value_of (qs ++ rs)) v) → Filled (λ ps. evaluates h (map value_of ps) v)
  evaluates_open =
      either (By not_of not_head) (λ ps. By and_of and_head ps || By or_of or_head ps) (filled not_of not_head (not_either xs qs rs e)) (
      either (By and_of and_head) (By or_of or_head) (filled and_of and_head (and_either xs qs rs e)) (filled or_of or_head (or_either xs qs rs e)))

pub open_evaluation : (ts : List ℕ) (l v : ℕ) → Complete ts Evaluation l v
unfolding fits needs
open_evaluation ts l v qs rs R h =
    let xs = args ts l in
    let e : Named xs (qs ++ rs) = search chain in
    let g = evaluates_open (head ts l) v xs qs rs e (search chain) in
    let n = names_open g.0 xs qs rs e in
    let r = rows_named ts xs (qs ++ rs) (filled_up g.0 xs qs) e n R in
    found_plain ts Evaluation l v g.0 g.1 (map (with g.0) xs) qs (lit< tt) (λ f. refl)
    (and_both (all (is_row ts) (filled_up g.0 xs qs)) _ r (and_both (eq_list (map row_of (filled_up g.0 xs qs)) xs) _ n g.2))
