-- Columns over others, columns that are rows, and columns as a claim has them.
use mathlib.Core.Path.{◌≡◌, refl, sym, ap, ◌∙◌}
use mathlib.Core.Bool.{Bool, true, false, ◌&&◌, ◌||◌, cond}
use mathlib.Core.List.{List, [], ◌∷◌}
use Prim.Native.Nat.{ℕ, zero, suc, ◌≤◌, ◌<◌, max}
use native.Mathlib.Omega.{arith}
use lib.Dec.{leb, ltb}
use lib.ListN.{length, take}
use mir.Syntax.{w16}
use mir.Val.{Fits}
use borrow.Author.Tests.{ne_eqb, ltb-true, lt-ltb, lt-leb}
use Rattle.calculus.specs.declared.Premise.{Premise}
use Rattle.calculus.specs.declared.Row.{Row}
use Rattle.calculus.specs.declared.Rule.{Rule}
use Rattle.calculus.specs.Lists.{all}
use Rattle.calculus.specs.Sheets.{blank, term_rows}
use Rattle.calculus.proofs.Facts.{both_true}
use Rattle.completions.specs.Search.{over, is_row, serves}
use Rattle.rule_claims.specs.declared.Claim.{Claim}
use Rattle.rule_claims.specs.Claims.{gap, stated, no_premise, premises_of, allows}
use Rattle.needs.specs.declared.Columns.{Columns}
use Rattle.needs.specs.Listed.{columns_of, listed}
use Rattle.places.specs.Tested.{claim_of}

-- ---- columns over others

-- where all five columns count
counts : (m k : ℕ) → k < 5 → ltb k (suc (suc (suc (suc (suc m))))) ≡ true
counts m k l = lt-ltb k (suc (suc (suc (suc (suc m))))) (omega arith)

ends : (m k : ℕ) → k < 5 → leb (suc (suc (suc (suc (suc m))))) k ≡ false
ends m k l = lt-leb (suc (suc (suc (suc (suc m))))) k (omega arith)

-- the first m of xs, and from the column after them on ys
mix : ℕ → List Premise → List Premise → List Premise
mix zero xs ys = ys
mix (suc m) [] ys = []
mix (suc m) (x ∷ xs) [] = []
mix (suc m) (x ∷ xs) (y ∷ ys) = x ∷ mix m xs ys

mix_nil : (m : ℕ) → mix m [] [] ≡ []
unfolding mix
mix_nil zero = refl
mix_nil (suc m) = refl

over_nil : (qs : List Premise) → over qs [] ≡ qs
over_nil [] = refl
over_nil (q ∷ qs) = refl

take_nil : (m : ℕ) → take {A = Premise} m [] ≡ []
take_nil zero = refl
take_nil (suc m) = refl

-- lists of one length
over_take : (m k : ℕ) (xs ys : List Premise) → length xs ≡ length ys → take (max m k) (mix m xs ys) ≡ over (take m xs) (take k ys)
unfolding mix
over_take zero k xs ys e = let h : max 0 k ≡ k = omega arith in rw h
over_take (suc m) k [] [] e = rw (take_nil (max (suc m) k), take_nil k)
over_take (suc m) k [] (y ∷ ys) e = absurd (omega arith)
over_take (suc m) k (x ∷ xs) [] e = absurd (omega arith)
over_take (suc m) zero (x ∷ xs) (y ∷ ys) e =
    let h : max (suc m) 0 ≡ suc (max m 0) = omega arith in
    rw h (ap {B = List Premise} (λ ps. x ∷ ps) (over_take m zero xs ys (omega arith) ∙ over_nil (take m xs)))
over_take (suc m) (suc k) (x ∷ xs) (y ∷ ys) e =
    let h : max (suc m) (suc k) ≡ suc (max m k) = omega arith in
    rw h (ap {B = List Premise} (λ ps. x ∷ ps) (over_take m k xs ys (omega arith)))

module _ (x y : Columns) where
  mixed : (m : ℕ)
      → cond (ltb 0 m) x.p y.p ∷ cond (ltb 1 m) x.q y.q ∷ cond (ltb 2 m) x.r y.r ∷ cond (ltb 3 m) x.s y.s
      ∷ cond (ltb 4 m) x.t y.t ∷ []
      ≡ mix m (columns_of x) (columns_of y)
  unfolding mix
  mixed zero = refl
  mixed (suc zero) = refl
  mixed (suc (suc zero)) = refl
  mixed (suc (suc (suc zero))) = refl
  mixed (suc (suc (suc (suc zero)))) = refl
  mixed (suc (suc (suc (suc (suc m))))) =
      rw (counts m 0 (omega arith), counts m 1 (omega arith), counts m 2 (omega arith), counts m 3 (omega arith), counts m 4 (omega arith), mix_nil m)

  pub over_listed : {n : ℕ} {p q r s t : Premise} → n ≡ max x.count y.count
      → p ≡ cond (ltb 0 x.count) x.p y.p → q ≡ cond (ltb 1 x.count) x.q y.q → r ≡ cond (ltb 2 x.count) x.r y.r
      → s ≡ cond (ltb 3 x.count) x.s y.s → t ≡ cond (ltb 4 x.count) x.t y.t
      → listed (record { count = n; p = p; q = q; r = r; s = s; t = t }) ≡ over (listed x) (listed y)
  unfolding listed
  over_listed n p q r s t =
      rw (n, p, q, r, s, t) (ap (take (max x.count y.count)) (mixed x.count) ∙ over_take x.count y.count (columns_of x) (columns_of y) refl)

-- ---- columns that are rows

and_true : (b : Bool) → b ≡ (b && true)
and_true true = refl
and_true false = refl

pub rows_listed : (n : ℕ) (x : Columns)
    → ((leb x.count 0 || ltb x.p.row n) && ((leb x.count 1 || ltb x.q.row n) && ((leb x.count 2 || ltb x.r.row n)
    && ((leb x.count 3 || ltb x.s.row n) && (leb x.count 4 || ltb x.t.row n)))))
    ≡ all (λ p. ltb p.row n) (listed x)
unfolding listed
rows_listed n x = go x.count
  where
    go : (m : ℕ)
        → ((leb m 0 || ltb x.p.row n) && ((leb m 1 || ltb x.q.row n) && ((leb m 2 || ltb x.r.row n)
        && ((leb m 3 || ltb x.s.row n) && (leb m 4 || ltb x.t.row n)))))
        ≡ all (λ p. ltb p.row n) (take m (columns_of x))
    go zero = refl
    go (suc zero) = refl
    go (suc (suc zero)) = refl
    go (suc (suc (suc zero))) = refl
    go (suc (suc (suc (suc zero)))) = refl
    go (suc (suc (suc (suc (suc m))))) =
        rw (
          ends m 0 (omega arith),
          ends m 1 (omega arith),
          ends m 2 (omega arith),
          ends m 3 (omega arith),
          ends m 4 (omega arith),
          take_nil m,
          ← and_true (ltb x.t.row n),
        )

-- ---- columns as a claim has them

-- rows, and then columns without a premise, are those rows
stated_mix : (n : ℕ) → n ≤ blank → (m : ℕ) (xs ys : List Premise) → all (λ p. ltb p.row n) (take m xs) ≡ true → all gap ys ≡ true
    → length xs ≡ length ys → stated (mix m xs ys) ≡ take m xs
unfolding stated mix
stated_mix n l zero xs [] h g e = refl
stated_mix n l zero xs (y ∷ ys) h g e = rw (both_true (gap y) (all gap ys) g).0
stated_mix n l (suc m) [] ys h g e = refl
stated_mix n l (suc m) (x ∷ xs) [] h g e = absurd (omega arith)
stated_mix n l (suc m) (x ∷ xs) (y ∷ ys) h g e =
    let b = both_true (ltb x.row n) _ h in
    let c = both_true (gap y) (all gap ys) g in
    let d : x.row < n = ltb-true x.row n b.0 in
    rw (ne_eqb x.row blank (λ q. omega arith)) (ap {B = List Premise} (λ ps. x ∷ ps) (stated_mix n l m xs ys b.1 c.1 (omega arith)))

-- columns without a premise
abbrev without : Columns
without = record { count = 0; p = no_premise; q = no_premise; r = no_premise; s = no_premise; t = no_premise }

claim_listed : (n : ℕ) → n ≤ blank → (l : Row) (v : ℕ) (x : Columns) → all (λ p. ltb p.row n) (listed x) ≡ true → premises_of (claim_of l v x) ≡ listed x
unfolding listed
claim_listed n b l v x h = ap stated (mixed x without x.count) ∙ stated_mix n b x.count (columns_of x) (columns_of without) h refl refl

-- ---- premises that serve

module _ (ts : List ℕ) (k : Rule) (l : Row) (v : ℕ) (x : Columns) {n : ℕ} (rows : n ≡ term_rows ts)
    {b : Bool} (all_rows : b ≡ all (λ p. ltb p.row n) (listed x)) where
  rows_of : all (is_row ts) (listed x) ≡ b
  rows_of = ap (λ m. all (λ p. ltb p.row m) (listed x)) (sym rows) ∙ sym all_rows

  pub serves_not : b ≡ false → false ≡ serves ts k l.0 v (listed x)
  serves_not e = rw (rows_of ∙ e)

  pub serves_fits : {c : Claim} {r : Bool} → b ≡ true → Fits w16 n → c ≡ claim_of l v x → r ≡ allows ts k c → r ≡ serves ts k l.0 v (listed x)
  serves_fits e f c r =
      let h = e in
      let q = claim_listed n (let g = f.fits in omega arith) l v x (sym all_rows ∙ h) in
      r ∙ rw (c, q, rows_of ∙ h)
