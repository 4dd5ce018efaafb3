-- Premises of which the first stand and the others are open: what the search finds where some rows complete them.
use mathlib.Core.Path.{◌≡◌, refl, sym, ap, subst, ◌∙◌}
use mathlib.Core.Bool.{Bool}
use mathlib.Core.List.{List, [], ◌∷◌, ◌++◌}
use Prim.Native.Nat.{ℕ, ◌<◌}
use lib.Dec.{T, ltb, ltb→lt, lt→ltb}
use Rattle.calculus.specs.declared.Premise.{Premise}
use Rattle.calculus.specs.declared.Rule.{Rule}
use Rattle.calculus.specs.Lists.{all}
use Rattle.calculus.specs.Sheets.{term_rows}
use Rattle.calculus.specs.Rules.{is_eq, equates, pairs, fits}
use Rattle.calculus.specs.Place.{with}
use Rattle.calculus.proofs.Facts.{and_l, and_r, and_both}
use Rattle.completions.specs.Needs.{ways, equation, equations, needs}
use Rattle.completions.specs.Search.{over, is_row, serves, followed, tried, extensible}
use Rattle.completions.proofs.First.{somewhere_of, first_below, first_holds}

-- takes conjunctions apart and puts them together
pub ruleset chain = (and_both, and_l, and_r)

over_self : (qs rs : List Premise) → over qs (qs ++ rs) ≡ qs ++ rs
over_self [] rs = refl
over_self (q ∷ qs) rs = ap (λ ps. q ∷ ps) (over_self qs rs)

module _ (ts : List ℕ) where
  abbrev pub Rows : List Premise → Type 0
  Rows ps = T (all (is_row ts) ps)

  module _ (k : Rule) (l v : ℕ) where
    abbrev Fit : List Premise → Type 0
    Fit ps = T (fits ts k l v ps)

    -- the search completes qs
    abbrev pub Found : List Premise → Type 0
    Found qs = T (extensible ts k l v qs)

    -- where some rows complete qs, the search does
    abbrev pub Complete : Type 0
    Complete = (qs rs : List Premise) → Rows (qs ++ rs) → Fit (qs ++ rs) → Found qs

    -- ---- what is needed in the i-th way serves

    module _ (i : ℕ) (b : i < ways k) where
      -- the first premise is open, and row r is tried
      pub found_first : (r : ℕ) → r < tried ts k → T (serves ts k l v (needs ts k l v (with 0 r) i)) → Found []
      unfolding extensible followed
      found_first r a h =
          somewhere_of (tried ts k) (λ r. followed ts k l v [] (with 0 r)) r a
          (somewhere_of (ways k) (λ i. serves ts k l v (needs ts k l v (with 0 r) i)) i b h)

      -- it stands
      pub found_after : (q : Premise) (qs : List Premise) → T (serves ts k l v (over (q ∷ qs) (needs ts k l v q i))) → Found (q ∷ qs)
      unfolding extensible followed
      found_after q qs h = somewhere_of (ways k) (λ i. serves ts k l v (over (q ∷ qs) (needs ts k l v q i))) i b h

      -- what is needed does not turn on it
      pub found_plain : (ds qs : List Premise) → 0 < tried ts k → ((f : Premise) → needs ts k l v f i ≡ ds) → T (serves ts k l v (over qs ds)) → Found qs
      found_plain ds [] a e h = found_first 0 a (subst (λ ps. T (serves ts k l v ps)) (sym (e (with 0 0))) h)
      found_plain ds (q ∷ qs) a e h = found_after q qs (subst (λ ps. T (serves ts k l v (over (q ∷ qs) ps))) (sym (e q)) h)

    -- ---- how many premises the rule takes

    abbrev Never : List Premise → Type 0
    Never ps = Fit ps → ⊥

    pub none_open : ((p : Premise) (ps : List Premise) → Never (p ∷ ps)) → (Fit [] → Found []) → Complete
    none_open more f [] [] R h = f h
    none_open more f [] (r ∷ rs) R h = absurd (more r rs h)
    none_open more f (q ∷ qs) rs R h = absurd (more q (qs ++ rs) h)

    pub one_open : Never [] → ((p q : Premise) (ps : List Premise) → Never (p ∷ q ∷ ps))
        → ((p : Premise) → Rows (p ∷ []) → Fit (p ∷ []) → Found [] × Found (p ∷ [])) → Complete
    one_open none more f [] [] R h = absurd (none h)
    one_open none more f [] (p ∷ []) R h = (f p R h).0
    one_open none more f [] (p ∷ q ∷ rs) R h = absurd (more p q rs h)
    one_open none more f (p ∷ []) [] R h = (f p R h).1
    one_open none more f (p ∷ []) (q ∷ rs) R h = absurd (more p q rs h)
    one_open none more f (p ∷ q ∷ qs) rs R h = absurd (more p q (qs ++ rs) h)

    pub two_open : Never [] → ((p : Premise) → Never (p ∷ [])) → ((p q r : Premise) (ps : List Premise) → Never (p ∷ q ∷ r ∷ ps))
        → ((p q : Premise) → Rows (p ∷ q ∷ []) → Fit (p ∷ q ∷ []) → Found [] × Found (p ∷ []) × Found (p ∷ q ∷ [])) → Complete
    two_open none one more f [] [] R h = absurd (none h)
    two_open none one more f [] (p ∷ []) R h = absurd (one p h)
    two_open none one more f [] (p ∷ q ∷ []) R h = (f p q R h).0
    two_open none one more f [] (p ∷ q ∷ r ∷ rs) R h = absurd (more p q r rs h)
    two_open none one more f (p ∷ []) [] R h = absurd (one p h)
    two_open none one more f (p ∷ []) (q ∷ []) R h = (f p q R h).1
    two_open none one more f (p ∷ []) (q ∷ r ∷ rs) R h = absurd (more p q r rs h)
    two_open none one more f (p ∷ q ∷ []) [] R h = (f p q R h).2
    two_open none one more f (p ∷ q ∷ []) (r ∷ rs) R h = absurd (more p q r rs h)
    two_open none one more f (p ∷ q ∷ r ∷ qs) rs R h = absurd (more p q r (qs ++ rs) h)

    -- a first premise p, after which us stand and ws are open
    pub first_open : Never [] → ((p : Premise) (us ws : List Premise) → Rows (p ∷ (us ++ ws)) → Fit (p ∷ (us ++ ws)) → Found [] × Found (p ∷ us))
        → Complete
    first_open none f [] [] R h = absurd (none h)
    first_open none f [] (p ∷ rs) R h = (f p [] rs R h).0
    first_open none f (p ∷ us) ws R h = (f p us ws R h).1

    -- ---- the premises are those needed, to the letter

    -- p ∷ ps are needed in some way, whatever value the row that is tried has
    pub record Exact (p : Premise) (ps : List Premise) : Type 0 where
      pub way : ℕ
      pub low : way < ways k
      pub needed : (w : ℕ) → needs ts k l v (with w p.row) way ≡ p ∷ ps

    pub exact_open : tried ts k ≡ term_rows ts → Never [] → ((p : Premise) (ps : List Premise) → Fit (p ∷ ps) → Exact p ps) → Complete
    exact_open s none f = first_open none go
      where
        go : (p : Premise) (us ws : List Premise) → Rows (p ∷ (us ++ ws)) → Fit (p ∷ (us ++ ws)) → Found [] × Found (p ∷ us)
        go p us ws R h =
            let x = f p (us ++ ws) h in
            let t = and_both (all (is_row ts) (p ∷ (us ++ ws))) (fits ts k l v (p ∷ (us ++ ws))) R h in
            let e = ap (over (p ∷ us)) (x.needed p.value) ∙ over_self (p ∷ us) ws in (
              found_first x.way x.low p.row (subst (λ n. p.row < n) (sym s) (ltb→lt _ _ (and_l (is_row ts p) _ R)))
                  (subst (λ ds. T (serves ts k l v ds)) (sym (x.needed 0)) t),
              found_after x.way x.low p us (subst (λ ds. T (serves ts k l v ds)) (sym e) t),
            )

  -- ---- true equalities

  -- where row r is a = b, so is the first row that is
  pub equation_is : (a b r : ℕ) → T (ltb r (term_rows ts)) → T (is_eq ts r a b) → T (ltb (equation ts a b) (term_rows ts)) × T (is_eq ts (equation ts a b) a b)
  unfolding equation
  equation_is a b r l h =
      let l' = ltb→lt r (term_rows ts) l in
      let f : ℕ → Bool = λ e. is_eq ts e a b in
      (lt→ltb _ _ (first_below (term_rows ts) f r l' h), first_holds (term_rows ts) f r l' h)

  pub pairs_open : (xs ys : List ℕ) (qs rs : List Premise) → Rows (qs ++ rs) → T (pairs ts xs ys (qs ++ rs))
      → Rows (over qs (equations ts xs ys)) × T (pairs ts xs ys (over qs (equations ts xs ys)))
  pairs_open [] [] [] rs R h = (tt, tt)
  pairs_open [] [] (q ∷ qs) rs R h = absurd h
  pairs_open [] (b ∷ ys) qs rs R h = absurd h
  pairs_open (a ∷ xs) [] qs rs R h = absurd h
  pairs_open (a ∷ xs) (b ∷ ys) [] [] R h = absurd h
  pairs_open (a ∷ xs) (b ∷ ys) [] (r ∷ rs) R h =
      let e = equation_is a b r.row (search chain) (search chain) in
      let i = pairs_open xs ys [] rs (and_r (is_row ts r) _ R) (and_r (equates ts a b 1 r) _ h) in
      (search chain, search chain)
  pairs_open (a ∷ xs) (b ∷ ys) (q ∷ qs) rs R h =
      let i = pairs_open xs ys qs rs (and_r (is_row ts q) _ R) (and_r (equates ts a b 1 q) _ h) in
      (search chain, search chain)
