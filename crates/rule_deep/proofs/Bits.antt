-- Premises by their row: which of them have a property, as bits, and what value they give a row.
use mathlib.Core.Path.{◌≡◌, refl, sym, ap, ap₂, ◌∙◌}
use mathlib.Core.Logic.{◌≢◌}
use mathlib.Core.Bool.{Bool, true, false, not, ◌&&◌, ◌||◌, cond}
use mathlib.Core.List.{List, [], ◌∷◌, Memᴰ}
use Prim.Native.Nat.{ℕ, zero, suc, ◌+◌, ◌*◌, ◌/◌, ◌%◌, ◌≤◌, max}
use native.Mathlib.Omega.{arith}
use lib.Bits.{bit_or, or_step}
use lib.Dec.{eqb}
use borrow.Author.Tests.{eqb-true, eqb-false, eq-eqb, ne_eqb}
use Rattle.calculus.specs.declared.Premise.{Premise}
use Rattle.calculus.specs.Lists.{all, any, num}
use Rattle.calculus.specs.Sheets.{blank}
use Rattle.calculus.specs.Rules.{is_premise, premise_value}
use Rattle.calculus.proofs.Facts.{num_le}
use Rattle.rule_claims.specs.Claims.{gap, stated}
use Rattle.rule_deep.specs.Walks.{marked, every_one, same_row}

-- ---- bits

module _ (f : ℕ → Bool) where
  pub marks_nil : 0 ≡ marked f (stated [])
  unfolding marked stated
  marks_nil = refl

  -- one more premise in front: none, one that has it, one that has not
  pub marks_end : (p : Premise) (ps : List Premise) → p.row ≡ blank → 0 ≡ marked f (stated (p ∷ ps))
  unfolding marked stated
  marks_end p ps e = rw (eq-eqb _ blank e)

  pub marks_set : (p : Premise) (ps : List Premise) (m : ℕ) → p.row ≢ blank → f p.row ≡ true → m ≡ marked f (stated ps)
      → m * 2 + 1 ≡ marked f (stated (p ∷ ps))
  unfolding marked stated
  marks_set p ps m n h e = rw (ne_eqb _ blank n, h) (omega arith)

  pub marks_clear : (p : Premise) (ps : List Premise) (m : ℕ) → p.row ≢ blank → f p.row ≡ false → m ≡ marked f (stated ps)
      → m * 2 ≡ marked f (stated (p ∷ ps))
  unfolding marked stated
  marks_clear p ps m n h e = rw (ne_eqb _ blank n, h) (omega arith)

  -- some premise has it just where a bit is set
  pub marks_any : (ps : List Premise) → any (λ (p : Premise). f p.row) ps ≡ not (eqb (marked f ps) 0)
  unfolding marked
  marks_any [] = refl
  marks_any (p ∷ ps) = go (f p.row) (marked f ps) (marks_any ps)
    where
      go : (b : Bool) (m : ℕ) {c : Bool} → c ≡ not (eqb m 0) → (b || c) ≡ not (eqb (num b + 2 * m) 0)
      go true m e = sym (ap not (ne_eqb (1 + 2 * m) 0 (λ (q : 1 + 2 * m ≡ 0). omega arith)))
      go false zero e = e
      go false (suc m) e =
          let a = ne_eqb (suc m) 0 (λ (q : suc m ≡ 0). omega arith) in
          let b = ne_eqb (num false + 2 * suc m) 0 (λ (q : num false + 2 * suc m ≡ 0). omega arith) in
          e ∙ ap not (a ∙ sym b)

  -- all premises have it just where every bit is set
  pub marks_all : (ps : List Premise) → eqb (marked f ps) (marked every_one ps) ≡ all (λ (p : Premise). f p.row) ps
  unfolding marked
  marks_all [] = refl
  marks_all (p ∷ ps) = go (f p.row) (marked f ps) (marked every_one ps) (all (λ (p : Premise). f p.row) ps) (marks_all ps)
    where
      go : (b : Bool) (m n : ℕ) (c : Bool) → eqb m n ≡ c → eqb (num b + 2 * m) (1 + 2 * n) ≡ (b && c)
      go true m n true e = eq-eqb (num true + 2 * m) (1 + 2 * n) (omega (arith, eqb-true m n e))
      go true m n false e = ne_eqb _ _ (λ (q : 1 + 2 * m ≡ 1 + 2 * n). eqb-false m n e (omega arith))
      go false m n c e = ne_eqb _ _ (λ (q : num false + 2 * m ≡ 1 + 2 * n). omega arith)

  -- there are five bits
  pub marks_short : (p q r s t : Premise) → marked f (stated (p ∷ q ∷ r ∷ s ∷ t ∷ [])) ≤ 31
  unfolding marked stated
  marks_short p q r s t =
      more p (q ∷ r ∷ s ∷ t ∷ []) 15 (more q (r ∷ s ∷ t ∷ []) 7 (more r (s ∷ t ∷ []) 3 (more s (t ∷ []) 1 (more t [] 0 (omega arith)))))
    where
      more : (p : Premise) (ps : List Premise) (k : ℕ) → marked f (stated ps) ≤ k → marked f (stated (p ∷ ps)) ≤ k * 2 + 1
      more p ps k h = go (gap p)
        where
          go : (g : Bool) → marked f (cond g [] (p ∷ stated ps)) ≤ k * 2 + 1
          go true = omega arith
          go false = omega (arith, num_le (f p.row))

pub marks_least : (f : ℕ → Bool) (p q r s t : Premise) {m : ℕ} → m ≡ marked f (stated (p ∷ q ∷ r ∷ s ∷ t ∷ [])) → m ≤ 31
marks_least f p q r s t e = omega (arith, marks_short f p q r s t)

pub marks_same : (f g : ℕ → Bool) (ps : List Premise) → ((p : Premise) → Memᴰ p ps → f p.row ≡ g p.row) → marked f ps ≡ marked g ps
unfolding marked
marks_same f g [] h = refl
marks_same f g (p ∷ ps) h =
    ap₂ (λ b m. num b + 2 * m) (h p (Memᴰ.head refl)) (marks_same f g ps (λ q m. h q (Memᴰ.tail m)))

pub marks_never : (ps : List Premise) → marked (λ u. false) ps ≡ 0
unfolding marked
marks_never [] = refl
marks_never (p ∷ ps) = omega (arith, marks_never ps)

-- the bits of two tests, of which either may hold
pub marks_either : (f g : ℕ → Bool) (ps : List Premise) → bit_or (marked f ps) (marked g ps) ≡ marked (λ u. f u || g u) ps
unfolding marked
marks_either f g [] = refl
marks_either f g (p ∷ ps) = go (f p.row) (g p.row) (marked f ps) (marked g ps) (marks_either f g ps)
  where
    half : (a : Bool) (m : ℕ) → (num a + 2 * m) / 2 ≡ m
    half a m = omega (arith, num_le a)

    last : (a : Bool) (m : ℕ) → (num a + 2 * m) % 2 ≡ num a
    last a m = omega (arith, num_le a)

    larger : (a b : Bool) → max (num a) (num b) ≡ num (a || b)
    larger true true = refl
    larger true false = refl
    larger false true = refl
    larger false false = refl

    go : (a b : Bool) (m n : ℕ) {k : ℕ} → bit_or m n ≡ k → bit_or (num a + 2 * m) (num b + 2 * n) ≡ num (a || b) + 2 * k
    go a b m n e =
        let s = ap₂ bit_or (half a m) (half b n) ∙ e in
        let t = ap₂ max (last a m) (last b n) ∙ larger a b in
        omega (arith, or_step (num a + 2 * m) (num b + 2 * n), s, t)

-- a bit is set just where a premise is on t
module _ (ps : List Premise) (t : ℕ) where
  pub on_premise : marked (same_row t) ps ≢ 0 → is_premise ps t ≡ true
  on_premise n = marks_any (same_row t) ps ∙ ap not (ne_eqb (marked (same_row t) ps) 0 n)

  pub off_premise : marked (same_row t) ps ≡ 0 → is_premise ps t ≡ false
  off_premise e = marks_any (same_row t) ps ∙ ap not (eq-eqb (marked (same_row t) ps) 0 e)

-- ---- values
-- the value by the first of the premises on a row
pub value_nil : (t : ℕ) → 0 ≡ premise_value (stated []) t
unfolding stated
value_nil t = refl

pub value_end : (p : Premise) (ps : List Premise) (t : ℕ) → p.row ≡ blank → 0 ≡ premise_value (stated (p ∷ ps)) t
unfolding stated
value_end p ps t e = rw (eq-eqb _ blank e)

pub value_first : (p : Premise) (ps : List Premise) (t : ℕ) → p.row ≢ blank → p.row ≡ t → p.value ≡ premise_value (stated (p ∷ ps)) t
unfolding stated
value_first p ps t n e = rw (ne_eqb _ blank n, eq-eqb _ t e)

pub value_later : (p : Premise) (ps : List Premise) (t m : ℕ) → p.row ≢ blank → p.row ≢ t → m ≡ premise_value (stated ps) t
    → m ≡ premise_value (stated (p ∷ ps)) t
unfolding stated
value_later p ps t m n k e = rw (ne_eqb _ blank n, ne_eqb _ t k) e
