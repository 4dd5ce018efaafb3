-- Truth values, and the values of not, and, or: by the definitions they are the relation's.
use mathlib.Core.Path.{◌≡◌, refl, sym, ap, subst, ◌∙◌}
use mathlib.Core.Logic.{◌≢◌, ◌⊎◌, inl, inr}
use mathlib.Core.Bool.{true, false}
use mathlib.Core.List.Memᴰ
use mathlib.Core.List.{List, [], ◌∷◌, Memᴰ}
use Prim.Native.Nat.{ℕ, zero, suc, ◌+◌, ◌≤◌, ◌<◌}
use native.Mathlib.Omega.{arith}
use lib.ListN.{length}
use lib.Dec.{T, eqb, eqb→eq}
use Rattle.calculus.specs.Lists.{has, num, is_true, opposite}
use Rattle.calculus.specs.Sheets.{term_rows}
use Rattle.calculus.specs.Terms.{head, args, head_of, not_head}
use Rattle.calculus.specs.Rules.{and_of, or_of, evaluates, is_connective}
use Rattle.calculus.proofs.Facts.{num_true, num_false, eqb_of, or_l, T_true, true_T, is_or_not, true_or_false, all_at, all_of, any_at, any_of, has_at, has_of}
use Rattle.calculus.proofs.Forms.{connective_case}
use Rattle.calculus.proofs.WellSorted.{WellSorted}
use Rattle.calculus.proofs.Rows.{not_count}
use Rattle.calculus.proofs.Deep.{evaluates_once}
use Rattle.figure.specs.Inferences.{Opposite, opposite_of_true, opposite_of_false, Settles, or_by_true, and_by_false, Evaluates, negation, settled, unsettled}

-- ---- truth values

pub opposite_there : (v : ℕ) → v ≤ 1 → Opposite v (opposite v)
opposite_there zero l = opposite_of_false
opposite_there (suc zero) l = opposite_of_true
opposite_there (suc (suc v)) l = absurd (omega arith)

pub opposite_of : (w v : ℕ) → w + v ≡ 1 → Opposite w v
opposite_of w v e = let q : opposite w ≡ v = omega arith in subst (Opposite w) q (opposite_there w (omega arith))

pub opposite_sum : {w v : ℕ} → Opposite w v → w + v ≡ 1
opposite_sum opposite_of_true = refl
opposite_sum opposite_of_false = refl

-- each of vs is a truth value
abbrev pub Small : List ℕ → Type 0
Small vs = (x : ℕ) → Memᴰ x vs → x ≤ 1

-- some member is w, or every one is the other value u
found : {w u : ℕ} → Opposite w u → (vs : List ℕ) → Small vs → Memᴰ w vs ⊎ ((x : ℕ) → Memᴰ x vs → x ≡ u)
found {w} {u} o vs s = go (is_or_not (has vs w))
  where
    go : (has vs w ≡ true) ⊎ (has vs w ≡ false) → Memᴰ w vs ⊎ ((x : ℕ) → Memᴰ x vs → x ≡ u)
    go (inl e) = inl (has_at vs (true_T _ e))
    go (inr e) =
        inr (λ x m.
        let n : x ≢ w = λ q. true_or_false (T_true _ (has_of (Memᴰ.cast (sym q) m))) e in
        let l = s x m in
        let z = opposite_sum o in
        omega arith)

-- ---- values of not, and, or

pub evaluates_of : {h v : ℕ} {vs : List ℕ} → Evaluates h vs v → T (evaluates h vs v)
evaluates_of (negation opposite_of_true) = tt
evaluates_of (negation opposite_of_false) = tt
evaluates_of {vs = vs} (settled or_by_true m) = eqb_of (sym (num_true (or_of vs) (any_of is_true m tt)))
evaluates_of {vs = vs} (settled and_by_false m) =
    or_l (eqb 0 (num (and_of vs))) _ (eqb_of (sym (num_false (and_of vs) (λ t. all_at is_true vs t m))))
evaluates_of {vs = vs} (unsettled or_by_true f) =
    eqb_of (sym (num_false (or_of vs) (λ t.
    let r = any_at is_true vs t in
    let e = f r.0 r.1 in
    let q = eqb→eq r.0 1 r.2 in
    omega arith)))
evaluates_of {vs = vs} (unsettled and_by_false f) =
    or_l (eqb 1 (num (and_of vs))) _ (eqb_of (sym (num_true (and_of vs) (all_of is_true vs (λ x m. eqb_of (f x m))))))

-- over truth values each has some value, not over one of them
abbrev Valued : List ℕ → ℕ → Type 0
Valued vs h = (v : ℕ) × Evaluates h vs v

not_valued : (vs : List ℕ) → Small vs → length vs ≡ 1 → Valued vs not_head
not_valued [] s n = absurd (omega arith)
not_valued (x ∷ []) s n = (opposite x, negation (opposite_there x (s x (Memᴰ.head refl))))
not_valued (x ∷ y ∷ vs) s n = absurd (omega arith)

settles_valued : {h w u : ℕ} → Settles h w u → Opposite w u → (vs : List ℕ) → Small vs → Valued vs h
settles_valued {h} {w} {u} d o vs s = go (found o vs s)
  where
    go : Memᴰ w vs ⊎ ((x : ℕ) → Memᴰ x vs → x ≡ u) → Valued vs h
    go (inl m) = (w, settled d m)
    go (inr f) = (u, unsettled d f)

module _ {ss ts : List ℕ} (W : WellSorted ss ts) where
  -- over truth values, one for each argument, a connective has the value that its test takes
  pub connective_has : (t : ℕ) → t < term_rows ts → T (is_connective (head ts t)) → (vs : List ℕ) → length vs ≡ length (args ts t) → Small vs
      → Evaluates (head ts t) vs (num (evaluates (head ts t) vs 1))
  connective_has t l c vs n s =
      let r = connective_case (λ h. head ts t ≡ h → Valued vs h) (λ e. not_valued vs s (n ∙ not_count W t l (ap head_of e)))
      (λ e. settles_valued and_by_false opposite_of_false vs s) (λ e. settles_valued or_by_true opposite_of_true vs s) (head ts t) c refl in
      subst (Evaluates (head ts t) vs) (evaluates_once (head ts t) vs r.0 (evaluates_of r.1)).1 r.1
