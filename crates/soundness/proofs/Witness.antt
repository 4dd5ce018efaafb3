-- The claim is not empty: every sort sheet and every term sheet has an interpretation, so that no log refutes the empty input.
use mathlib.Core.Path.{◌≡◌, refl, sym, ◌∙◌}
use mathlib.Core.Logic.{◌≢◌, ∥∥₁_elim}
use mathlib.Core.List.{List, []}
use Prim.Native.Nat.{ℕ, zero, suc, ◌≤◌, ◌<◌}
use native.Mathlib.Omega.{arith}
use Rattle.calculus.specs.Sheets.{Call, length_refusal}
use Rattle.calculus.specs.Sorts.{value_sort, sorts_refusal}
use Rattle.calculus.specs.Terms.{sort, terms_refusal}
use Rattle.calculus.specs.Run.{call_refusal, sheets_refusal, ending_of, ending, outcome, verdict_number}
use Rattle.calculus.proofs.Facts.{or_else_ok}
use Rattle.calculus.proofs.WellSorted.{WellSorted, well_sorted}
use Rattle.soundness.specs.Interpretation.{Elements, Function, Structure, Interpretation, Endorses}
use Rattle.soundness.specs.Claim.{Given}
use Rattle.calculus.proofs.Rows.{array_not_prop}
use Rattle.soundness.proofs.Values.{has_values}
use Rattle.soundness.proofs.Theorem.{sound}

-- a function that is given for all numbers, and stays in the sets
pub total_function : (D : ℕ → ℕ → Type 0) (from : List ℕ) (to : ℕ) (f : List ℕ → ℕ)
    → ((xs : List ℕ) → Elements D from xs → D to (f xs)) → Function D from to (λ xs y. y ≡ f xs)
total_function D from to f c =
    record {
      total = λ xs d. ∣ (f xs, refl) ∣₁;
      single = λ xs d y z p q. p ∙ sym q;
      into = λ xs d y p. rw p (c xs d);
    }

-- ---- one element in every sort

abbrev Point : ℕ → ℕ → Type 0
Point zero x = x ≤ 1
Point (suc s) x = x ≡ 0

point_zero : (s : ℕ) → Point s 0
point_zero zero = omega arith
point_zero (suc s) = refl

-- 0 and nothing else
point_one : (s : ℕ) → 0 < s → Point s 0 × ((x : ℕ) → Point s x → x ≡ 0)
point_one zero l = absurd (omega arith)
point_one (suc s) l = (refl, λ x p. p)

pub point : (ss ts : List ℕ) → Structure ss ts
point ss ts =
    record {
      Domain = Point;
      truths = λ x. (λ p. p, λ p. p);
      inhabited = λ s d. let one = point_one s d.0 in ∣ (0, search) ∣₁;
      Apply = λ h xs y. y ≡ 0;
      free = λ t l f. total_function Point _ (sort ts t) (λ xs. 0) (λ xs d. point_zero (sort ts t));
      Selects = λ s xs y. y ≡ 0;
      select = λ s a. total_function Point _ (value_sort ss s) (λ xs. 0) (λ xs d. point_zero (value_sort ss s));
      Stores = λ s xs y. y ≡ 0;
      store = λ s a. total_function Point _ s (λ xs. 0) (λ xs d. point_zero s);
      read_stored = λ s a i v b x h p q r m n. n ∙ sym ((point_one (value_sort ss s) (array_not_prop ss s h).2).1 v r);
      read_other = λ s a i j v b x y h p q r w o m n k. n ∙ sym k;
    }

endorses_none : {ss ts : List ℕ} (M : Interpretation ss ts) → Endorses M (Given [])
unfolding Given
endorses_none M =
    record {
      props = λ t v a z. absurd (omega (arith, a.1));
      others = λ t v u w a b s n. absurd (omega (arith, a.1));
    }

-- what is refuted has passed the checks of its sheets
pub refuted_sorted : (x : Call) → (outcome x).verdict ≡ 1 → WellSorted x.sorts x.terms
unfolding outcome ending ending_of call_refusal sheets_refusal
refuted_sorted x h = go (call_refusal x) refl h
  where
    go : (c : ℕ) → call_refusal x ≡ c → verdict_number (ending_of c x).verdict ≡ 1 → WellSorted x.sorts x.terms
    go zero e k =
        let a = or_else_ok (length_refusal x) _ e in
        let b = or_else_ok (sorts_refusal x.sorts) _ a.1 in
        well_sorted x.sorts x.terms (or_else_ok (terms_refusal x.sorts x.terms) _ b.1).0
    go (suc c) e k = absurd (omega arith)

pub empty_never_refuted : (x : Call) → x.inputs ≡ [] → (outcome x).verdict ≢ 1
empty_never_refuted x e h =
    ∥∥₁_elim (has_values (refuted_sorted x h) (point x.sorts x.terms)) (λ p q. absurd p)
    (λ r. (sound x).refutation h r.0 (rw e (endorses_none r.0)))
