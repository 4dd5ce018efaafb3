-- Rows that cannot be the first premise of trans and pred.
use mathlib.Core.Path.{◌≡◌, sym}
use mathlib.Core.Bool.{Bool, false, ◌&&◌}
use mathlib.Core.List.{List, []}
use Prim.Native.Nat.{ℕ}
use lib.Dec.{T, eqb, T_not, not_T}
use Rattle.calculus.specs.declared.Rule.{Rule}
use Rattle.calculus.specs.declared.Rule.TheVariants.{Transitivity, Predicate}
use Rattle.calculus.specs.declared.Term.{Term}
use Rattle.calculus.specs.Terms.{head, eq_head, cells, arg, term_at}
use Rattle.calculus.specs.Rules.{double, leading, fits}
use Rattle.calculus.specs.Place.{with}
use Rattle.calculus.proofs.Facts.{and_l, and_r, and_both, T_false, false_T}
use Rattle.completions.specs.Needs.{needs}
use Rattle.completions.specs.Search.{serves, followed}
use Rattle.completions.proofs.First.{somewhere_at}
use Rattle.needs.specs.declared.Columns.{Columns}
use Rattle.needs.specs.Listed.{listed}
use Rattle.places.specs.Tested.{Begins}

ruleset chain = (and_both, and_l, and_r)

-- what a rule asks of a row, the row has
asked : {a b : Bool} → (T a → T b) → b ≡ false → a ≡ false
asked {a} {b} f e = T_false a (not_T a (λ h. T_not b (false_T b e) (f h)))

module _ (ts : List ℕ) (l r : ℕ) where
  trans_start : (v : ℕ) → T (followed ts Transitivity l v [] (with 0 r)) → T (eqb (head ts r) eq_head && eqb (arg ts r 0) (arg ts l 0))
  unfolding followed needs fits double
  trans_start v h =
      let w = somewhere_at 1 (λ i. serves ts Transitivity l v (needs ts Transitivity l v (with 0 r) i)) h in
      let s : T (serves ts Transitivity l v (needs ts Transitivity l v (with 0 r) 0)) = w.2 in
      search chain depth 12

  pred_start : (v : ℕ) → T (followed ts Predicate l v [] (with 0 r)) → T (eqb (head ts r) (head ts l))
  unfolding followed needs fits leading
  pred_start v h =
      let w = somewhere_at 1 (λ i. serves ts Predicate l v (needs ts Predicate l v (with 0 r) i)) h in
      let s : T (serves ts Predicate l v (needs ts Predicate l v (with 0 r) 0)) = w.2 in
      search chain depth 12

  module _ {k : Rule} {e f : Term} (e_row : e ≡ term_at ts l) (f_row : f ≡ term_at ts r) where
    pub begins_trans : k ≡ Transitivity → Begins ts k l r (eqb f.head eq_head && eqb f.a e.a)
    unfolding arg cells
    begins_trans q = rw (q, e_row, f_row) (record { passed = λ v. asked (trans_start v) })

    pub begins_pred : k ≡ Predicate → Begins ts k l r (eqb f.head e.head)
    begins_pred q = rw (q, e_row, f_row) (record { passed = λ v. asked (pred_start v) })

  module _ (k : Rule) (v : ℕ) where
    pub begun_not : {b : Bool} → Begins ts k l r b → b ≡ false → false ≡ followed ts k l v [] (with 0 r)
    begun_not {b} h e = sym (h.passed v e)

    pub begun_follows : (none : Columns) {b : Bool} → none.count ≡ 0 → b ≡ followed ts k l v (listed none) (with 0 r) → b ≡ followed ts k l v [] (with 0 r)
    unfolding listed
    begun_follows none z e = rw z at e
