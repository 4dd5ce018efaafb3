-- What holds of the sheets and the lent buffers once their lengths have passed; what holds of an input row that passed.
use mathlib.Core.Path.{◌≡◌, refl, sym}
use mathlib.Core.Bool.{Bool, true, false, not, ◌&&◌, true≢false}
use mathlib.Core.List.{List}
use Prim.Native.Nat.{ℕ, ◌*◌, ◌/◌, ◌%◌, ◌≤◌, ◌<◌}
use native.Mathlib.Omega.{arith}
use lib.ListN.{length}
use lib.Dec.{eqb, leb, ltb, ltb→lt}
use borrow.Author.Tests.{leb-true, eqb-true}
use Rattle.calculus.proofs.Facts.{both_true, unless_ok, T_true}
use Rattle.calculus.specs.Numbers.{or_else}
use Rattle.calculus.specs.Sheets.{Call, blank, sort_rows, term_rows, input_rows, step_rows, whole, within, roomy, length_refusal, work_words, trail_numbers}
use Rattle.calculus.specs.Inputs.{value_suits}
use Rattle.sheets.specs.Rows.{fit_refusal, given_refusal, input_row_refusal}
use Rattle.sheets.proofs.Laws.{or_else_some}

-- the parts of a test that holds
pub and_four : (a b c d : Bool) → (a && (b && (c && d))) ≡ true → (a ≡ true) × (b ≡ true) × (c ≡ true) × (d ≡ true)
and_four true true true d e = (refl, refl, refl, e)
and_four true true false d e = absurd (true≢false (sym e))
and_four true false c d e = absurd (true≢false (sym e))
and_four false b c d e = absurd (true≢false (sym e))

-- the lengths that passed
pub record Fitting (x : Call) : Type 0 where
  pub sorts_low : length x.sorts ≤ 64
  pub terms_whole : term_rows x.terms * 6 ≡ length x.terms
  pub terms_low : term_rows x.terms ≤ 256
  pub inputs_low : length x.inputs ≤ 512
  pub steps_low : length x.steps ≤ 589815
  pub work_room : work_words (term_rows x.terms) ≤ length x.work
  pub trail_room : trail_numbers (term_rows x.terms) ≤ length x.trail

pub lengths_passed : (x : Call) → length_refusal x ≡ 0 → Fitting x
unfolding length_refusal
lengths_passed x e =
    let w = unless_ok (whole x) 31 _ (omega arith) e in
    let i = unless_ok (within x) 30 _ (omega arith) w.1 in
    let r = unless_ok (roomy x) 32 _ (omega arith) i.1 in
    let ws =
    and_four (eqb (length x.sorts % 2) 0) (eqb (length x.terms % 6) 0) (eqb (length x.inputs % 2) 0) (eqb (length x.steps % 9) 0)
    (T_true (whole x) w.0) in
    let is =
    and_four (leb (sort_rows x.sorts) 32) (leb (term_rows x.terms) 256) (leb (input_rows x.inputs) 256) (leb (step_rows x.steps) 65535)
    (T_true (within x) i.0) in
    let rs =
    both_true (leb (work_words (term_rows x.terms)) (length x.work)) (leb (trail_numbers (term_rows x.terms)) (length x.trail))
    (T_true (roomy x) r.0) in
    let s2 : length x.sorts % 2 ≡ 0 = eqb-true (length x.sorts % 2) 0 ws.0 in
    let t6 : length x.terms % 6 ≡ 0 = eqb-true (length x.terms % 6) 0 ws.1 in
    let n2 : length x.inputs % 2 ≡ 0 = eqb-true (length x.inputs % 2) 0 ws.2 in
    let p9 : length x.steps % 9 ≡ 0 = eqb-true (length x.steps % 9) 0 ws.3 in
    let s : length x.sorts / 2 ≤ 32 = leb-true (sort_rows x.sorts) 32 is.0 in
    let n : length x.inputs / 2 ≤ 256 = leb-true (input_rows x.inputs) 256 is.2 in
    let p : length x.steps / 9 ≤ 65535 = leb-true (step_rows x.steps) 65535 is.3 in
    record {
      sorts_low = omega arith;
      terms_whole = omega arith;
      terms_low = leb-true (term_rows x.terms) 256 is.1;
      inputs_low = omega arith;
      steps_low = omega arith;
      work_room = leb-true (work_words (term_rows x.terms)) (length x.work) rs.0;
      trail_room = leb-true (trail_numbers (term_rows x.terms)) (length x.trail) rs.1;
    }

-- an input row whose term and value fit: the term is a row, the value suits it, and number 8 is left to ask
pub fit_term : (ts : List ℕ) (t v : ℕ) → fit_refusal ts t v ≡ 0 → t < term_rows ts
unfolding fit_refusal
fit_term ts t v e = ltb→lt t (term_rows ts) (unless_ok (ltb t (term_rows ts)) 6 _ (omega arith) e).0

pub fit_value : (ts : List ℕ) (t v : ℕ) → fit_refusal ts t v ≡ 0 → (not (eqb v blank) && value_suits ts t v) ≡ true
unfolding fit_refusal
fit_value ts t v e =
    let row = unless_ok (ltb t (term_rows ts)) 6 _ (omega arith) e in
    let value = unless_ok (not (eqb v blank) && value_suits ts t v) 7 0 (omega arith) row.1 in
    T_true (not (eqb v blank) && value_suits ts t v) value.0

pub row_fits : (ts : List ℕ) (t v : ℕ) (g : Bool) → fit_refusal ts t v ≡ 0 → input_row_refusal ts t v g ≡ given_refusal g
unfolding input_row_refusal or_else
row_fits ts t v g e = rw e

-- and one that is refused: the row has that number, given or not
pub row_unfit : (ts : List ℕ) (t v : ℕ) (g : Bool) → (fit_refusal ts t v ≡ 0 → ⊥) → input_row_refusal ts t v g ≡ fit_refusal ts t v
unfolding input_row_refusal
row_unfit ts t v g d = or_else_some (fit_refusal ts t v) (given_refusal g) d
