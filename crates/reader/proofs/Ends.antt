-- Laws of the end of a text.
use Prim.Native.Nat.{ℕ}
use mathlib.Core.Path.{◌≡◌, ap, sym, ◌∙◌}
use mathlib.Core.Bool.{Bool, true, false, not}
use mathlib.Core.List.{List}
use borrow.Author.Tests.{eq-eqb, not-true, not-false}
use lib.Dec.{eqb}
use lib.ListN.{length, replicate}
use Rattle.text_names.proofs.Table.{length_names}
use Rattle.text_rows.specs.View.{kept_of}
use Rattle.text_rows.specs.declared.Counts.{Counts}
use Rattle.text_lines.specs.declared.Core.{Core}
use Rattle.text_stream.specs.declared.Progress.{Progress}
use Rattle.reader.specs.declared.ReadOutcome.{ReadOutcome}
use Rattle.reader.specs.Text.{Fault, is_steps, end_fault, no_fault, fault_of, counted, outcome_of}
use Rattle.text_faults.specs.Why.{why_number}
use Rattle.text_lines.specs.View.{control_of, number_at}
use Rattle.text_stream.specs.Stream.{stream_of}
use Rattle.reader.specs.Stream.{stream_fault, stream_number, hold_rows, number_of, left_sheet, Finished}

-- the fault, test after test
module _ (core : Core) (t : List ℕ) (whole : Bool) (n : ℕ) (good : number_at core.fault ≡ 0) {steps : Bool} (steps_is : steps ≡ is_steps core.sheet) where
  pub fault_sheet : {r : Fault} → steps ≡ false → r ≡ end_fault whole n → r ≡ fault_of (control_of core t) whole n
  fault_sheet h is = is ∙ rw (eq-eqb (number_at core.fault) 0 good, sym steps_is ∙ h)

  module _ (in_steps : steps ≡ true) where
    pub fault_header : {r : Fault} → not core.headed ≡ true → r ≡ end_fault whole n → r ≡ fault_of (control_of core t) whole n
    fault_header h is = is ∙ rw (eq-eqb (number_at core.fault) 0 good, sym steps_is ∙ in_steps, not-true core.headed h)

    module _ (has_header : not core.headed ≡ false) where
      pub fault_rest : {r : Fault} → whole ≡ false → r ≡ end_fault whole n → r ≡ fault_of (control_of core t) whole n
      fault_rest h is =
          let e = h in
          is ∙ rw (eq-eqb (number_at core.fault) 0 good, sym steps_is ∙ in_steps, not-false core.headed has_header, e)

      pub fault_none : whole ≡ true → no_fault ≡ fault_of (control_of core t) whole n
      fault_none h =
          let e = h in
          rw (eq-eqb (number_at core.fault) 0 good, sym steps_is ∙ in_steps, not-false core.headed has_header, e)

-- what is returned
pub outcome_counts : (number : ℕ) (f : Fault) (n : Counts) (t : List ℕ) (a b c d w l p : ℕ)
    → a ≡ counted number n.sorts → b ≡ counted number n.terms → c ≡ counted number n.inputs → d ≡ counted number n.steps
    → l ≡ f.line → p ≡ f.place → w ≡ why_number f.why
    → ◌≡◌ {A = ReadOutcome} (record { number = number; sorts = a; terms = b; inputs = c; steps = d; why = w; line = l; place = p })
    (outcome_of number f (kept_of n t))
outcome_counts number f n t a b c d w l p q r s u v x y = rw (q, r, s, u, v, x, y, length_names t 0 n.sorts, length_names t 32 n.terms)

-- the end
module _ (f : Progress) (line t a b c d : List ℕ)
    (fault : Fault) (is : fault ≡ fault_of (control_of f.core t) (eqb f.pos.at 0) f.pos.line)
    (room : Bool) (has : room ≡ hold_rows f.core.counts.sorts f.core.counts.terms f.core.counts.inputs f.core.counts.steps
    (length a) (length b) (length c) (length d))
    (number : ℕ) (number_of_lem : number ≡ number_of fault.number room) where
  fault_is : fault ≡ stream_fault (stream_of f line t a b c d)
  unfolding stream_fault
  fault_is = is

  number_is : number ≡ stream_number (stream_of f line t a b c d)
  unfolding stream_number
  number_is = number_of_lem ∙ rw (has, fault_is, length_names t 0 f.core.counts.sorts, length_names t 32 f.core.counts.terms)

  pub finished : (r : ReadOutcome) (line' names' a' b' c' d' : List ℕ) → r ≡ outcome_of number fault (kept_of f.core.counts t)
      → line' ≡ replicate 526 0 → names' ≡ replicate 55392 0
      → a' ≡ left_sheet number a → b' ≡ left_sheet number b → c' ≡ left_sheet number c → d' ≡ left_sheet number d
      → Finished (stream_of f line t a b c d) r line' names' a' b' c' d'
  finished r line' names' a' b' c' d' o l m p q u v =
      record {
        outcome_is = o ∙ rw (number_is, fault_is);
        line_is = l;
        names_is = m;
        sorts_is = p ∙ ap (λ (x : ℕ). left_sheet x a) number_is;
        terms_is = q ∙ ap (λ (x : ℕ). left_sheet x b) number_is;
        inputs_is = u ∙ ap (λ (x : ℕ). left_sheet x c) number_is;
        steps_is = v ∙ ap (λ (x : ℕ). left_sheet x d) number_is;
      }
