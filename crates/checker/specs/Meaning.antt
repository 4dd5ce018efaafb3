-- What a caller may conclude from the call's answer r and the trail buffer that it left: demand 3 and both invariants of 000, section 6.2, said
-- of numbers that the caller has.
use Rattle.std.specs.Prelude.{◌≡◌, true, false, ℕ, ◌+◌, ◌*◌, ◌<◌, length, get_or}
use mathlib.Core.List.{List, Memᴰ}
use Rattle.calculus.specs.declared.Outcome.{Outcome}
use Rattle.calculus.specs.Sheets.{Call}
use Rattle.calculus.specs.Terms.{sort}
use Rattle.calculus.specs.Trail.{Entry, trail_numbers_of}
use Rattle.calculus.specs.Steps.{trail_of, conflict_of, in_conflict}
use Rattle.calculus.specs.Run.{ending, written}
use Rattle.soundness.specs.Interpretation.{Unsatisfiable, Entails}
use Rattle.soundness.specs.Claim.{Given, OnTrail, Together}

pub record Meaning (x : Call) (r : Outcome) (buffer : List ℕ) : Type 1 where
  -- verdict 1: no interpretation endorses the input
  pub refuted : r.verdict ≡ 1 → Unsatisfiable x.sorts x.terms (Given x.inputs)
  -- the buffer shows the trail that the run leaves, and r counts its entries
  pub shown : buffer ≡ written (trail_numbers_of (trail_of (ending x).state)) x.trail
  pub counted : r.entries ≡ length (trail_of (ending x).state)
  -- each prop entry that is no decision holds wherever the input and its justification are endorsed together
  pub entries : (e : Entry) → Memᴰ e (trail_of (ending x).state) → e.decided ≡ false → sort x.terms e.term ≡ 0
      → Entails x.sorts x.terms (Together (Given x.inputs) (OnTrail (trail_of (ending x).state) e.why)) e.term e.value
  -- the buffer alone (term, value, level, decision): each prop of level 0 has its value wherever the input is endorsed
  pub settled : (k : ℕ) → k < r.entries → get_or buffer (4 * k + 2) 0 ≡ 0 → sort x.terms (get_or buffer (4 * k) 0) ≡ 0
      → Entails x.sorts x.terms (Given x.inputs) (get_or buffer (4 * k) 0) (get_or buffer (4 * k + 1) 0)
  -- where the log ends in a conflict, no interpretation endorses the input and the conflict together
  pub conflicts : in_conflict (ending x).state ≡ true
      → Unsatisfiable x.sorts x.terms (Together (Given x.inputs) (OnTrail (trail_of (ending x).state) (conflict_of (ending x).state)))
