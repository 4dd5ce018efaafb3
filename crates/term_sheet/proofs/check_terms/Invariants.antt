-- `term_sheet::check_terms` meets its contract.
use mathlib.Core.Path.{◌≡◌}
use Prim.Native.Nat.{◌≤◌}
use Rattle.calculus.specs.Numbers.{first_refusal}
use Rattle.calculus.specs.Terms.{head, term_refusal}
use Rattle.term_search.specs.Found.{Noted}
use Rattle.term_sheet.proofs.check_terms.Given as goal

abbrev pub invariant-loop-t : goal.invariant-loop-t
invariant-loop-t l = (l.t ≤ l.twin.0) × (first_refusal l.t (term_refusal l.sorts l.terms) ≡ 0) × Noted (head l.terms) l.t l.slots
