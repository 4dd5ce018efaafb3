-- `sort_sheet::check_sorts` meets its contract.
use mathlib.Core.Path.{◌≡◌}
use Rattle.calculus.specs.Numbers.{first_refusal}
use Rattle.calculus.specs.Sorts.{sort_refusal}
use Rattle.sort_sheet.proofs.check_sorts.Given as goal

abbrev pub invariant-loop-k : goal.invariant-loop-k
invariant-loop-k l = first_refusal l.k (sort_refusal l.sorts) ≡ 0
