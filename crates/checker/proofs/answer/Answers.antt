-- `checker::answer` meets its contract.
use mathlib.Core.Path.{refl, sym, ap, ◌∙◌}
use Rattle.calculus.specs.Run.{turned_away, outcome_of}
use Rattle.checker.proofs.Answers.{lengths_away, cleared}
use Rattle.checker.proofs.answer.Goals as goal

pub run_sheets-r-requires : goal.run_sheets-r-requires
run_sheets-r-requires c = sym c.in_default.ensures

pub returns-in-Err : goal.returns-in-Err
returns-in-Err c =
    lengths_away _ _ _ _ _ _ _ c.in-Err.ensures (c.turned_away.ensures ∙ ap (λ m. outcome_of (turned_away m)) c.from.ensures)

pub returns-in-Ok : goal.returns-in-Ok
returns-in-Ok c =
    cleared _ _ _ _ _ _ _ c.in_default.ensures (rw c.in-Ok.is at c.run_sheets-r.ensures) refl c.run_sheets-r.auto.work c.wipe.ensures

pub returns-in-Err-r : goal.returns-in-Err-r
returns-in-Err-r c =
    cleared _ _ _ _ _ _ _ c.in_default.ensures (rw c.in-Err-r.is at c.run_sheets-r.ensures)
    (c.turned_away-in-Err-r.ensures ∙ ap (λ m. outcome_of (turned_away m)) c.from-in-Err-r.ensures) c.run_sheets-r.auto.work c.wipe.ensures
