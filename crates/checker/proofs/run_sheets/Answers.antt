-- `checker::run_sheets` meets its contract.
use Rattle.checker.proofs.Answers.{sheets_fit, log_fits, sheets_away, input_away, run_answers}
use Rattle.sheets.proofs.Lengths.{lengths_passed}
use native.Mathlib.Omega.{arith}
use mathlib.Core.Path.{refl}
use Rattle.checker.proofs.run_sheets.Goals as goal

pub check_sheets-requires : goal.check_sheets-requires
check_sheets-requires c = search sheets_fit

pub returns-in_err-check_sheets : goal.returns-in_err-check_sheets
returns-in_err-check_sheets c =
    sheets_away _ _ _ _ _ _ _ _ c.requires c.in_err-check_sheets.ensures c.from_residual.ensures.1

pub load-requires : goal.load-requires
load-requires c =
    let f = lengths_passed _ c.requires in
    rw c.set_words-w.ensures (omega (arith, f.work_room), omega (arith, f.terms_low), omega arith, refl)

pub returns-in_err-load : goal.returns-in_err-load
returns-in_err-load c =
    input_away _ _ _ _ _ _ _ _ _ _ _ c.requires c.in_ok-check_sheets.ensures c.in_err-load.ensures c.from_residual-in_err-load.ensures.1

pub run_log-requires : goal.run_log-requires
run_log-requires c =
    log_fits _ _ _ _ _ _ _ _ _ c.requires c.in_ok-check_sheets.ensures refl c.in_ok-load.ensures

pub returns : goal.returns
returns c = run_answers _ _ _ _ _ _ _ _ _ c.requires c.in_ok-check_sheets.ensures c.in_ok-load.ensures (c.run_log.ensures.value, c.run_log.ensures.trail_after)
