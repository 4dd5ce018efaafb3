-- The end of a text.
use Prim.Native.Nat.{ℕ}
use mathlib.Core.Path.{◌≡◌, ap, ◌∙◌}
use native.Mathlib.Omega.{arith}
use lib.ListN.{length, replicate}
use Rattle.reader.proofs.Ends.{finished}
use Rattle.reader.proofs.finish.Goals as goal

pub returns : goal.returns
returns c =
    let a = c.args in
    let l : length a.line.now ≡ 526 = omega arith in
    let m : length a.names.now ≡ 55392 = omega arith in
    finished a.f a.line.now a.names.now _ _ _ _ _ (c.fault_of-fault.ensures a.names.now) _ c.holds_rows-room.ensures _
    c.final_number-number.ensures _ _ _ _ _ _ _ (c.outcome_of.ensures a.names.now)
    (c.clear_bytes.ensures ∙ ap (λ (k : ℕ). replicate k 0) l) (c.clear_bytes-2.ensures ∙ ap (λ (k : ℕ). replicate k 0) m)
    c.leave_sheet.ensures c.leave_sheet-2.ensures c.leave_sheet-3.ensures c.leave_sheet-4.ensures
