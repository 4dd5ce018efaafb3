-- A row's numbers stored, as far as there is room.
use Rattle.std.proofs.Common.{◌≡◌, length, take, length-take, refl, sym, ◌∙◌, arith}
use native.Mathlib.Nat.{add-zero}
use lib.ListN.{length-set}
use Rattle.buffers.proofs.Room.{sets_more, sets_end}
use Rattle.text_lines.proofs.Sheets.{sets_fit}
use Rattle.text_lines.proofs.store_all.Goals as goal

pub loop-j-init : goal.loop-j-init
loop-j-init c = (omega arith, refl, rw add-zero)

pub loop-j-preserved : goal.loop-j-preserved
loop-j-preserved c =
    let l = c.loop-j in
    let row = take c.min-n.result c.args.cells.now in
    let long : length row ≡ c.min-n.result = rw length-take (omega arith) in
    let more = sets_more l.sheet c.min-from.result row l.j (omega (arith, long)) in
    (omega arith, rw length-set l.invariant.1, sym more ∙ l.invariant.2)

pub returns : goal.returns
returns c =
    let a = c.args in
    let l = c.loop-j in
    let row = take c.min-n.result a.cells.now in
    let long : length row ≡ c.min-n.result = rw length-take (omega arith) in
    sets_fit a.sheet.now a.cells.now row l.sheet a.at _ _ c.min-from.ensures c.min-n.ensures refl
    (sym (sets_end l.sheet c.min-from.result row l.j (omega (arith, long))) ∙ l.invariant.2)
