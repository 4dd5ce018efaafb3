-- A name is copied, byte after byte.
use mathlib.Core.Path.{◌≡◌, refl, ap, ◌∙◌}
use native.Mathlib.Omega.{arith}
use lib.ListN.{length}
use lib.Seq.{paste, paste-zero}
use Rattle.text_names.proofs.Laws.{put_more, put_length}
use Rattle.text_names.proofs.copy.Goals as goal

pub loop-i-init : goal.loop-i-init
loop-i-init c = let a = c.args in (omega arith, paste-zero a.table.now a.at a.name.now)

pub bounds-table-at : goal.bounds-table-at
bounds-table-at c =
    let a = c.args in
    omega (arith, put_length a.table.now a.at a.name.now c.loop-i.i c.loop-i.table c.loop-i.invariant.1 (omega arith) (omega arith))

pub loop-i-preserved : goal.loop-i-preserved
loop-i-preserved c =
    let a = c.args in
    (omega arith, put_more a.table.now a.at a.name.now c.loop-i.i c.loop-i.table c.loop-i.invariant.1 _ refl (omega arith) (omega arith))

pub returns : goal.returns
returns c =
    let a = c.args in
    let e : c.loop-i.i ≡ length a.name.now = omega arith in
    c.loop-i.invariant.1 ∙ ap (paste a.table.now a.at a.name.now) e
