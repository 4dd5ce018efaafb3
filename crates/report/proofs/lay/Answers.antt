-- The parts so far are laid.
use Rattle.report.proofs.Parts.{laid_none, room_left, laid_more}
use Rattle.report.proofs.lay.Goals as goal

pub loop-part-init : goal.loop-part-init
loop-part-init c = search laid_none

pub put_bytes-at-requires : goal.put_bytes-at-requires
put_bytes-at-requires c = search room_left

pub loop-part-preserved : goal.loop-part-preserved
loop-part-preserved c = search laid_more
