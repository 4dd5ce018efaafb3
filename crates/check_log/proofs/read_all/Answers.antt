-- All pieces, one after the other.
use Rattle.check_log.proofs.Pieces.{none_fed, more_fed, end_fed}
use Rattle.check_log.proofs.read_all.Goals as goal

pub loop-bytes-init : goal.loop-bytes-init
loop-bytes-init c = (c.requires, none_fed _)

pub returns-then-size-eq0-clause-fed : goal.returns-then-size-eq0-clause-fed
returns-then-size-eq0-clause-fed c = end_fed c.loop-bytes.invariant.1 c.in_ok-size.ensures.fed c.if-size-eq0.true

pub loop-bytes-preserved : goal.loop-bytes-preserved
loop-bytes-preserved c = (c.read_piece.ensures.bounded, more_fed c.loop-bytes.invariant.1 c.in_ok-size.ensures.fed)
