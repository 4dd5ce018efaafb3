-- `trail_changes::start` meets its contract. Assumes nothing.
use native.Mathlib.Omega.{arith}
use borrow.Author.Rules.{rules}
use Rattle.bitset.proofs.Windows.{zeroed}
use Rattle.trail.proofs.Frames.{started}
use Rattle.trail_changes.proofs.start.Goals as goal

pub returns : goal.returns
returns c = started c.requires.0 c.requires.1 c.requires.2 (zeroed _ _ _ _ (omega arith) (search rules))
