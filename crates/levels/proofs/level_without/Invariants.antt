-- `levels::level_without` meets its contract. The set is the one at e, without a. Assumes nothing.
use Rattle.calculus.specs.Trail.{remove}
use Rattle.bitset.specs.Windows.{set_at}
use Rattle.levels.proofs.level_without.Given as goal

abbrev pub ghost-level_by : goal.ghost-level_by
ghost-level_by a = remove (set_at a.word.0.now a.word.1.now a.w) a.word.2.now.0
