-- `levels::level_of` meets its contract. The set is the one at e. Assumes nothing.
use Rattle.bitset.specs.Windows.{set_at}
use Rattle.levels.proofs.level_of.Given as goal

abbrev pub ghost-level_by : goal.ghost-level_by
ghost-level_by a = set_at a.word.0.now a.word.1.now a.w
