-- `levels::level_without_all` meets its contract. The set is the one at e, without the rows in ps. Assumes nothing.
use Rattle.calculus.specs.Terms.{filled}
use Rattle.calculus.specs.Trail.{without}
use Rattle.bitset.specs.Windows.{set_at}
use Rattle.levels.proofs.level_without_all.Given as goal

abbrev pub ghost-level_by : goal.ghost-level_by
ghost-level_by a = without (set_at a.word.0.now a.word.1.now a.w) (filled a.word.2.now)
