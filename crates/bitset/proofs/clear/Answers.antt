-- `bitset::clear` meets its contract. Assumes nothing.
use borrow.Author.Rules.{rules}
use Rattle.bitset.proofs.Windows.{zeroed, cleared}
use Rattle.bitset.proofs.clear.Goals as goal

pub returns : goal.returns
returns c = cleared _ _ _ _ (zeroed _ _ _ _ c.requires (search rules))
