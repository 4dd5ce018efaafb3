-- `bitset::insert` meets its contract. Assumes nothing.
use Rattle.bitset.proofs.Windows.{insert_at}
use Rattle.bitset.proofs.insert.Goals as goal

pub returns : goal.returns
returns c = insert_at _ _ _ _ c.requires.0 c.requires.1
