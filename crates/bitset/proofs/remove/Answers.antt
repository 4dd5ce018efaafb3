-- `bitset::remove` meets its contract. Assumes nothing.
use Rattle.bitset.proofs.Windows.{remove_at}
use Rattle.bitset.proofs.remove.Goals as goal

pub returns : goal.returns
returns c = remove_at _ _ _ _ c.requires.0 c.requires.1
