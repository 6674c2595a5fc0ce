-- `index_directory::bit_set::BitSet::new` meets its contract.
use Rattle.index_directory.proofs.BitSets.{empty_set}
use Rattle.index_directory.proofs.bit_set.BitSet.new.Goals as goal

pub returns : goal.returns
returns c = empty_set 64
