-- `index_directory::bit_set::insert` meets its contract.
use Rattle.index_directory.proofs.BitSets.{inserted}
use Rattle.index_directory.proofs.bit_set.insert.Goals as goal

pub returns : goal.returns
returns c = inserted c.args.set.now c.args.number c.requires.0 c.requires.1
