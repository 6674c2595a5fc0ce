-- `index_directory::bit_set::smallest_missing` meets its contract.
use Rattle.index_directory.proofs.BitSets.{FullBelow}
use Rattle.index_directory.proofs.bit_set.smallest_missing.Given as goal

abbrev pub invariant-loop-i : goal.invariant-loop-i
invariant-loop-i l = FullBelow l.set l.i
