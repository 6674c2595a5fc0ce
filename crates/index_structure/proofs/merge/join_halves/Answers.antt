-- `index_structure::merge::join_halves` meets its contract.
use native.Mathlib.Omega.{arith}
use Rattle.stores.proofs.Loops.{begun_due}
use Rattle.index_structure.proofs.Merges.{pair_fits, mergeable, entries_ready, merge_made}
use Rattle.index_structure.proofs.merge.join_halves.Goals as goal

pub merging_of-merging-requires : goal.merging_of-merging-requires
merging_of-merging-requires c = pair_fits c.requires

pub merge_slots-requires : goal.merge_slots-requires
merge_slots-requires c = (mergeable c.requires c.merging_of-merging.ensures, omega (arith, begun_due c.new-budget.ensures))

pub join_entries-requires : goal.join_entries-requires
join_entries-requires c =
    entries_ready c.requires c.merging_of-merging.ensures _ _ _ (rw c.new-budget.ensures at c.merge_slots.ensures)

pub returns : goal.returns
returns c =
    merge_made c.requires c.merging_of-merging.ensures _ _ _ _ _ (rw c.new-budget.ensures at c.merge_slots.ensures)
    c.join_entries.ensures

pub overflow_sub-block : goal.overflow_sub-block
overflow_sub-block c = omega (arith, (pair_fits c.requires).deep)
