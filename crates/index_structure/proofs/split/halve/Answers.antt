-- `index_structure::split::halve` meets its contract.
use Rattle.index_laws.proofs.Keys.{first_lt}
use Rattle.index_structure.proofs.Splits.{update_ready, halve_done}
use borrow.Author.Rules.{rules}
use Rattle.index_structure.proofs.split.halve.Goals as goal

pub block_start-start-requires : goal.block_start-start-requires
block_start-start-requires c = (search rules, search rules, rw c.directory_index.ensures (first_lt _ _))

pub update_entries-requires : goal.update_entries-requires
update_entries-requires c =
    let start = rw c.directory_index.ensures at c.block_start-start.ensures in
    update_ready c.requires.0 _ _ c.segment_base-base.ensures _ _ _ c.copy_records.ensures _ start c.requires.1

pub returns : goal.returns
returns c =
    let start = rw c.directory_index.ensures at c.block_start-start.ensures in
    halve_done c.requires.0 _ _ c.segment_base-base.ensures _ _ _ c.copy_records.ensures _ _ _ start
    c.update_entries.ensures
