-- `index_directory::update::update_entries` meets its contract.
use native.Mathlib.Omega.{arith}
use Rattle.stores.proofs.Loops.{executed_length}
use Rattle.index_directory.proofs.Updates.{length_filling, halves_fit, update_done}
use Rattle.index_directory.proofs.update.update_entries.Goals as goal

pub fill_entries-requires : goal.fill_entries-requires
fill_entries-requires c =
    let h = halves_fit c.requires.0 in (
      omega (arith, c.pow2.ensures, c.block_width-half.ensures),
      omega (arith, c.block_width-half.ensures, c.requires.1),
    )

pub fill_entries-requires-2 : goal.fill_entries-requires-2
fill_entries-requires-2 c =
    let h = halves_fit c.requires.0 in
    let p = c.fill_entries.ensures in
    let kept = executed_length p in
    let w = c.block_width-half.ensures in (
      omega (arith, c.pow2.ensures),
      omega (arith, c.requires.1, rw length_filling at p.count),
    )

pub returns : goal.returns
returns c =
    update_done
    c.requires.0 _ _ _ _ _ _ _ _ _
    c.pow2.ensures
    c.block_width-half.ensures
    c.pack_entry-left_entry.ensures
    c.pack_entry-right_entry.ensures
    c.fill_entries.ensures c.fill_entries-2.ensures

pub overflow_add-right : goal.overflow_add-right
overflow_add-right c = let h = halves_fit c.requires.0 in omega arith
