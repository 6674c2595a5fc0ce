-- `index_directory::mend::next_block` meets its contract.
use native.Mathlib.Omega.{arith}
use Rattle.index_laws.proofs.Keys.{width_le}
use Rattle.index_directory.proofs.mend.next_block.Goals as goal

pub overflow_add-end : goal.overflow_add-end
overflow_add-end c =
    let w = width_le c.args.depth c.local_depth_of.result (omega arith) in
    omega (arith, c.block_width.ensures)
