-- `index_layout::entry::block_start` meets its contract.
use native.Mathlib.Omega.{arith}
use Rattle.index_laws.proofs.Keys.{width_pos}
use Rattle.index_layout.proofs.Entries.{block_start_mask}
use Rattle.index_layout.proofs.entry.block_start.Goals as goal

pub overflow_sub-result : goal.overflow_sub-result
overflow_sub-result c = omega (arith, c.block_width-width.ensures, width_pos c.args.depth c.args.local_depth)

pub returns : goal.returns
returns c = block_start_mask _ _ _ _ c.block_width-width.ensures
