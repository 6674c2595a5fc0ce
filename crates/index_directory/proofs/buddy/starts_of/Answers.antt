-- `index_directory::buddy::starts_of` meets its contract.
use native.Mathlib.Omega.{arith}
use Rattle.index_directory.proofs.Buddies.{starts_small, begun}
use Rattle.index_directory.proofs.buddy.starts_of.Goals as goal

pub overflow_add-right : goal.overflow_add-right
overflow_add-right c =
    let a = c.args in
    let pre = c.requires in
    omega (arith, c.block_start-left.ensures, c.block_width.ensures, starts_small a.depth a.local_depth a.i pre.0 pre.1 pre.2)

pub returns : goal.returns
returns c =
    let a = c.args in
    begun a.depth a.local_depth a.i _ _ c.block_start-left.ensures c.block_width.ensures
