-- `index_segment::copy::copy_slot` meets its contract.
use mathlib.Core.Path.{sym, ◌∙◌}
use Rattle.index_layout.specs.Blocks.{shared}
use Rattle.index_segment.proofs.Copies.{copy_moved, copy_cleared}
use Rattle.index_segment.proofs.copy.copy_slot.Goals as goal

pub returns-then-moves : goal.returns-then-moves
returns-then-moves c =
    let u = c.args in
    λ a h.
    rw (copy_moved a u.block.local_depth (shared u.block) u.slot u.held h (sym (c.moves.ensures a u.slot h.key_there) ∙ c.if-moves.true))
    c.store_record.ensures

pub returns-else-moves : goal.returns-else-moves
returns-else-moves c =
    let u = c.args in
    λ a h.
    rw (copy_cleared a u.block.local_depth (shared u.block) u.slot u.held (sym (c.moves.ensures a u.slot h.key_there) ∙ c.if-moves.false))
    c.clear_key.ensures
