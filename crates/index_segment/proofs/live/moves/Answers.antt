-- `index_segment::live::moves` meets its contract.
use mathlib.Core.Path.{sym, ◌∙◌}
use Rattle.index_laws.proofs.Halving.{moves_live}
use Rattle.index_layout.specs.Blocks.{shared}
use Rattle.index_segment.proofs.live.moves.Goals as goal

pub returns : goal.returns
returns c =
    let a = c.args in
    λ s j e. c.is_live_in_half.ensures ∙ rw (← e) (sym (moves_live s 0 a.block.local_depth (shared a.block) j))
