-- `index_segment::listing::write_slot` meets its contract.
use mathlib.Core.Path.{sym, ◌∙◌}
use Rattle.index_layout.specs.Blocks.{shared}
use Rattle.index_segment.proofs.Records.{written_live, written_stale}
use Rattle.index_segment.proofs.listing.write_slot.Goals as goal

pub returns-then-is_live : goal.returns-then-is_live
returns-then-is_live c =
    let u = c.args in
    let L = u.block.local_depth in
    let lives = sym c.is_live.ensures ∙ c.if-is_live.true in
    λ a slot h. written_live a L (shared u.block) slot u.held h u.at u.list.now lives (c.requires (sym c.is_live.ensures ∙ c.if-is_live.true))

pub returns : goal.returns
returns c =
    let u = c.args in
    let L = u.block.local_depth in
    let stale = sym c.is_live.ensures ∙ c.if-is_live.false in
    λ a slot h. written_stale a L (shared u.block) slot u.held h u.at u.list.now stale
