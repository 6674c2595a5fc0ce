-- `index_segment::live::is_live_in_half` meets its contract.
use mathlib.Core.Path.{◌≡◌, refl, sym, ◌∙◌}
use mathlib.Core.Bool.{true, false}
use Rattle.index_rules.specs.Keys.{live}
use Rattle.index_laws.proofs.Keys.{bit_shift, live_split}
use Rattle.index_layout.specs.Blocks.{shared}
use Rattle.index_segment.proofs.live.is_live_in_half.Goals as goal

pub returns-then-is_live_by : goal.returns-then-is_live_by
returns-then-is_live_by c =
    let a = c.args in
    let L = a.block.local_depth in
    let lives : live L (shared a.block) a.key ≡ true = sym c.is_live_by.ensures ∙ c.if-is_live_by.true in
    rw (
      live_split L (shared a.block) a.half a.key c.requires,
      lives,
      bit_shift a.key L,
      ← c.open_key-opened.ensures.1,
    ) refl

pub returns-else-is_live_by : goal.returns-else-is_live_by
returns-else-is_live_by c =
    let a = c.args in
    let L = a.block.local_depth in
    let stale : live L (shared a.block) a.key ≡ false = sym c.is_live_by.ensures ∙ c.if-is_live_by.false in
    rw (live_split L (shared a.block) a.half a.key c.requires, stale) c.if-is_live_by.false
