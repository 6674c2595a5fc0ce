-- `index::slot::find_at` meets its contract.
use mathlib.Core.Path.{◌∙◌}
use Rattle.index_segment.proofs.Parts.{span, part_hit}
use Rattle.index.proofs.slot.find_at.Goals as goal

pub returns : goal.returns
returns c =
    let a = c.args in
    rw (span a.base) at c.find.ensures ∙ part_hit a.words.now a.base c.requires a.key
