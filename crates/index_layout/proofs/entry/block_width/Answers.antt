-- `index_layout::entry::block_width` meets its contract.
use mathlib.Core.Path.{sym, ◌∙◌}
use Rattle.index_laws.proofs.Keys.{width_pow}
use Rattle.index_layout.proofs.entry.block_width.Goals as goal

pub returns : goal.returns
returns c = c.pow2.ensures ∙ sym (width_pow _ _)
