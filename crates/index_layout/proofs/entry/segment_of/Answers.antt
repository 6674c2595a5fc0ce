-- `index_layout::entry::segment_of` meets its contract.
use borrow.Author.Rules.{rules}
use Rattle.index_rules.specs.Layout.{segment_of}
use Rattle.index_layout.proofs.entry.segment_of.Goals as goal

pub returns : goal.returns
unfolding segment_of
returns c = search rules
