-- `index_layout::entry::local_depth_of` meets its contract.
use borrow.Author.Rules.{rules}
use Rattle.index_rules.specs.Layout.{local_depth}
use Rattle.index_layout.proofs.entry.local_depth_of.Goals as goal

pub returns : goal.returns
unfolding local_depth
returns c = search rules
