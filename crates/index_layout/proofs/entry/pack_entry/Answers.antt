-- `index_layout::entry::pack_entry` meets its contract.
use borrow.Author.Rules.{rules}
use Rattle.index_rules.specs.Layout.{entry}
use Rattle.index_layout.proofs.entry.pack_entry.Goals as goal

pub returns : goal.returns
unfolding entry
returns c = search rules
