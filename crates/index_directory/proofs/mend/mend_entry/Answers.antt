-- `index_directory::mend::mend_entry` meets its contract.
use borrow.Author.Tests.{eq-eqb}
use Rattle.stores.proofs.Stores.{executed_none}
use Rattle.index_directory.proofs.mend.mend_entry.Goals as goal

pub returns-else-words-at : goal.returns-else-words-at
returns-else-words-at c = rw (eq-eqb _ _ c.if-words-at.false) (executed_none _ _)
