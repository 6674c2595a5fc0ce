-- `cells::clear_key` meets its contract.
use Rattle.cells.proofs.clear_key.Goals as goal

pub returns : goal.returns
returns c = rw c.key_address.ensures at c.store.ensures
