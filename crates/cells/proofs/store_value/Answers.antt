-- `cells::store_value` meets its contract.
use Rattle.cells.proofs.store_value.Goals as goal

pub returns : goal.returns
returns c = rw c.value_address.ensures at c.store.ensures
