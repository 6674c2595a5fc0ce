-- `cells::value_at` meets its contract.
use Rattle.cells.proofs.value_at.Goals as goal

pub returns : goal.returns
returns c = rw c.value_address.ensures
