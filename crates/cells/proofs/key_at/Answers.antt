-- `cells::key_at` meets its contract.
use Rattle.cells.proofs.key_at.Goals as goal

pub returns : goal.returns
returns c = rw c.key_address.ensures
