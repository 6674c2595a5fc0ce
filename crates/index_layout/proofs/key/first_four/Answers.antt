-- `index_layout::key::first_four` meets its contract.
use Rattle.index_laws.proofs.Keys.{first_four}
use Rattle.index_layout.proofs.key.first_four.Goals as goal

pub returns : goal.returns
returns c = first_four _
