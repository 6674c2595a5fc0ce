-- `index_layout::header::pack_header` meets its contract.
use native.Mathlib.Omega.{arith}
use Rattle.index_rules.specs.Layout.{header}
use Rattle.index_layout.proofs.header.pack_header.Goals as goal

pub returns : goal.returns
unfolding header
returns c = omega arith
