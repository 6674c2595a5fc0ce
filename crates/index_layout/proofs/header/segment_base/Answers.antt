-- `index_layout::header::segment_base` meets its contract.
use native.Mathlib.Numerals.{add-one}
use Rattle.index_rules.specs.Layout.{segment_address}
use Rattle.index_layout.proofs.header.segment_base.Goals as goal

pub returns : goal.returns
unfolding segment_address
returns c = rw (c.pow2.ensures, add-one)
