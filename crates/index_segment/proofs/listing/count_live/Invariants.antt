-- `index_segment::listing::count_live` meets its contract. The invariant: the count is that of the slots so far.
use mathlib.Core.Path.{◌≡◌}
use lib.ListN.{length}
use Rattle.index_layout.specs.Blocks.{shared}
use Rattle.index_segment.proofs.Records.{records_below}
use Rattle.index_segment.proofs.listing.count_live.Given as goal

abbrev pub invariant-loop-key : goal.invariant-loop-key
invariant-loop-key l = l.count ≡ length (records_below l.segment l.block.local_depth (shared l.block) l.key-index)
