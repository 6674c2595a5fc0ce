-- `index_segment::listing::write_live` meets its contract. The invariant: the records of the slots so far are written.
use mathlib.Core.Path.{◌≡◌}
use lib.ListN.{length}
use Rattle.index_layout.specs.Blocks.{shared}
use Rattle.index_rules.specs.Listing.{words_of}
use Rattle.stores.specs.Written.{Written}
use Rattle.index_segment.proofs.Records.{records_below}
use Rattle.index_segment.proofs.listing.write_live.Given as goal

abbrev pub invariant-loop-key : goal.invariant-loop-key
invariant-loop-key l =
    (length l.list ≡ length l.initial.list)
    × Written (words_of (records_below l.segment l.block.local_depth (shared l.block) l.key-index)) l.at l.initial.list l.next l.list
