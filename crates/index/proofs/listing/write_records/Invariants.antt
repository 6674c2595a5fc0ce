-- `index::listing::write_records` meets its contract. The invariant: the records of the blocks passed are written.
use mathlib.Core.Path.{◌≡◌}
use lib.ListN.{length}
use Rattle.index_rules.specs.Listing.{words_of}
use Rattle.index_laws.proofs.BlockRecords.{records_to}
use Rattle.stores.specs.Written.{Written}
use Rattle.index.proofs.listing.write_records.Given as goal

abbrev pub invariant-loop-place : goal.invariant-loop-place
invariant-loop-place l =
    (l.place-iterator.words.now ≡ l.words)
    × (l.place-iterator.header ≡ l.fn.header)
    × (length l.list ≡ length l.initial.list)
    × Written (words_of (records_to l.words l.place-iterator.next)) 0 l.initial.list l.at l.list
