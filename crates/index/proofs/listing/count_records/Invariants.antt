-- `index::listing::count_records` meets its contract. The invariant: the count is that of the records of the blocks passed.
use mathlib.Core.Path.{◌≡◌}
use Prim.Native.Nat.{◌*◌, ◌≤◌}
use lib.ListN.{length}
use Rattle.index_laws.proofs.BlockRecords.{records_to}
use Rattle.index.proofs.listing.count_records.Given as goal

abbrev pub invariant-loop-place : goal.invariant-loop-place
invariant-loop-place l =
    (l.place-iterator.words.now ≡ l.words)
    × (l.place-iterator.header ≡ l.fn.header)
    × (l.total ≤ 64 * l.place-iterator.next)
    × (l.total ≡ length (records_to l.words l.place-iterator.next))
