-- `index_segment::merge::some_both_live` meets its contract. The invariant: no slot so far is live on both sides.
use mathlib.Core.Path.{◌≡◌}
use mathlib.Core.Bool.{false}
use lib.ListN.{length}
use Rattle.stores.specs.Lists.{any_below}
use Rattle.index_segment.proofs.Merges.{both_at}
use Rattle.index_segment.proofs.merge.some_both_live.Given as goal

abbrev pub invariant-loop-left_slot : goal.invariant-loop-left_slot
invariant-loop-left_slot l = any_below (both_at l.left l.right l.joined) (length l.yielded) ≡ false
