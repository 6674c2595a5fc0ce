-- `index_segment::merge::merge_records` meets its contract. The invariant: the stores of the slots so far are due.
use Prim.Native.Nat.{◌+◌, ◌*◌, ◌≤◌}
use mathlib.Core.Path.{◌≡◌}
use lib.ListN.{length}
use Rattle.stores.specs.Lists.{each}
use Rattle.stores.specs.Executed.{Executed}
use Rattle.index_layout.specs.Blocks.{shared}
use Rattle.index_rules.specs.Merge.{merge_slot}
use Rattle.index_segment.proofs.merge.merge_records.Given as goal

abbrev pub invariant-loop-slot : goal.invariant-loop-slot
invariant-loop-slot l =
    (length l.segment ≡ length l.initial.segment)
    × (l.budget.due ≤ l.initial.budget.due + 2 * l.slot)
    × Executed (each (merge_slot l.fn.left 0 l.fn.right 0 l.joined.local_depth (shared l.joined)) l.slot) l.initial.budget l.initial.segment l.budget l.segment
