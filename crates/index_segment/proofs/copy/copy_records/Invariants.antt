-- `index_segment::copy::copy_records` meets its contract. The invariant: the stores of the slots so far are due.
use Prim.Native.Nat.{◌+◌, ◌*◌, ◌≤◌}
use mathlib.Core.Path.{◌≡◌}
use lib.ListN.{length}
use Rattle.stores.specs.Lists.{each}
use Rattle.stores.specs.Executed.{Executed}
use Rattle.index_segment.specs.Slot.{slot_copy}
use Rattle.index_segment.proofs.copy.copy_records.Given as goal

abbrev pub invariant-loop-slot : goal.invariant-loop-slot
invariant-loop-slot l =
    (length l.new_segment ≡ length l.initial.new_segment)
    × (l.budget.due ≤ l.initial.budget.due + 2 * l.slot)
    × Executed (each (slot_copy l.fn.old l.block) l.slot) l.initial.budget l.initial.new_segment l.budget l.new_segment
