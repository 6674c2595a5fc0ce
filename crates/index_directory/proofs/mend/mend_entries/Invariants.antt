-- `index_directory::mend::mend_entries` meets its contract.
use mathlib.Core.Path.{◌≡◌}
use Prim.Native.Nat.{◌+◌, ◌-◌, ◌≤◌}
use lib.ListN.{length}
use Rattle.stores.specs.Lists.{each}
use Rattle.stores.specs.Executed.{Executed}
use Rattle.index_rules.specs.Layout.{depth, segments}
use Rattle.index_rules.specs.Mend.{mend_entry}
use Rattle.index_directory.proofs.Blocks.{Passing}
use Rattle.index_directory.proofs.mend.mend_entries.Given as goal

abbrev pub invariant-loop-i : goal.invariant-loop-i
invariant-loop-i l =
    (l.i ≤ l.count)
    × (l.budget.due ≤ l.initial.budget.due + l.i)
    × (length l.words ≡ length l.initial.words)
    × Passing l.initial.words (depth l.initial.words) (segments l.initial.words) l.i l.block
    × Executed (each (mend_entry l.initial.words (depth l.initial.words)) l.i) l.initial.budget l.initial.words l.budget l.words

abbrev pub decreases-loop-i : goal.decreases-loop-i
decreases-loop-i l = l.count - l.i
