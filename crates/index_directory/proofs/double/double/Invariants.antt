-- `index_directory::double::double` meets its contract.
use mathlib.Core.Path.{◌≡◌}
use Prim.Native.Nat.{◌+◌, ◌≤◌}
use lib.ListN.{length}
use Rattle.stores.specs.Lists.{each}
use Rattle.stores.specs.Executed.{Executed}
use Rattle.index_directory.proofs.Doubles.{doubled_entry}
use Rattle.index_directory.proofs.double.double.Given as goal

abbrev pub invariant-loop-e : goal.invariant-loop-e
invariant-loop-e l =
    (l.e ≤ l.e-end)
    × (l.budget.due ≡ l.initial.budget.due + l.e)
    × (length l.words ≡ length l.initial.words)
    × Executed (each (doubled_entry l.initial.words) l.e) l.initial.budget l.initial.words l.budget l.words
