-- `index_directory::join::join_entries` meets its contract. The invariant: the stores so far are due.
use Prim.Native.Nat.{ℕ, ◌+◌, ◌-◌, ◌≤◌}
use mathlib.Core.Path.{◌≡◌}
use mathlib.Core.List.{[], ◌∷◌}
use lib.ListN.{length}
use Rattle.stores.specs.Lists.{each}
use Rattle.stores.specs.Store.{store}
use Rattle.stores.specs.Executed.{Executed}
use Rattle.index_directory.proofs.join.join_entries.Given as goal

abbrev pub invariant-loop-t : goal.invariant-loop-t
invariant-loop-t l =
    (l.t ≤ l.count)
    × (l.budget.due ≡ l.initial.budget.due + l.t)
    × (length l.words ≡ length l.initial.words)
    × Executed (each (λ (i : ℕ). store (l.first + i) l.entry ∷ []) l.t) l.initial.budget l.initial.words l.budget l.words

abbrev pub decreases-loop-t : goal.decreases-loop-t
decreases-loop-t l = l.count - l.t
