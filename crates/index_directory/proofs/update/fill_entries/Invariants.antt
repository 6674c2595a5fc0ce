-- `index_directory::update::fill_entries` meets its contract.
use mathlib.Core.Path.{◌≡◌}
use mathlib.Core.List.{[], ◌∷◌}
use Prim.Native.Nat.{ℕ, suc, ◌+◌, ◌-◌, ◌≤◌}
use lib.ListN.{length}
use Rattle.stores.specs.Lists.{each}
use Rattle.stores.specs.Store.{store}
use Rattle.stores.specs.Executed.{Executed}
use Rattle.index_directory.proofs.update.fill_entries.Given as goal

abbrev pub invariant-loop-t : goal.invariant-loop-t
invariant-loop-t l =
    (l.t ≤ l.count)
    × (l.budget.due ≡ l.initial.budget.due + l.t)
    × (length l.words ≡ length l.initial.words)
    × Executed (each (λ (i : ℕ). store (l.first + (l.count - suc i)) l.entry ∷ []) l.t) l.initial.budget l.initial.words l.budget l.words

abbrev pub decreases-loop-t : goal.decreases-loop-t
decreases-loop-t l = l.count - l.t
