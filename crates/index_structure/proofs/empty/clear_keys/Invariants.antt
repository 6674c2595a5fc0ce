-- `index_structure::empty::clear_keys` meets its contract.
use mathlib.Core.Path.{◌≡◌}
use mathlib.Core.List.{List, [], ◌∷◌}
use Prim.Native.Nat.{ℕ, ◌+◌, ◌-◌, ◌≤◌}
use lib.ListN.{length}
use Rattle.stores.specs.Lists.{each}
use Rattle.stores.specs.Store.{Store, store}
use Rattle.stores.specs.Executed.{Executed}
use Rattle.index_rules.specs.Layout.{key_address}
use Rattle.index_structure.proofs.empty.clear_keys.Given as goal

-- The store for one slot.
abbrev cleared : (base j : ℕ) → List Store
cleared base j = store (key_address base j) 0 ∷ []

abbrev pub invariant-loop-slot : goal.invariant-loop-slot
invariant-loop-slot l =
    (l.slot ≤ 64)
    × (l.budget.due ≡ l.initial.budget.due + l.slot)
    × (length l.words ≡ length l.initial.words)
    × Executed (each (cleared l.base) l.slot) l.initial.budget l.initial.words l.budget l.words

abbrev pub decreases-loop-slot : goal.decreases-loop-slot
decreases-loop-slot l = 64 - l.slot
