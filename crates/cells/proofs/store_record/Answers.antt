-- `cells::store_record` meets its contract.
use Prim.Native.Nat.{ℕ}
use mathlib.Core.Path.{◌≡◌}
use mathlib.Core.List.{List, [], ◌∷◌}
use Rattle.stores.specs.Store.{store}
use Rattle.stores.specs.declared.Budget.{Budget}
use Rattle.stores.specs.Executed.{Executed}
use Rattle.stores.proofs.Stores.{executed_append}
use Rattle.cells.proofs.store_record.Goals as goal

-- A store at an address that is this one.
there : {at this v : ℕ} {b : Budget} {a : List ℕ} {b' : Budget} {a' : List ℕ} → at ≡ this → Executed (store at v ∷ []) b a b' a'
    → Executed (store this v ∷ []) b a b' a'
there e x = rw e at x

pub returns : goal.returns
returns c =
    executed_append _ _ _ _ _ _ _ _ (there c.value_address.ensures c.store.ensures) (there c.key_address.ensures c.store-2.ensures)
