-- The stores of a format.
use mathlib.Core.Path.{◌≡◌}
use mathlib.Core.List.{List, [], ◌∷◌}
use Prim.Native.Nat.{ℕ}
use Rattle.stores.specs.Store.{store}
use Rattle.stores.specs.declared.Budget.{Budget}
use Rattle.stores.specs.Executed.{Executed}
use Rattle.stores.proofs.Stores.{executed_append}
use Rattle.index_rules.specs.Layout.{header, segment_address}
use Rattle.index_rules.specs.Format.{clearing, format_stores}

-- The stores of a format, one phase behind the other.
pub format_stores_holds : (D S : ℕ) (x : Budget) (a : List ℕ) (n₁ : Budget) (a₁ : List ℕ) (n₂ : Budget) (a₂ : List ℕ) (base : ℕ) (n₃ : Budget) (a₃ : List ℕ)
    (w : ℕ) (n₄ : Budget) (a₄ : List ℕ)
    → base ≡ segment_address D 0 → w ≡ header 0 D S
    → Executed (store 0 0 ∷ []) x a n₁ a₁
    → Executed (store 1 0 ∷ []) n₁ a₁ n₂ a₂
    → Executed (clearing base) n₂ a₂ n₃ a₃
    → Executed (store 0 w ∷ []) n₃ a₃ n₄ a₄
    → Executed (format_stores D S) x a n₄ a₄
unfolding format_stores
format_stores_holds D S x a n₁ a₁ n₂ a₂ base n₃ a₃ w n₄ a₄ b v e₁ e₂ e₃ e₄ =
    executed_append (store 0 0 ∷ []) _ x a n₁ a₁ n₄ a₄ e₁
    (executed_append (store 1 0 ∷ []) _ n₁ a₁ n₂ a₂ n₄ a₄ e₂
    (executed_append (clearing (segment_address D 0)) (store 0 (header 0 D S) ∷ []) n₂ a₂ n₃ a₃ n₄ a₄
    (rw b at e₃) (rw v at e₄)))
