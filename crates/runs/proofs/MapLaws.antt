-- Laws of the map: another value for one key, and key 0, which has none.
use Prim.Native.Nat.{ℕ}
use mathlib.Core.Path.{◌≡◌, refl, sym, ◌∙◌}
use mathlib.Core.Bool.{Bool, true, false}
use mathlib.Core.Option.{Option, none, some}
use borrow.Author.Tests.{eq-eqb, ne_eqb}
use Rattle.runs.specs.Map.{Map, puts, removes, fed, updated}

pub updated_same : (m : Map) (key : ℕ) (v : Option ℕ) → updated m key v key ≡ v
unfolding updated
updated_same m key v = rw (eq-eqb key key refl)

pub updated_other : (m : Map) (key : ℕ) (v : Option ℕ) (other : ℕ) → (other ≡ key → ⊥) → updated m key v other ≡ m other
unfolding updated
updated_other m key v other n = rw (ne_eqb other key n)

-- ---- A map with nothing for key 0 has nothing for it after a call with another key

module _ (m : Map) (zero_none : m 0 ≡ none) (key : ℕ) where
  zero_after : (v : Option ℕ) → (key ≡ 0 → ⊥) → updated m key v 0 ≡ none
  zero_after v nonzero = updated_other m key v 0 (λ e. nonzero (sym e)) ∙ zero_none

  pub put_none : (value : ℕ) → (key ≡ 0 → ⊥) → (is_done : Bool) → fed (puts key value) is_done m 0 ≡ none
  unfolding fed
  put_none value nonzero true = zero_after (some value) nonzero
  put_none value nonzero false = zero_none

  pub remove_none : (key ≡ 0 → ⊥) → (is_done : Bool) → fed (removes key) is_done m 0 ≡ none
  unfolding fed
  remove_none nonzero true = zero_after none nonzero
  remove_none nonzero false = zero_none
