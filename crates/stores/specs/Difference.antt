-- How two arrays differ, and where the next store goes.
use Rattle.std.specs.Prelude.{ℕ, zero, suc, ◌≡◌, List, [], ◌∷◌, length}
use Rattle.std.proofs.Math.Option.{Option, none, some}
use Rattle.stores.specs.Store.{word, Store}

-- Two arrays have the same length, and the same word at every address but this one.
pub record SameBut (at : ℕ) (x y : List ℕ) : Type 0 where
  pub lengths : length x ≡ length y
  pub words : (i : ℕ) → (i ≡ at → ⊥) → word x i ≡ word y i

-- Two arrays differ at most in the word at this address; where no address is given, they are the same.
abbrev pub DifferAt : Option ℕ → (x y : List ℕ) → Type 0
DifferAt none x y = x ≡ y
DifferAt (some at) x y = SameBut at x y

-- The address of store number n + 1 of a list, which follows the first n; none where the list has no more than n.
unfoldable pub address_behind : (n : ℕ) → List Store → Option ℕ
address_behind n [] = none
address_behind zero (s ∷ ss) = some s.at
address_behind (suc n) (s ∷ ss) = address_behind n ss
