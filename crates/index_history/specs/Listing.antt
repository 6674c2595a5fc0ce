-- What a done list of a store in a run has, against the map.
use Rattle.std.specs.Prelude.{ℕ, suc, ◌≡◌, eqb}
use mathlib.Core.List.{List, [], ◌∷◌, Memᴰ}
use Rattle.std.proofs.Math.Option.{none, some}
use Rattle.stores.specs.Lists.{pick}
use Rattle.index_rules.specs.Listing.{Record}
use Rattle.runs.specs.Map.{Map}

-- How many of the records have the key.
unfoldable pub occurrences : (key : ℕ) → List Record → ℕ
occurrences key [] = 0
occurrences key (r ∷ rs) = pick (eqb r.key key) (suc (occurrences key rs)) (occurrences key rs)

-- The records are the map's: each key that has a value exactly once, with its value, and no other.
pub record ListsMap (m : Map) (rs : List Record) : Type 0 where
  pub right : (r : Record) → Memᴰ r rs → m r.key ≡ some r.value
  pub once : (key value : ℕ) → m key ≡ some value → occurrences key rs ≡ 1
  pub no_other : (key : ℕ) → m key ≡ none → occurrences key rs ≡ 0
