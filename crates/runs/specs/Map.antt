-- Document 01, 'The plain table': the abstract map, and what it is told of each call.
use Rattle.std.specs.Prelude.{ℕ, Bool, true, false, [], ◌∷◌, eqb}
use Rattle.std.proofs.Math.Option.{Option, none, some}
use Rattle.stores.specs.Lists.{pick}
use Rattle.replies.specs.Replies.{Said, done, absent}

-- The abstract map (document 01: the plain table): for each key its value, or none.
abbrev pub Map : Type 0
Map = ℕ → Option ℕ

-- The map at the start: no key has a value.
unfoldable pub empty : Map
empty key = none

-- The map with v, a value or none, for the key, and as it was for every other.
unfoldable pub updated : Map → (key : ℕ) → Option ℕ → Map
updated m key v other = pick (eqb other key) v (m other)

-- What is told of a call: its kind, key and value, and nothing from the array.
pub data View : Type 0 where
  formats : View
  gets : (key : ℕ) → View
  puts : (key value : ℕ) → View
  removes : (key : ℕ) → View
  mends : View
  -- a call that is made of lookups, or does not come to the array: it tells the map nothing
  looks : View
  -- any other call: it tells the map nothing
  keeps : View

-- The map after a call, told whether its reply was done: a done put sets its key's value, a done remove takes it away, any
-- other reply and any other call leave the map as it was.
unfoldable pub fed : View → (is_done : Bool) → Map → Map
fed (puts key value) true m = updated m key (some value)
fed (puts key value) false m = m
fed (removes key) true m = updated m key none
fed (removes key) false m = m
fed formats d m = m
fed (gets key) d m = m
fed mends d m = m
fed looks d m = m
fed keeps d m = m

-- What the map says of a key: its value, or absent.
abbrev pub map_says : Option ℕ → Said
map_says none = absent
map_says (some v) = done (v ∷ [])
