-- Cells of a key word and a value word each, in a row from the word `base` on. A cell is a number in its row, and the cells in which a
-- key may stand are a list of such numbers: in the index the slots of its probe window, in the segment at `base`.
use Rattle.std.specs.Prelude.{ℕ, ◌+◌, ◌*◌, Bool, List, [], ◌∷◌, eqb}
use Rattle.std.proofs.Math.Option.{Option, none, some}
use Rattle.stores.specs.Lists.{first_in}
use Rattle.stores.specs.Store.{Store, word, store}
use Rattle.replies.specs.Replies.{Said, done, absent}

-- ---- Where a cell stands

-- The address of the key of cell j in the row at `base`; 0 there means that the cell is empty.
abbrev pub key_address : (base j : ℕ) → ℕ
key_address base j = base + 2 * j

-- The address of the value of cell j: any word.
abbrev pub value_address : (base j : ℕ) → ℕ
value_address base j = base + (2 * j + 1)

-- The key of cell j in the row at `base`.
abbrev pub key_at : List ℕ → (base j : ℕ) → ℕ
key_at a base j = word a (key_address base j)

-- The value of cell j in the row at `base`.
abbrev pub value_at : List ℕ → (base j : ℕ) → ℕ
value_at a base j = word a (value_address base j)

-- ---- The search

-- The first hit: the first of the cells that has the key.
unfoldable pub first_hit : List ℕ → (base : ℕ) → (cells : List ℕ) → (key : ℕ) → Option ℕ
first_hit a base cells key = first_in (λ j. eqb (key_at a base j) key) cells

-- Cell j of the row at `base` is empty.
unfoldable pub is_empty : List ℕ → (base j : ℕ) → Bool
is_empty a base j = eqb (key_at a base j) 0

-- The first of the cells that is empty.
abbrev pub first_empty : List ℕ → (base : ℕ) → (cells : List ℕ) → Option ℕ
first_empty a base cells = first_in (is_empty a base) cells

-- The value at a hit in the row at `base`, or absent.
unfoldable pub value_at_hit : List ℕ → (base : ℕ) → Option ℕ → Said
value_at_hit a base none = absent
value_at_hit a base (some j) = done (value_at a base j ∷ [])

-- ---- The stores into cell j of the row at `base`

-- A new value.
abbrev pub value_stored : (base j value : ℕ) → List Store
value_stored base j value = store (value_address base j) value ∷ []

-- A new record: value, then key. A cut between the two shows no key with another's value.
abbrev pub record_stored : (base j key value : ℕ) → List Store
record_stored base j key value = store (value_address base j) value ∷ store (key_address base j) key ∷ []

-- The key cleared.
abbrev pub key_cleared : (base j : ℕ) → List Store
key_cleared base j = store (key_address base j) 0 ∷ []
