-- What the calls look for: the first slot with a key, the slot for a put, a free segment.
use Rattle.std.specs.Prelude.{ℕ, ◌^◌, Bool, not, ◌&&◌, List, [], ◌∷◌, eqb}
use Rattle.std.proofs.Math.Option.{Option, none, some, or_else}
use Rattle.stores.specs.Lists.{each, first_in, any_below}
use Rattle.index_rules.specs.Layout.{depth, segments, entry_at, segment_of, key_at}
use Rattle.index_rules.specs.Keys.{live, window}

-- The first hit: the first slot of the key's probe window that holds the key, in the segment at `base`.
unfoldable pub hit : List ℕ → (base key : ℕ) → Option ℕ
hit a base key = first_in (λ j. eqb (key_at a base j) key) (window key)

-- Slot j of the segment at `base` is empty.
unfoldable pub is_empty : List ℕ → (base j : ℕ) → Bool
is_empty a base j = eqb (key_at a base j) 0

-- Slot j of the segment at `base`, of local depth L with these block bits, has a stale key.
unfoldable pub is_stale : List ℕ → (base L bits j : ℕ) → Bool
is_stale a base L bits j = not (is_empty a base j) && not (live L bits (key_at a base j))

-- The slot that a new key takes (document 02, wish 1; in document 01 the first usable slot): the first empty slot of the key's
-- probe window, and only where none is empty the first stale one.
unfoldable pub slot_for_new : List ℕ → (base L bits key : ℕ) → Option ℕ
slot_for_new a base L bits key = or_else (first_in (is_empty a base) (window key)) (first_in (is_stale a base L bits) (window key))

-- Where a put goes: to the slot that has the key, into the slot for a new key, or nowhere, since the window is full of other live keys.
pub data Choice : Type 0 where
  found : ℕ → Choice
  into : ℕ → Choice
  full : Choice

-- The choice from the first hit and the slot for a new key.
unfoldable pub chosen : Option ℕ → Option ℕ → Choice
chosen (some j) new = found j
chosen none (some j) = into j
chosen none none = full

-- The slot for a put of the key into the segment at `base`.
unfoldable pub choose : List ℕ → (base L bits key : ℕ) → Choice
choose a base L bits key = chosen (hit a base key) (slot_for_new a base L bits key)

-- Some entry of the present directory names segment s.
unfoldable pub named : List ℕ → ℕ → Bool
named a s = any_below (λ i. eqb (segment_of (entry_at a (depth a) i)) s) (2 ^ depth a)

-- The smallest segment number below S that no entry names.
unfoldable pub free_segment : List ℕ → Option ℕ
free_segment a = first_in (λ s. not (named a s)) (each (λ s. s ∷ []) (segments a))
