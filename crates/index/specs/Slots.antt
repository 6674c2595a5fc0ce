-- The plans of a put and of a remove at a slot of the key's segment.
use Rattle.std.specs.Prelude.{ℕ, [], ◌∷◌}
use Rattle.stores.specs.Store.{store}
use Rattle.stores.specs.Plan.{Plan}
use Rattle.replies.specs.Replies.{Said, done}
use Rattle.index_rules.specs.Layout.{key_address, value_address}
use Rattle.index_layout.specs.declared.place.Place.{Place}

-- The value alone, at slot j.
abbrev pub value_put : Place → (value j : ℕ) → Plan Said
value_put p value j = record { due = store (value_address p.base j) value ∷ []; reply = done [] }

-- Value, then key.
abbrev pub record_put : Place → (value j : ℕ) → Plan Said
record_put p value j =
    record { due = store (value_address p.base j) value ∷ store (key_address p.base j) p.key ∷ []; reply = done [] }

-- The key cleared.
abbrev pub key_removed : Place → (j : ℕ) → Plan Said
key_removed p j = record { due = store (key_address p.base j) 0 ∷ []; reply = done [] }
