-- What the probe window of a key holds in a segment, and how changes of the segment's slots change it.
use mathlib.Core.Path.{◌≡◌, refl, sym, ap, ◌∙◌}
use mathlib.Core.List.{List, Memᴰ}
use mathlib.Core.Option.{Option, none, some}
use Prim.Native.Nat.{ℕ, ◌<◌}
use lib.ListN.{length, set}
use Rattle.stores.proofs.Tests.{by_equal}
use Rattle.stores.proofs.Stores.{word_set_same}
use Rattle.index_rules.specs.Layout.{key_address, value_address, key_at, value_at}
use Rattle.index_rules.specs.Keys.{window}
use Rattle.index_rules.specs.Slots.{hit}
use Rattle.index_rules.specs.Get.{value_at_hit}
use Rattle.index_laws.proofs.Slots.{hit_none, hit_window, hit_key, key_after_value, value_after_value, value_after_key, key_after_key, only_after_key}
use Rattle.runs.specs.Map.{map_says}

-- Exactly one slot of the key's probe window, in the segment at `base`, has the key, and it has the value v.
pub record HoldsAt (v : ℕ) (a : List ℕ) (base key : ℕ) : Type 0 where
  pub slot : ℕ
  pub in_window : Memᴰ slot (window key)
  pub has_key : key_at a base slot ≡ key
  pub has_value : value_at a base slot ≡ v
  pub only : (j : ℕ) → Memᴰ j (window key) → key_at a base j ≡ key → j ≡ slot

-- The key's probe window, in the segment at `base`, holds what the map has for the key: at exactly one slot, or nowhere.
abbrev pub Holds : Option ℕ → List ℕ → (base key : ℕ) → Type 0
Holds none a base key = (j : ℕ) → Memᴰ j (window key) → key_at a base j ≡ key → ⊥
Holds (some v) a base key = HoldsAt v a base key

-- ---- The search for the key

-- Where a slot of the key's window has the key, the map has the slot's value.
pub holds_value : (m : Option ℕ) (a : List ℕ) (base key j : ℕ) → Holds m a base key → Memᴰ j (window key) → key_at a base j ≡ key
    → m ≡ some (value_at a base j)
holds_value none a base key j h w e = absurd (h j w e)
holds_value (some v) a base key j h w e = ap some (sym h.has_value) ∙ ap (λ (k : ℕ). some (value_at a base k)) (sym (h.only j w e))

-- No hit: the map has none.
pub hit_absent : (m : Option ℕ) (a : List ℕ) (base key : ℕ) → Holds m a base key → hit a base key ≡ none → m ≡ none
hit_absent none a base key h e = refl
hit_absent (some v) a base key h e = absurd (hit_none a base key e h.slot h.in_window h.has_key)

-- A hit is the only slot with the key.
pub hit_only : (m : Option ℕ) (a : List ℕ) (base key j : ℕ) → Holds m a base key → hit a base key ≡ some j
    → (k : ℕ) → Memᴰ k (window key) → key_at a base k ≡ key → k ≡ j
hit_only none a base key j h e k w q = absurd (h k w q)
hit_only (some v) a base key j h e k w q =
    h.only k w q ∙ sym (h.only j (hit_window a base key j e) (hit_key a base key j e))

-- What a get finds is what the map says.
pub holds_found : (m : Option ℕ) (a : List ℕ) (base key : ℕ) → Holds m a base key → value_at_hit a base (hit a base key) ≡ map_says m
unfolding value_at_hit
holds_found m a base key h = go (hit a base key) refl
  where
    go : (r : Option ℕ) → hit a base key ≡ r → value_at_hit a base r ≡ map_says m
    go none e = rw (hit_absent m a base key h e)
    go (some j) e = rw (holds_value m a base key j h (hit_window a base key j e) (hit_key a base key j e))

-- ---- Changes of slots

-- A window in which the slots with the key, and their values, are the same holds the same.
pub holds_same : (m : Option ℕ) (a : List ℕ) (base : ℕ) (b : List ℕ) (base' key : ℕ)
    → ((j : ℕ) → Memᴰ j (window key) → key_at b base' j ≡ key → key_at a base j ≡ key)
    → ((j : ℕ) → Memᴰ j (window key) → key_at a base j ≡ key → (key_at b base' j ≡ key) × (value_at b base' j ≡ value_at a base j))
    → Holds m a base key
    → Holds m b base' key
holds_same none a base b base' key back forth h = λ j w q. h j w (back j w q)
holds_same (some v) a base b base' key back forth h =
    let at = forth h.slot h.in_window h.has_key in
    record {
      slot = h.slot;
      in_window = h.in_window;
      has_key = at.0;
      has_value = at.1 ∙ h.has_value;
      only = λ j w q. h.only j w (back j w q);
    }

-- The new value stored at the hit.
pub holds_new_value : (m : Option ℕ) (a : List ℕ) (base key j v : ℕ) → value_address base j < length a → Holds m a base key
    → hit a base key ≡ some j
    → Holds (some v) (set a (value_address base j) v) base key
holds_new_value m a base key j v inside h e =
    record {
      slot = j;
      in_window = hit_window a base key j e;
      has_key = key_after_value a base j v j ∙ hit_key a base key j e;
      has_value = word_set_same a (value_address base j) v inside;
      only = λ k w q. hit_only m a base key j h e k w (sym (key_after_value a base j v k) ∙ q);
    }

-- The key stored into slot j, which has the value v already, where the window did not have the key.
pub holds_new_key : (a : List ℕ) (base key j v : ℕ) → key_address base j < length a → Memᴰ j (window key)
    → Holds none a base key
    → value_at a base j ≡ v
    → Holds (some v) (set a (key_address base j) key) base key
holds_new_key a base key j v inside w h q =
    record {
      slot = j;
      in_window = w;
      has_key = word_set_same a (key_address base j) key inside;
      has_value = value_after_key a base j key j ∙ q;
      only = only_after_key a base key j h;
    }

-- The key word at the hit cleared.
pub holds_removed : (m : Option ℕ) (a : List ℕ) (base key j : ℕ) → (key ≡ 0 → ⊥) → key_address base j < length a → Holds m a base key
    → hit a base key ≡ some j
    → Holds none (set a (key_address base j) 0) base key
holds_removed m a base key j nonzero inside h e k w q =
    by_equal k j
    (λ t. nonzero (sym q ∙ rw t (word_set_same a (key_address base j) 0 inside)))
    (λ unlike. unlike (hit_only m a base key j h e k w (sym (key_after_key a base j 0 k unlike) ∙ q)))

-- A change of slot j, whose key is neither before nor after the change the key asked for, is not seen.
pub holds_other_value : (m : Option ℕ) (a : List ℕ) (base key j v : ℕ) → (key_at a base j ≡ key → ⊥) → Holds m a base key
    → Holds m (set a (value_address base j) v) base key
holds_other_value m a base key j v unlike h =
    holds_same m a base (set a (value_address base j) v) base key
    (λ k w q. sym (key_after_value a base j v k) ∙ q)
    (λ k w q. (
      key_after_value a base j v k ∙ q,
      value_after_value a base j v k (λ e. unlike (rw e at q)),
    ))
    h

pub holds_other_key : (m : Option ℕ) (a : List ℕ) (base key j x : ℕ) → key_address base j < length a
    → (key_at a base j ≡ key → ⊥)
    → (x ≡ key → ⊥)
    → Holds m a base key
    → Holds m (set a (key_address base j) x) base key
holds_other_key m a base key j x inside before after h =
    holds_same m a base (set a (key_address base j) x) base key back forth h
  where
    back : (k : ℕ) → Memᴰ k (window key) → key_at (set a (key_address base j) x) base k ≡ key → key_at a base k ≡ key
    back k w q =
        by_equal k j
        (λ t. absurd (after (sym (word_set_same a (key_address base j) x inside) ∙ (rw t at q))))
        (λ t. sym (key_after_key a base j x k t) ∙ q)

    forth : (k : ℕ) → Memᴰ k (window key) → key_at a base k ≡ key
        → (key_at (set a (key_address base j) x) base k ≡ key) × (value_at (set a (key_address base j) x) base k ≡ value_at a base k)
    forth k w q =
        let unlike : k ≡ j → ⊥ = λ e. before (rw e at q) in
        (key_after_key a base j x k unlike ∙ q, value_after_key a base j x k)
