-- What some cells hold for a key, and how stores into a cell change it.
use mathlib.Core.Path.{◌≡◌, refl, sym, ap, ◌∙◌}
use mathlib.Core.List.{List, [], ◌∷◌, Memᴰ}
use mathlib.Core.Option.{Option, none, some}
use Prim.Native.Nat.{ℕ, ◌<◌}
use lib.ListN.{length, set}
use Rattle.stores.proofs.Tests.{by_equal}
use Rattle.stores.proofs.Stores.{word_set_same}
use Rattle.replies.specs.Replies.{done, absent}
use Rattle.cells.specs.Cells.{key_address, value_address, key_at, value_at, first_hit, value_at_hit}
use Rattle.cells.proofs.Cells.{hit_none, hit_among, hit_key, key_after_value, value_after_value, value_after_key, key_after_key, only_after_key}

-- Exactly one of the cells, in the row at `base`, has the key, and it has the value v.
pub record HoldsAt (v : ℕ) (a : List ℕ) (base : ℕ) (cells : List ℕ) (key : ℕ) : Type 0 where
  pub cell : ℕ
  pub among : Memᴰ cell cells
  pub has_key : key_at a base cell ≡ key
  pub has_value : value_at a base cell ≡ v
  pub only : (j : ℕ) → Memᴰ j cells → key_at a base j ≡ key → j ≡ cell

-- The cells hold this for the key: a value, at exactly one of them; or nothing, at none.
abbrev pub Holds : Option ℕ → List ℕ → (base : ℕ) → (cells : List ℕ) → (key : ℕ) → Type 0
Holds none a base cells key = (j : ℕ) → Memᴰ j cells → key_at a base j ≡ key → ⊥
Holds (some v) a base cells key = HoldsAt v a base cells key

-- ---- The search for the key

-- Where a cell has the key, the cells hold its value.
pub holds_value : (m : Option ℕ) (a : List ℕ) (base : ℕ) (cells : List ℕ) (key j : ℕ) → Holds m a base cells key → Memᴰ j cells → key_at a base j ≡ key
    → m ≡ some (value_at a base j)
holds_value none a base cells key j h w e = absurd (h j w e)
holds_value (some v) a base cells key j h w e = ap some (sym h.has_value) ∙ ap (λ (k : ℕ). some (value_at a base k)) (sym (h.only j w e))

-- A hit is the only cell with the key.
pub hit_only : (m : Option ℕ) (a : List ℕ) (base : ℕ) (cells : List ℕ) (key j : ℕ) → Holds m a base cells key → first_hit a base cells key ≡ some j
    → (k : ℕ) → Memᴰ k cells → key_at a base k ≡ key → k ≡ j
hit_only none a base cells key j h e k w q = absurd (h k w q)
hit_only (some v) a base cells key j h e k w q =
    h.only k w q ∙ sym (h.only j (hit_among a base cells key j e) (hit_key a base cells key j e))

-- What a get finds: absent, where the cells hold nothing,
pub nothing_found : (a : List ℕ) (base : ℕ) (cells : List ℕ) (key : ℕ) → Holds none a base cells key
    → value_at_hit a base (first_hit a base cells key) ≡ absent
unfolding value_at_hit
nothing_found a base cells key h = go (first_hit a base cells key) refl
  where
    go : (r : Option ℕ) → first_hit a base cells key ≡ r → value_at_hit a base r ≡ absent
    go none e = refl
    go (some j) e = absurd (h j (hit_among a base cells key j e) (hit_key a base cells key j e))

-- and else their value.
pub value_found : (v : ℕ) (a : List ℕ) (base : ℕ) (cells : List ℕ) (key : ℕ) → HoldsAt v a base cells key
    → value_at_hit a base (first_hit a base cells key) ≡ done (v ∷ [])
unfolding value_at_hit
value_found v a base cells key h = go (first_hit a base cells key) refl
  where
    go : (r : Option ℕ) → first_hit a base cells key ≡ r → value_at_hit a base r ≡ done (v ∷ [])
    go none e = absurd (hit_none a base cells key e h.cell h.among h.has_key)
    go (some j) e = rw (h.only j (hit_among a base cells key j e) (hit_key a base cells key j e), h.has_value)

-- ---- Stores into a cell

-- Cells of which the same have the key, with the same values, hold the same.
pub holds_same : (m : Option ℕ) (a : List ℕ) (base : ℕ) (b : List ℕ) (base' : ℕ) (cells : List ℕ) (key : ℕ)
    → ((j : ℕ) → Memᴰ j cells → key_at b base' j ≡ key → key_at a base j ≡ key)
    → ((j : ℕ) → Memᴰ j cells → key_at a base j ≡ key → (key_at b base' j ≡ key) × (value_at b base' j ≡ value_at a base j))
    → Holds m a base cells key
    → Holds m b base' cells key
holds_same none a base b base' cells key back forth h = λ j w q. h j w (back j w q)
holds_same (some v) a base b base' cells key back forth h =
    let at = forth h.cell h.among h.has_key in
    record {
      cell = h.cell;
      among = h.among;
      has_key = at.0;
      has_value = at.1 ∙ h.has_value;
      only = λ j w q. h.only j w (back j w q);
    }

-- The new value stored at the hit.
pub holds_new_value : (m : Option ℕ) (a : List ℕ) (base : ℕ) (cells : List ℕ) (key j v : ℕ) → value_address base j < length a → Holds m a base cells key
    → first_hit a base cells key ≡ some j
    → Holds (some v) (set a (value_address base j) v) base cells key
holds_new_value m a base cells key j v inside h e =
    record {
      cell = j;
      among = hit_among a base cells key j e;
      has_key = key_after_value a base j v j ∙ hit_key a base cells key j e;
      has_value = word_set_same a (value_address base j) v inside;
      only = λ k w q. hit_only m a base cells key j h e k w (sym (key_after_value a base j v k) ∙ q);
    }

-- The key stored into cell j, which has the value v already, where the cells did not have the key.
pub holds_new_key : (a : List ℕ) (base : ℕ) (cells : List ℕ) (key j v : ℕ) → key_address base j < length a → Memᴰ j cells
    → Holds none a base cells key
    → value_at a base j ≡ v
    → Holds (some v) (set a (key_address base j) key) base cells key
holds_new_key a base cells key j v inside w h q =
    record {
      cell = j;
      among = w;
      has_key = word_set_same a (key_address base j) key inside;
      has_value = value_after_key a base j key j ∙ q;
      only = only_after_key a base cells key j h;
    }

-- The key word at the hit cleared.
pub holds_removed : (m : Option ℕ) (a : List ℕ) (base : ℕ) (cells : List ℕ) (key j : ℕ) → (key ≡ 0 → ⊥) → key_address base j < length a → Holds m a base cells key
    → first_hit a base cells key ≡ some j
    → Holds none (set a (key_address base j) 0) base cells key
holds_removed m a base cells key j nonzero inside h e k w q =
    by_equal k j
    (λ t. nonzero (sym q ∙ rw t (word_set_same a (key_address base j) 0 inside)))
    (λ unlike. unlike (hit_only m a base cells key j h e k w (sym (key_after_key a base j 0 k unlike) ∙ q)))

-- A change of cell j, whose key is neither before nor after the change the key asked for, is not seen.
pub holds_other_value : (m : Option ℕ) (a : List ℕ) (base : ℕ) (cells : List ℕ) (key j v : ℕ) → (key_at a base j ≡ key → ⊥) → Holds m a base cells key
    → Holds m (set a (value_address base j) v) base cells key
holds_other_value m a base cells key j v unlike h =
    holds_same m a base (set a (value_address base j) v) base cells key
    (λ k w q. sym (key_after_value a base j v k) ∙ q)
    (λ k w q. (
      key_after_value a base j v k ∙ q,
      value_after_value a base j v k (λ e. unlike (rw e at q)),
    ))
    h

pub holds_other_key : (m : Option ℕ) (a : List ℕ) (base : ℕ) (cells : List ℕ) (key j x : ℕ) → key_address base j < length a
    → (key_at a base j ≡ key → ⊥)
    → (x ≡ key → ⊥)
    → Holds m a base cells key
    → Holds m (set a (key_address base j) x) base cells key
holds_other_key m a base cells key j x inside before after h =
    holds_same m a base (set a (key_address base j) x) base cells key back forth h
  where
    back : (k : ℕ) → Memᴰ k cells → key_at (set a (key_address base j) x) base k ≡ key → key_at a base k ≡ key
    back k w q =
        by_equal k j
        (λ t. absurd (after (sym (word_set_same a (key_address base j) x inside) ∙ (rw t at q))))
        (λ t. sym (key_after_key a base j x k t) ∙ q)

    forth : (k : ℕ) → Memᴰ k cells → key_at a base k ≡ key
        → (key_at (set a (key_address base j) x) base k ≡ key) × (value_at (set a (key_address base j) x) base k ≡ value_at a base k)
    forth k w q =
        let unlike : k ≡ j → ⊥ = λ e. before (rw e at q) in
        (key_after_key a base j x k unlike ∙ q, value_after_key a base j x k)

-- ---- Every key of a kind, by a map

-- For each key of the kind P its cells hold what the map has.
abbrev pub HoldsAll : (P : ℕ → Type 0) (cells_of : ℕ → List ℕ) (base : ℕ) (m : ℕ → Option ℕ) → List ℕ → Type 0
HoldsAll P cells_of base m a = (key : ℕ) → P key → Holds (m key) a base (cells_of key) key

module _ (P : ℕ → Type 0) (cells_of : ℕ → List ℕ) (base : ℕ) (m : ℕ → Option ℕ) (a : List ℕ) (h : HoldsAll P cells_of base m a) where
  -- A new value into a cell that has no key of the kind is not seen.
  pub all_unseen : (j v : ℕ) → ((other : ℕ) → P other → key_at a base j ≡ other → ⊥) → HoldsAll P cells_of base m (set a (value_address base j) v)
  all_unseen j v unlike other p = holds_other_value (m other) a base (cells_of other) other j v (unlike other p) (h other p)

  -- The map m' has this for one key of the kind, and for all others what m has.
  module _ (m' : ℕ → Option ℕ) (key j : ℕ) (p : P key) (others : (other : ℕ) → (other ≡ key → ⊥) → m' other ≡ m other) where
    -- A new value at the hit.
    pub all_new_value : (v : ℕ) → m' key ≡ some v → value_address base j < length a → first_hit a base (cells_of key) key ≡ some j
        → HoldsAll P cells_of base m' (set a (value_address base j) v)
    all_new_value v own inside e other q =
        by_equal other key
        (λ t. rw (t, own) (holds_new_value (m key) a base (cells_of key) key j v inside (h key p) e))
        (λ n.
        rw (others other n)
        (holds_other_value (m other) a base (cells_of other) other j v (λ r. n (sym r ∙ hit_key a base (cells_of key) key j e)) (h other q)))

    -- The key, which none of its cells had, into one of them that has the value v and no key of the kind.
    pub all_new_key : (v : ℕ) → m' key ≡ some v → key_address base j < length a → Memᴰ j (cells_of key)
        → first_hit a base (cells_of key) key ≡ none
        → ((other : ℕ) → P other → key_at a base j ≡ other → ⊥)
        → value_at a base j ≡ v
        → HoldsAll P cells_of base m' (set a (key_address base j) key)
    all_new_key v own inside w e unlike there other q =
        by_equal other key
        (λ t. rw (t, own) (holds_new_key a base (cells_of key) key j v inside w (hit_none a base (cells_of key) key e) there))
        (λ n.
        rw (others other n)
        (holds_other_key (m other) a base (cells_of other) other j key inside (unlike other q) (λ r. n (sym r)) (h other q)))

    -- The key word at the hit cleared, where no key of the kind is 0.
    pub all_removed : m' key ≡ none → key_address base j < length a → first_hit a base (cells_of key) key ≡ some j
        → ((other : ℕ) → P other → other ≡ 0 → ⊥)
        → HoldsAll P cells_of base m' (set a (key_address base j) 0)
    all_removed own inside e nonzero other q =
        by_equal other key
        (λ t. rw (t, own) (holds_removed (m key) a base (cells_of key) key j (nonzero key p) inside (h key p) e))
        (λ n.
        rw (others other n)
        (holds_other_key (m other) a base (cells_of other) other j 0 inside (λ r. n (sym r ∙ hit_key a base (cells_of key) key j e))
        (λ r. nonzero other q (sym r)) (h other q)))
