-- Laws of the search for a key among some cells, and of a store into a cell.
use mathlib.Core.Path.{◌≡◌, refl, sym, ap, ◌∙◌}
use mathlib.Core.List.{List, Memᴰ}
use mathlib.Core.Option.{Option, none, some}
use Prim.Native.Nat.{ℕ, ◌+◌, ◌<◌}
use native.Mathlib.Omega.{arith}
use borrow.Author.Tests.{eqb-true, eqb-false}
use lib.Dec.{eqb}
use lib.ListN.{length, set, length-set}
use Rattle.stores.specs.Store.{apply, shifted}
use Rattle.stores.proofs.Tests.{by_equal}
use Rattle.stores.proofs.Lists.{first_same, first_some, first_none}
use Rattle.stores.proofs.Stores.{word_set_same, word_set_other}
use Rattle.cells.specs.Cells.{key_address, value_address, key_at, value_at, first_hit, record_stored, key_cleared}

-- ---- The first hit

module _ (a : List ℕ) (base : ℕ) (cells : List ℕ) (key : ℕ) where
  pub hit_none : first_hit a base cells key ≡ none → (j : ℕ) → Memᴰ j cells → key_at a base j ≡ key → ⊥
  unfolding first_hit
  hit_none e j m q = eqb-false (key_at a base j) key (first_none (λ j. eqb (key_at a base j) key) cells e j m) q

  pub hit_among : (j : ℕ) → first_hit a base cells key ≡ some j → Memᴰ j cells
  unfolding first_hit
  hit_among j e = (first_some (λ j. eqb (key_at a base j) key) cells j e).0

  pub hit_key : (j : ℕ) → first_hit a base cells key ≡ some j → key_at a base j ≡ key
  unfolding first_hit
  hit_key j e = eqb-true (key_at a base j) key (first_some (λ j. eqb (key_at a base j) key) cells j e).1

  -- It goes by the keys of the cells alone, wherever they stand.
  pub hit_by_keys : (b : List ℕ) (base' : ℕ) → ((j : ℕ) → Memᴰ j cells → key_at a base j ≡ key_at b base' j)
      → first_hit a base cells key ≡ first_hit b base' cells key
  unfolding first_hit
  hit_by_keys b base' same = first_same (λ j. eqb (key_at a base j) key) (λ j. eqb (key_at b base' j) key) cells (λ j m. rw (same j m))

-- ---- A store into cell j

module _ (a : List ℕ) (base j : ℕ) where
  -- A new value: keys stay, and the values of other cells.
  pub key_after_value : (v k : ℕ) → key_at (set a (value_address base j) v) base k ≡ key_at a base k
  key_after_value v k = word_set_other a (value_address base j) (key_address base k) v (λ e. omega arith)

  pub value_after_value : (v k : ℕ) → (k ≡ j → ⊥) → value_at (set a (value_address base j) v) base k ≡ value_at a base k
  value_after_value v k d = word_set_other a (value_address base j) (value_address base k) v (λ e. d (omega arith))

  -- A new key: values stay, and the keys of other cells.
  pub value_after_key : (x k : ℕ) → value_at (set a (key_address base j) x) base k ≡ value_at a base k
  value_after_key x k = word_set_other a (key_address base j) (value_address base k) x (λ e. omega arith)

  pub key_after_key : (x k : ℕ) → (k ≡ j → ⊥) → key_at (set a (key_address base j) x) base k ≡ key_at a base k
  key_after_key x k d = word_set_other a (key_address base j) (key_address base k) x (λ e. d (omega arith))

-- A record's two stores, value, then key, leave the record in the cell.
module _ (base j key value : ℕ) (b : List ℕ) where
  pub record_key : key_address base j < length b → key_at (apply (record_stored base j key value) b) base j ≡ key
  unfolding apply
  record_key inside = word_set_same (set b (value_address base j) value) (key_address base j) key (rw length-set inside)

  pub record_value : value_address base j < length b → value_at (apply (record_stored base j key value) b) base j ≡ value
  unfolding apply
  record_value inside =
      word_set_other (set b (value_address base j) value) (key_address base j) (value_address base j) key (λ q. omega arith)
      ∙ word_set_same b (value_address base j) value inside

-- The stores into a cell of the row at 0, shifted to where the row stands.
module _ (base j : ℕ) where
  pub record_shifted : (key value : ℕ) → shifted base (record_stored 0 j key value) ≡ record_stored base j key value
  unfolding shifted
  record_shifted key value =
      let k : base + key_address 0 j ≡ key_address base j = omega arith in
      let v : base + value_address 0 j ≡ value_address base j = omega arith in
      rw (k, v)

  pub cleared_shifted : shifted base (key_cleared 0 j) ≡ key_cleared base j
  unfolding shifted
  cleared_shifted = let k : base + key_address 0 j ≡ key_address base j = omega arith in rw k

-- ---- The search behind it

module _ (a : List ℕ) (base : ℕ) (cells : List ℕ) (key j : ℕ) where
  pub hit_after_value : (v : ℕ) → first_hit (set a (value_address base j) v) base cells key ≡ first_hit a base cells key
  hit_after_value v = hit_by_keys (set a (value_address base j) v) base cells key a base (λ k m. key_after_value a base j v k)

  -- A key that no cell had, stored into cell j: no other cell has it,
  pub only_after_key : ((k : ℕ) → Memᴰ k cells → key_at a base k ≡ key → ⊥)
      → (k : ℕ) → Memᴰ k cells → key_at (set a (key_address base j) key) base k ≡ key → k ≡ j
  only_after_key missing k m e = by_equal k j (λ t. t) (λ t. absurd (missing k m (sym (key_after_key a base j key k t) ∙ e)))

  -- and the search finds it there.
  pub hit_after_key : key_address base j < length a → Memᴰ j cells → first_hit a base cells key ≡ none
      → first_hit (set a (key_address base j) key) base cells key ≡ some j
  hit_after_key inside m missing = go (first_hit b base cells key) refl
    where
      b : List ℕ
      b = set a (key_address base j) key

      go : (h : Option ℕ) → first_hit b base cells key ≡ h → h ≡ some j
      go none e = absurd (hit_none b base cells key e j m (word_set_same a (key_address base j) key inside))
      go (some k) e =
          ap some (only_after_key (hit_none a base cells key missing) k (hit_among b base cells key k e) (hit_key b base cells key k e))
