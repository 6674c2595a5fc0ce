-- Laws of the slots that the calls look for: the first hit, the slot for a new key, the choice of a put. But for the computed rows,
-- this file alone opens the slot for a new key: the proofs above use that it is in the window and not live.
use mathlib.Core.Path.{◌≡◌, refl, sym, ap, ap₂, ◌∙◌}
use mathlib.Core.Bool.{true, false, not}
use mathlib.Core.List.{List, Memᴰ}
use mathlib.Core.Logic.{⊎_elim}
use mathlib.Core.Option.{Option, none, some, or_else}
use mathlib.Mathlib.Data.Option.Basic.{or_else-eq-some, or_else-eq-none}
use Prim.Native.Nat.{ℕ, ◌<◌}
use native.Mathlib.Omega.{arith}
use borrow.Author.Tests.{eqb-true, eqb-false, not-true, not-false}
use lib.Dec.{eqb}
use lib.ListN.{length, set}
use Rattle.stores.specs.Lists.{first_in}
use Rattle.stores.proofs.Tests.{by_equal, and_right}
use Rattle.stores.proofs.Lists.{first_same, first_some, first_none}
use Rattle.stores.proofs.Stores.{word_set_same, word_set_other}
use Rattle.index_rules.specs.Layout.{key_address, value_address, key_at, value_at}
use Rattle.index_rules.specs.Keys.{live, window}
use Rattle.index_rules.specs.Slots.{hit, is_empty, is_stale, slot_for_new, Choice, found, into, full, chosen, choose}
use Rattle.index_laws.specs.Full.{FullWindow}
use Rattle.index_laws.proofs.Keys.{live_empty, window_lt}

-- ---- The first hit

pub hit_none : (a : List ℕ) (base key : ℕ) → hit a base key ≡ none
    → (j : ℕ) → Memᴰ j (window key) → key_at a base j ≡ key → ⊥
unfolding hit
hit_none a base key e j m q =
    let missed : eqb (key_at a base j) key ≡ false = first_none (λ j. eqb (key_at a base j) key) (window key) e j m in
    eqb-false (key_at a base j) key missed q

pub hit_window : (a : List ℕ) (base key j : ℕ) → hit a base key ≡ some j → Memᴰ j (window key)
unfolding hit
hit_window a base key j e = (first_some (λ j. eqb (key_at a base j) key) (window key) j e).0

pub hit_key : (a : List ℕ) (base key j : ℕ) → hit a base key ≡ some j → key_at a base j ≡ key
unfolding hit
hit_key a base key j e = eqb-true (key_at a base j) key (first_some (λ j. eqb (key_at a base j) key) (window key) j e).1

-- ---- The slot for a new key: there is one exactly where some slot of the window is not live

module _ (a : List ℕ) (base L bits : ℕ) where
  empty_not_live : (j : ℕ) → is_empty a base j ≡ true → live L bits (key_at a base j) ≡ false
  unfolding is_empty
  empty_not_live j e = rw (eqb-true (key_at a base j) 0 e) (live_empty L bits)

  stale_not_live : (j : ℕ) → is_stale a base L bits j ≡ true → live L bits (key_at a base j) ≡ false
  unfolding is_stale
  stale_not_live j e = not-true (live L bits (key_at a base j)) (and_right (not (is_empty a base j)) _ e)

  neither_live : (j : ℕ) → is_empty a base j ≡ false → is_stale a base L bits j ≡ false → live L bits (key_at a base j) ≡ true
  unfolding is_stale
  neither_live j e s = not-false (live L bits (key_at a base j)) (rw e at s)

  -- It is a slot of the window, and not live.
  pub new_slot : (key j : ℕ) → slot_for_new a base L bits key ≡ some j
      → Memᴰ j (window key) × (live L bits (key_at a base j) ≡ false)
  unfolding slot_for_new
  new_slot key j e =
      ⊎_elim
      (λ (q : first_in (is_empty a base) (window key) ≡ some j).
      let r = first_some (is_empty a base) (window key) j q in
      (r.0, empty_not_live j r.1))
      (λ (q : (first_in (is_empty a base) (window key) ≡ none) × (first_in (is_stale a base L bits) (window key) ≡ some j)).
      let r = first_some (is_stale a base L bits) (window key) j q.1 in
      (r.0, stale_not_live j r.1))
      ((or_else-eq-some (first_in (is_empty a base) (window key)) (first_in (is_stale a base L bits) (window key)) j).0 e)

  -- Where there is none, every slot of the window is live.
  pub no_new_slot : (key : ℕ) → slot_for_new a base L bits key ≡ none
      → (j : ℕ) → Memᴰ j (window key) → live L bits (key_at a base j) ≡ true
  unfolding slot_for_new
  no_new_slot key e j m =
      let n = (or_else-eq-none (first_in (is_empty a base) (window key)) (first_in (is_stale a base L bits) (window key))).0 e in
      neither_live j
      (first_none (is_empty a base) (window key) n.0 j m)
      (first_none (is_stale a base L bits) (window key) n.1 j m)

  -- Where none is empty, the first stale slot is the first that is not live.
  pub slot_by_live : (key : ℕ)
      → slot_for_new a base L bits key
      ≡ or_else (first_in (is_empty a base) (window key)) (first_in (λ j. not (live L bits (key_at a base j))) (window key))
  unfolding slot_for_new is_stale or_else
  slot_by_live key = go (first_in (is_empty a base) (window key)) refl
    where
      go : (o : Option ℕ) → first_in (is_empty a base) (window key) ≡ o
          → or_else o (first_in (is_stale a base L bits) (window key)) ≡ or_else o (first_in (λ j. not (live L bits (key_at a base j))) (window key))
      go (some j) e = refl
      go none e = first_same _ _ (window key) (λ j m. rw (first_none (is_empty a base) (window key) e j m))

-- ---- The choice of a put

-- The slot for a new record: no slot of the window has the key, and this one is in the window and not live.
pub record IntoSlot (a : List ℕ) (base L bits key j : ℕ) : Type 0 where
  pub missing : hit a base key ≡ none
  pub in_window : Memᴰ j (window key)
  pub not_live : live L bits (key_at a base j) ≡ false

-- Two choices are told apart by their kinds and by their slots.
abbrev kind : Choice → ℕ
kind (found j) = 0
kind (into j) = 1
kind full = 2

abbrev slot_in : Choice → ℕ
slot_in (found j) = j
slot_in (into j) = j
slot_in full = 0

chosen_full : (h n : Option ℕ) → chosen h n ≡ full → (h ≡ none) × (n ≡ none)
unfolding chosen
chosen_full (some j) n e = absurd (omega (arith, ap kind e))
chosen_full none (some j) e = absurd (omega (arith, ap kind e))
chosen_full none none e = (refl, refl)

chosen_found : (h n : Option ℕ) (j : ℕ) → chosen h n ≡ found j → h ≡ some j
unfolding chosen
chosen_found (some i) n j e = ap (λ (c : Choice). some (slot_in c)) e
chosen_found none (some i) j e = absurd (omega (arith, ap kind e))
chosen_found none none j e = absurd (omega (arith, ap kind e))

chosen_into : (h n : Option ℕ) (j : ℕ) → chosen h n ≡ into j → (h ≡ none) × (n ≡ some j)
unfolding chosen
chosen_into (some i) n j e = absurd (omega (arith, ap kind e))
chosen_into none (some i) j e = (refl, ap (λ (c : Choice). some (slot_in c)) e)
chosen_into none none j e = absurd (omega (arith, ap kind e))

module _ (a : List ℕ) (base L bits key : ℕ) where
  pub found_by_choose : (j : ℕ) → choose a base L bits key ≡ found j → hit a base key ≡ some j
  unfolding choose
  found_by_choose j e = chosen_found (hit a base key) (slot_for_new a base L bits key) j e

  pub chosen_at_hit : (j : ℕ) → hit a base key ≡ some j → choose a base L bits key ≡ found j
  unfolding choose chosen
  chosen_at_hit j e = rw e

  pub into_by_choose : (j : ℕ) → choose a base L bits key ≡ into j → IntoSlot a base L bits key j
  unfolding choose
  into_by_choose j e =
      let c = chosen_into (hit a base key) (slot_for_new a base L bits key) j e in
      let slot = new_slot a base L bits key j c.1 in
      record { missing = c.0; in_window = slot.0; not_live = slot.1 }

  pub full_by_choose : choose a base L bits key ≡ full → FullWindow a base L bits key
  unfolding choose
  full_by_choose e =
      let c = chosen_full (hit a base key) (slot_for_new a base L bits key) e in
      record {
        missing = c.0;
        others = hit_none a base key c.0;
        all_live = no_new_slot a base L bits key c.1;
      }

-- ---- Hit and choice go by the segment's keys alone, wherever it stands

module _ (a b : List ℕ) (base base' : ℕ) (same : (j : ℕ) → j < 64 → key_at a base j ≡ key_at b base' j) (key : ℕ) where
  pub hit_same : hit a base key ≡ hit b base' key
  unfolding hit
  hit_same =
      first_same (λ j. eqb (key_at a base j) key) (λ j. eqb (key_at b base' j) key) (window key)
      (λ j m. rw (same j (window_lt key j m)))

  new_same : (L bits : ℕ) → slot_for_new a base L bits key ≡ slot_for_new b base' L bits key
  unfolding slot_for_new is_empty is_stale
  new_same L bits =
      ap₂ or_else
      (first_same (is_empty a base) (is_empty b base') (window key) (λ j m. rw (same j (window_lt key j m))))
      (first_same (is_stale a base L bits) (is_stale b base' L bits) (window key) (λ j m. rw (same j (window_lt key j m))))

  pub choose_same : (L bits : ℕ) → choose a base L bits key ≡ choose b base' L bits key
  unfolding choose
  choose_same L bits = ap₂ chosen hit_same (new_same L bits)

-- ---- A store in a slot

-- A new value at slot j: keys stay, and the values of other slots.
pub key_after_value : (a : List ℕ) (base j v k : ℕ) → key_at (set a (value_address base j) v) base k ≡ key_at a base k
key_after_value a base j v k = word_set_other a (value_address base j) (key_address base k) v (λ e. omega arith)

pub hit_after_value : (a : List ℕ) (base j v key : ℕ) → hit (set a (value_address base j) v) base key ≡ hit a base key
unfolding hit
hit_after_value a base j v key =
    first_same _ _ (window key) (λ k w. ap (λ (x : ℕ). eqb x key) (key_after_value a base j v k))

pub value_after_value : (a : List ℕ) (base j v k : ℕ) → (k ≡ j → ⊥) → value_at (set a (value_address base j) v) base k ≡ value_at a base k
value_after_value a base j v k d = word_set_other a (value_address base j) (value_address base k) v (λ e. d (omega arith))

-- A new key at slot j: values stay, and the keys of other slots.
pub value_after_key : (a : List ℕ) (base j x k : ℕ) → value_at (set a (key_address base j) x) base k ≡ value_at a base k
value_after_key a base j x k = word_set_other a (key_address base j) (value_address base k) x (λ e. omega arith)

pub key_after_key : (a : List ℕ) (base j x k : ℕ) → (k ≡ j → ⊥) → key_at (set a (key_address base j) x) base k ≡ key_at a base k
key_after_key a base j x k d = word_set_other a (key_address base j) (key_address base k) x (λ e. d (omega arith))

-- A key that the window did not have, stored into slot j: no other slot of the window has it,
pub only_after_key : (a : List ℕ) (base key j : ℕ) → ((k : ℕ) → Memᴰ k (window key) → key_at a base k ≡ key → ⊥)
    → (k : ℕ) → Memᴰ k (window key) → key_at (set a (key_address base j) key) base k ≡ key → k ≡ j
only_after_key a base key j missing k m e = by_equal k j (λ t. t) (λ t. absurd (missing k m (sym (key_after_key a base j key k t) ∙ e)))

-- and the search finds it there.
pub hit_after_key : (a : List ℕ) (base key j : ℕ) → key_address base j < length a → Memᴰ j (window key) → hit a base key ≡ none
    → hit (set a (key_address base j) key) base key ≡ some j
hit_after_key a base key j inside m missing = go (hit b base key) refl
  where
    b : List ℕ
    b = set a (key_address base j) key

    go : (h : Option ℕ) → hit b base key ≡ h → h ≡ some j
    go none e = absurd (hit_none b base key e j m (word_set_same a (key_address base j) key inside))
    go (some k) e =
        ap some (only_after_key a base key j (hit_none a base key missing) k (hit_window b base key k e) (hit_key b base key k e))
