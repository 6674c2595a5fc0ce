-- The records of an array that needs no recovery are the map's: each key that has a value once, with its value, and no other.
-- So are the same records in any other order.
use mathlib.Core.Path.{◌≡◌, refl, sym, ap, ◌∙◌}
use mathlib.Core.Bool.{Bool, true, false}
use mathlib.Core.List.Memᴰ
use mathlib.Core.List.{List, [], ◌∷◌, ◌++◌, Memᴰ}
use mathlib.Core.Option.{none, some}
use mathlib.Core.Logic.{⊎_elim}
use Prim.Native.Nat.{ℕ, zero, suc, ◌+◌, ◌*◌, ◌^◌, ◌≤◌, ◌<◌}
use native.Mathlib.Nat.{le_refl, le_step, not-suc-le-zero, eq-or-lt_of_le, le_of_suc-le-suc}
use native.Mathlib.Omega.{arith}
use borrow.Author.Tests.{eqb-true, eq-eqb, ne_eqb}
use lib.Dec.{eqb}
use Rattle.stores.specs.Lists.{pick, each}
use Rattle.stores.proofs.Tests.{by_test}
use Rattle.stores.proofs.Lists.{each_zero, each_suc, each_same, mem_each}
use Rattle.index_rules.specs.Layout.{local_depth, key_at, value_at}
use Rattle.index_rules.specs.Keys.{index, width, block_bits, block_start, live}
use Rattle.index_rules.specs.Listing.{Record, live_record, block_records, records}
use Rattle.index_laws.proofs.Keys.{index_lt, index_shift, width_pos, block_start_bits, block_start_le, block_same, block_start_aligned, block_start_self, live_index, live_true, window_lt}
use Rattle.index_laws.proofs.Blocks.{bits_at}
use Rattle.runs.specs.Map.{Map}
use Rattle.index_history.specs.Listing.{occurrences, ListsMap}
use Rattle.index_history.proofs.Holds.{HoldsAt, holds_value}
use Rattle.index_history.proofs.Invariant.{Inv, Recovered, LiveAt, base_at, shape_depth, shape_max_depth, live_block}
use Rattle.index_history.proofs.Recover.{inv_leader}

-- ---- How many records have a key

occurrences_append : (key : ℕ) (rs ts : List Record) → occurrences key (rs ++ ts) ≡ occurrences key rs + occurrences key ts
unfolding occurrences
occurrences_append key [] ts = omega arith
occurrences_append key (r ∷ rs) ts = rw (occurrences_append key rs ts) (step (eqb r.key key))
  where
    step : (b : Bool)
        → pick b (suc (occurrences key rs + occurrences key ts)) (occurrences key rs + occurrences key ts)
        ≡ pick b (suc (occurrences key rs)) (occurrences key rs) + occurrences key ts
    step true = omega arith
    step false = refl

-- No record of the list has the key.
occurrences_none : (key : ℕ) (rs : List Record) → ((r : Record) → Memᴰ r rs → r.key ≡ key → ⊥) → occurrences key rs ≡ 0
unfolding occurrences
occurrences_none key [] h = refl
occurrences_none key (r ∷ rs) h =
    rw (ne_eqb r.key key (h r (Memᴰ.head refl))) (occurrences_none key rs (λ t k. h t (Memᴰ.tail k)))

occurrences_single : (key : ℕ) (r : Record) → r.key ≡ key → occurrences key (r ∷ []) ≡ 1
unfolding occurrences
occurrences_single key r e = rw (eq-eqb r.key key e)

occurrences_each_suc : (key : ℕ) (f : ℕ → List Record) (n : ℕ)
    → occurrences key (each f (suc n)) ≡ occurrences key (each f n) + occurrences key (f n)
occurrences_each_suc key f n = rw each_suc (occurrences_append key (each f n) (f n))

-- None of the joined lists has the key.
occurrences_each_none : (key : ℕ) (f : ℕ → List Record) (n : ℕ) → ((i : ℕ) → i < n → occurrences key (f i) ≡ 0)
    → occurrences key (each f n) ≡ 0
unfolding occurrences
occurrences_each_none key f zero h = rw each_zero
occurrences_each_none key f (suc n) h =
    let front : occurrences key (each f n) ≡ 0 = occurrences_each_none key f n (λ i k. h i (le_step k)) in
    let last : occurrences key (f n) ≡ 0 = h n (le_refl (suc n)) in
    omega (arith, occurrences_each_suc key f n)

-- One of the joined lists, list l, has the key once, and no other has it.
occurrences_each_one : (key : ℕ) (f : ℕ → List Record) (n l : ℕ) → l < n → occurrences key (f l) ≡ 1
    → ((i : ℕ) → i < n → (i ≡ l → ⊥) → occurrences key (f i) ≡ 0)
    → occurrences key (each f n) ≡ 1
occurrences_each_one key f zero l below one h = absurd (not-suc-le-zero below)
occurrences_each_one key f (suc n) l below one h =
    ⊎_elim
    (λ (e : l ≡ n).
    let front : occurrences key (each f n) ≡ 0 =
    occurrences_each_none key f n (λ i k. h i (le_step k) (λ q. omega arith))
    in
    let last : occurrences key (f n) ≡ 1 = rw e at one in
    omega (arith, occurrences_each_suc key f n))
    (λ (k : l < n).
    let front : occurrences key (each f n) ≡ 1 = occurrences_each_one key f n l k one (λ i q. h i (le_step q)) in
    let last : occurrences key (f n) ≡ 0 = h n (le_refl (suc n)) (λ q. omega arith) in
    omega (arith, occurrences_each_suc key f n))
    (eq-or-lt_of_le (le_of_suc-le-suc below))

-- ---- The record of a slot

-- A record that slot j gives: the slot's key is live, and the record has the slot's key and value.
record SlotRecord (a : List ℕ) (base L bits j : ℕ) (r : Record) : Type 0 where
  is_live : live L bits (key_at a base j) ≡ true
  its_key : r.key ≡ key_at a base j
  its_value : r.value ≡ value_at a base j

mem_slot : (a : List ℕ) (base L bits j : ℕ) (r : Record) → Memᴰ r (live_record a base L bits j) → SlotRecord a base L bits j r
unfolding live_record
mem_slot a base L bits j r k =
    by_test (live L bits (key_at a base j))
    (λ t.
    let e : r ≡ record { key = key_at a base j; value = value_at a base j } = Memᴰ.eq_of_singleton (rw t at k) in
    record { is_live = t; its_key = ap (λ (s : Record). s.key) e; its_value = ap (λ (s : Record). s.value) e })
    (λ t. absurd (Memᴰ.not-nil (rw t at k)))

occurrences_slot : (a : List ℕ) (base L bits j key : ℕ) → live L bits key ≡ true → key_at a base j ≡ key
    → occurrences key (live_record a base L bits j) ≡ 1
unfolding live_record
occurrences_slot a base L bits j key t e =
    let here : live L bits (key_at a base j) ≡ true = rw e t in
    rw here (occurrences_single key (record { key = key_at a base j; value = value_at a base j }) e)

-- ---- The records of an array that needs no recovery

module _ {m : Map} {g d S : ℕ} {f : ℕ → ℕ} {a : List ℕ} (inv : Inv m g d S f a) (same : Recovered g f a) (zero_none : m 0 ≡ none) where
  -- The first index of index i's block.
  abbrev first : ℕ → ℕ
  first i = block_start g (local_depth (f i)) i

  -- The live record in slot j of index i's block.
  abbrev slot_records : ℕ → ℕ → List Record
  slot_records i j = live_record a (base_at d f i) (local_depth (f i)) (bits_at g f i) j

  -- What index i adds to the records.
  abbrev adds : ℕ → List Record
  adds i = pick (eqb (first i) i) (each (slot_records i) 64) []

  records_added : records a ≡ each adds (2 ^ g)
  unfolding records block_records
  records_added =
      rw (shape_depth inv.shape, shape_max_depth inv.shape)
      (each_same _ adds (2 ^ g) (λ i h. rw (inv_leader inv i h, same i h)))

  -- A record that index i adds: i is the first index of its block, and some slot there gives the record.
  mem_adds : (i : ℕ) (r : Record) → Memᴰ r (adds i)
      → (first i ≡ i) × ((j : ℕ) × (j < 64) × SlotRecord a (base_at d f i) (local_depth (f i)) (bits_at g f i) j r)
  mem_adds i r k =
      by_test (eqb (first i) i)
      (λ t.
      let at = mem_each r (slot_records i) 64 (rw t at k) in
      (eqb-true (first i) i t, (at.0, at.1, mem_slot a (base_at d f i) (local_depth (f i)) (bits_at g f i) at.0 r at.2)))
      (λ t. absurd (Memᴰ.not-nil (rw t at k)))

  -- A record of index i's block is the map's.
  slot_right : (i : ℕ) → i < 2 ^ g → (j : ℕ) → j < 64 → (r : Record)
      → SlotRecord a (base_at d f i) (local_depth (f i)) (bits_at g f i) j r
      → m r.key ≡ some r.value
  slot_right i h j l r s =
      rw (s.its_key, s.its_value)
      (holds_value (m (key_at a (base_at d f i) j)) a (base_at d f i) (key_at a (base_at d f i) j) j
      (inv.holds i h (key_at a (base_at d f i) j) s.is_live) (inv.in_window i h j l s.is_live) refl)

  records_right : (r : Record) → Memᴰ r (records a) → m r.key ≡ some r.value
  records_right r k =
      let at = mem_each r adds (2 ^ g) (rw records_added at k) in
      let slot = (mem_adds at.0 r at.2).1 in
      slot_right at.0 at.1 slot.0 slot.1 r slot.2

  records_no_other : (key : ℕ) → m key ≡ none → occurrences key (records a) ≡ 0
  records_no_other key e =
      occurrences_none key (records a)
      (λ r k q.
      let there : m key ≡ some r.value = rw q at (records_right r k) in
      let z : ◌≡◌ {A = ℕ} 0 1 = cc in
      omega arith)

  -- A key that has a value: the block of its index has its record once, and no other block has it.
  module _ (key v : ℕ) (has : m key ≡ some v) where
    nonzero : key ≡ 0 → ⊥
    nonzero e =
        let z : ◌≡◌ {A = ℕ} 0 1 = cc in
        omega arith

    -- The first index of the block of the key's index.
    abbrev start : ℕ
    start = first (index key g)

    start_below : start < 2 ^ g
    start_below =
        let low : start ≤ index key g = block_start_le g (local_depth (f (index key g))) (index key g) in
        let own : index key g < 2 ^ g = index_lt key g in
        omega arith

    start_bits : block_bits g (local_depth (f (index key g))) start ≡ block_bits g (local_depth (f (index key g))) (index key g)
    start_bits =
        let pos : 0 < width g (local_depth (f (index key g))) = width_pos g (local_depth (f (index key g))) in
        block_same g (local_depth (f (index key g))) (index key g) start (le_refl start) (omega arith)

    start_entry : f start ≡ f (index key g)
    start_entry = inv.directory.entries.blocks (index key g) start (index_lt key g) start_below start_bits

    start_first : first start ≡ start
    start_first =
        rw (ap local_depth start_entry)
        (block_start_self g (local_depth (f (index key g))) start (block_start_aligned g (local_depth (f (index key g))) (index key g)))

    start_live : LiveAt g f start key
    start_live =
        rw (ap local_depth start_entry)
        (live_true (local_depth (f (index key g))) (block_bits g (local_depth (f (index key g))) start) key nonzero
        (sym (index_shift key g (local_depth (f (index key g))) (inv.directory.entries.depths (index key g) (index_lt key g))) ∙ sym start_bits))

    -- A block where the key is live has the same first index.
    live_start : (i : ℕ) → i < 2 ^ g → LiveAt g f i key → first i ≡ start
    live_start i h t =
        let entry : f (index key g) ≡ f i = live_block inv.directory i key h t in
        let bits : block_bits g (local_depth (f i)) (index key g) ≡ block_bits g (local_depth (f i)) i =
        index_shift key g (local_depth (f i)) (inv.directory.entries.depths i h) ∙ live_index (local_depth (f i)) (bits_at g f i) key t
        in
        block_start_bits g (local_depth (f i)) i
        ∙ ap (λ (b : ℕ). width g (local_depth (f i)) * b) (sym bits)
        ∙ sym (block_start_bits g (local_depth (f i)) (index key g))
        ∙ ap (λ (e : ℕ). block_start g (local_depth e) (index key g)) (sym entry)

    start_holds : HoldsAt v a (base_at d f start) key
    start_holds = rw has at (inv.holds start start_below key start_live)

    -- A slot of that block whose record has the key is the one that holds the key's value.
    slot_only : (j : ℕ) → j < 64 → (r : Record) → Memᴰ r (slot_records start j) → r.key ≡ key → j ≡ start_holds.slot
    slot_only j l r k q =
        let s = mem_slot a (base_at d f start) (local_depth (f start)) (bits_at g f start) j r k in
        let there : key_at a (base_at d f start) j ≡ key = sym s.its_key ∙ q in
        start_holds.only j (rw there at (inv.in_window start start_below j l s.is_live)) there

    start_once : occurrences key (adds start) ≡ 1
    start_once =
        rw (eq-eqb (first start) start start_first)
        (occurrences_each_one key (slot_records start) 64 start_holds.slot (window_lt key start_holds.slot start_holds.in_window)
        (occurrences_slot a (base_at d f start) (local_depth (f start)) (bits_at g f start) start_holds.slot key start_live start_holds.has_key)
        (λ j l unlike. occurrences_none key (slot_records start j) (λ r k q. unlike (slot_only j l r k q))))

    others_none : (i : ℕ) → i < 2 ^ g → (i ≡ start → ⊥) → occurrences key (adds i) ≡ 0
    others_none i h unlike =
        occurrences_none key (adds i)
        (λ r k q.
        let at = mem_adds i r k in
        let slot = at.1.2 in
        unlike (sym at.0 ∙ live_start i h (rw (sym slot.its_key ∙ q) at slot.is_live)))

    records_once : occurrences key (records a) ≡ 1
    records_once = rw records_added (occurrences_each_one key adds (2 ^ g) start start_below start_once others_none)

  -- The records are the map's.
  pub records_list_map : ListsMap m (records a)
  records_list_map = record { right = records_right; once = records_once; no_other = records_no_other }
