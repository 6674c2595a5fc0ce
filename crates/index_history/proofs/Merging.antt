-- A merge keeps the map after every number of its stores, and whole it leaves a store that needs no recovery, in which no entry names
-- the right segment. Its slots change records that are not live in the left half; its entries go from the two halves to the joined block.
use mathlib.Core.Path.{◌≡◌, refl, sym, ap, ◌∙◌}
use mathlib.Core.Bool.{Bool, true, false, true≢false, not, ◌&&◌}
use mathlib.Core.List.{List, [], ◌++◌, Memᴰ}
use mathlib.Core.Logic.{◌⊎◌, inl, inr, ⊎_elim}
use Prim.Native.Nat.{ℕ, zero, suc, ◌+◌, ◌*◌, ◌^◌, ◌≤◌, ◌<◌}
use native.Mathlib.Nat.{add-zero}
use native.Mathlib.Omega.{arith}
use borrow.Author.Tests.{eqb-true, not-true}
use lib.Dec.{eqb}
use lib.ListN.{length, take}
use Rattle.stores.specs.Store.{Store, word, apply, exec, Every}
use Rattle.stores.proofs.Tests.{by_test, by_equal, and_true, and_right}
use Rattle.stores.proofs.Lists.{any_true, every_each, every_take, every_map}
use Rattle.stores.proofs.Stores.{apply_append, length_apply, length_exec, exec_all, exec_none, word_set_same, word_elsewhere, word_keeps}
use Rattle.stores.proofs.Prefixes.{Always, always_whole, exec_elsewhere}
use Rattle.replies.specs.Replies.{done}
use Rattle.index_rules.specs.Layout.{entry_address, entry_at, segment_of, local_depth, segment_address, key_address, value_address, key_at, value_at}
use Rattle.index_rules.specs.Keys.{bit, width, block_bits, block_start, live, window}
use Rattle.index_rules.specs.Merge.{right_start, live_left, live_right, both_live, merge_record, merge_slot, merging_slots, joining}
use Rattle.index_laws.proofs.Words.{Within, key_within, value_within, within_inside, entry_inside, entry_positive, directories_below}
use Rattle.index_laws.proofs.Keys.{bit_lt, live_index, live_stale, live_empty, live_half, window_lt, width_pos, block_end}
use Rattle.index_laws.proofs.SlotStores.{InSlot, key_in_slot, value_in_slot, record_key, record_value, one_slot, slot_alone}
use Rattle.index_laws.proofs.Updating.{same_start}
use Rattle.index_laws.proofs.Joining.{TwoHalves, bits_left, bits_right, joined_directory, joined_out, joined_segment, joined_depth_holds, halved_again, joining_elsewhere, begins_joined, either_joined, all_joined, length_joining}
use Rattle.index_laws.proofs.Merge.{record_every, slots_within}
use Rattle.runs.specs.Map.{Map, keeps, fed}
use Rattle.index_history.proofs.Holds.{Holds, holds_same}
use Rattle.index_history.proofs.Invariant.{Shape, Directory, Inv, Recovered, base_at, SegmentSame, BlockChanged, segments_fit, same_key, same_value, block_changed, block_recovered}
use Rattle.index_history.proofs.Kept.{Kept, Whole}
use Rattle.index_history.proofs.Changes.{slots_unseen}
use Rattle.index_history.proofs.Either.{Serves, Between, old_inv}
use Rattle.index_history.proofs.Plans.{PlanKept, plan_after}
use Rattle.index_history.proofs.Joined.{left_in, right_in, left_segment_holds, left_depth, right_segment_holds, right_depth, segments_apart, joined_directory_holds, right_unnamed}

-- A key of the left segment is cleared, where the right one's is not live.
abbrev is_cleared : (M bits key : ℕ) → Bool
is_cleared M bits key = not (eqb key 0) && not (live_left M bits key)

-- ---- What the stores of a slot leave, where the left segment stands at `left` and the right one at `right`

slot_stores_holds : (a : List ℕ) (left right M bits j : ℕ) → Every (λ s. InSlot left j s.at) (merge_slot a left a right M bits j)
unfolding merge_slot
slot_stores_holds a left right M bits j = record_every (InSlot left j) left M bits j _ _ _ (key_in_slot left j) (value_in_slot left j)

-- A key that is not stale in the left half is empty, or live there: it is not live in the right half.
not_stale : (a : List ℕ) (left M bits j : ℕ) → is_cleared M bits (key_at a left j) ≡ false → live (suc M) (2 * bits + 1) (key_at a left j) ≡ false
not_stale a left M bits j u =
    by_test (eqb (key_at a left j) 0)
    (λ z. rw (eqb-true (key_at a left j) 0 z) (live_empty (suc M) (2 * bits + 1)))
    (λ z.
    by_test (live (suc M) (2 * bits) (key_at a left j))
    (λ l. live_stale (suc M) (2 * bits + 1) (key_at a left j) (λ e. omega (arith, live_index (suc M) (2 * bits) (key_at a left j) l)))
    (λ l. absurd (true≢false (rw (z, l) at u))))

module _ (a : List ℕ) (left right M bits j : ℕ) (h : j < 64) where
  merged_alone : (at : ℕ) → InSlot left j at
      → word (apply (merging_slots a left a right M bits) a) at ≡ word (apply (merge_slot a left a right M bits j) a) at
  unfolding merging_slots
  merged_alone at in-slot = slot_alone left (merge_slot a left a right M bits) (slot_stores_holds a left right M bits) j at 64 a in-slot h

  -- The right segment's live record stands there.
  module _ (t : live_right M bits (key_at a right j) ≡ true) where
    moved_key : key_address left j < length a → key_at (apply (merging_slots a left a right M bits) a) left j ≡ key_at a right j
    unfolding merge_slot merge_record apply
    moved_key inside =
        merged_alone (key_address left j) (key_in_slot left j)
        ∙ rw t (record_key left j (key_at a right j) (value_at a right j) a inside)

    moved_value : value_address left j < length a → value_at (apply (merging_slots a left a right M bits) a) left j ≡ value_at a right j
    unfolding merge_slot merge_record apply
    moved_value inside =
        merged_alone (value_address left j) (value_in_slot left j)
        ∙ rw t (record_value left j (key_at a right j) (value_at a right j) a inside)

  -- Else the key is the left segment's own, live or empty, or it is cleared: it is not live in the right half.
  not_moved : live_right M bits (key_at a right j) ≡ false → key_address left j < length a
      → live (suc M) (2 * bits + 1) (key_at (apply (merging_slots a left a right M bits) a) left j) ≡ false
  unfolding merge_slot merge_record apply
  not_moved t inside =
      by_test (is_cleared M bits (key_at a left j))
      (λ u.
      let cleared : key_at (apply (merging_slots a left a right M bits) a) left j ≡ 0 =
      merged_alone (key_address left j) (key_in_slot left j) ∙ rw (t, u) (word_set_same a (key_address left j) 0 inside) in
      rw cleared (live_empty (suc M) (2 * bits + 1)))
      (λ u.
      let stays : key_at (apply (merging_slots a left a right M bits) a) left j ≡ key_at a left j =
      merged_alone (key_address left j) (key_in_slot left j) ∙ rw (t, u) refl in
      rw stays (not_stale a left M bits j u))

-- ---- The merge of the two halves of the block of local depth M that holds index i

module _ {m : Map} {g d S M : ℕ} {f : ℕ → ℕ} {a : List ℕ} {i left right : ℕ} (inv : Inv m g d S f a) (same : Recovered g f a) (below : i < 2 ^ g)
    (h : TwoHalves g M f i left right) (left_below : left < S) (right_below : right < S)
    (apart : both_live a (segment_address d left) a (segment_address d right) M (block_bits g M i) ≡ false) where
  abbrev bits : ℕ
  bits = block_bits g M i

  abbrev left_base : ℕ
  left_base = segment_address d left

  abbrev right_base : ℕ
  right_base = segment_address d right

  abbrev slots : List Store
  slots = merging_slots a left_base a right_base M bits

  abbrev entries : List Store
  entries = joining g M (block_start g M i) left

  fits : S < 2 ^ 32
  fits = omega (arith, segments_fit inv.shape)

  dir : Directory g S f
  dir = inv.directory

  -- The left half by its first index, and the right half by its own.
  own_segment : segment_of (f (block_start g M i)) ≡ left
  own_segment = left_segment_holds dir fits below h left_below right_below

  own_depth : local_depth (f (block_start g M i)) ≡ suc M
  own_depth = left_depth dir fits below h left_below right_below

  own_bits : block_bits g (suc M) (block_start g M i) ≡ 2 * bits
  own_bits = bits_left g M i h.room

  other_segment : segment_of (f (right_start g M i)) ≡ right
  other_segment = right_segment_holds dir fits below h left_below right_below

  other_depth : local_depth (f (right_start g M i)) ≡ suc M
  other_depth = right_depth dir fits below h left_below right_below

  other_bits : block_bits g (suc M) (right_start g M i) ≡ 2 * bits + 1
  other_bits = bits_right g M i h.room

  -- A key of the joined block is of one of its halves.
  either_half : (key : ℕ) → live M bits key ≡ true → (live (suc M) (2 * bits) key ≡ true) ⊎ (live (suc M) (2 * bits + 1) key ≡ true)
  either_half key l =
      by_equal (bit key M) 1
      (λ t. inr (live_half M bits 1 key l t))
      (λ t. inl (rw (add-zero (2 * bits)) at (live_half M bits 0 key l (omega (arith, bit_lt key M, t)))))

  -- A word of the left segment is in the array.
  left_inside : (at : ℕ) → Within d left at → at < length a
  left_inside at w = omega (arith, (within_inside d S left at left_below w).below, inv.shape.room)

  -- ---- The slots

  -- No slot is live on both sides.
  one_side : (j : ℕ) → j < 64 → live_right M bits (key_at a right_base j) ≡ true → live (suc M) (2 * bits) (key_at a left_base j) ≡ false
  unfolding both_live
  one_side j k t =
      by_test (live (suc M) (2 * bits) (key_at a left_base j))
      (λ u.
      absurd
      (true≢false
      (sym (any_true (λ x. live_left M bits (key_at a left_base x) && live_right M bits (key_at a right_base x)) 64 j k (and_true u t)) ∙ apart)))
      (λ u. u)

  -- A store of a slot goes to one that is not live in the left half, and a key that it stores is not live there either.
  record Unseen (s : Store) : Type 0 where
    slot : ℕ
    not_live : live (suc M) (2 * bits) (key_at a left_base slot) ≡ false
    at_slot : InSlot left_base slot s.at
    stale_key : s.at ≡ key_address left_base slot → live (suc M) (2 * bits) s.value ≡ false

  slot_unseen : (j : ℕ) → j < 64 → Every Unseen (merge_slot a left_base a right_base M bits j)
  unfolding merge_slot merge_record
  slot_unseen j k =
      by_test (live (suc M) (2 * bits + 1) (key_at a right_base j))
      (λ t.
      rw t (
        record { slot = j; not_live = one_side j k t; at_slot = value_in_slot left_base j; stale_key = λ e. absurd (omega arith) },
        (
          record {
            slot = j;
            not_live = one_side j k t;
            at_slot = key_in_slot left_base j;
            stale_key = λ e.
                live_stale (suc M) (2 * bits) (key_at a right_base j)
                (λ q. omega (arith, live_index (suc M) (2 * bits + 1) (key_at a right_base j) t));
          },
          Prim.tt,
        ),
      ))
      (λ t.
      by_test (is_cleared M bits (key_at a left_base j))
      (λ u.
      rw (t, u) (
        record {
          slot = j;
          not_live = not-true _ (and_right (not (eqb (key_at a left_base j) 0)) (not (live (suc M) (2 * bits) (key_at a left_base j))) u);
          at_slot = key_in_slot left_base j;
          stale_key = λ e. live_empty (suc M) (2 * bits);
        },
        Prim.tt,
      ))
      (λ u. rw (t, u) Prim.tt))

  slots_kind : Every Unseen slots
  unfolding merging_slots
  slots_kind = every_each Unseen (merge_slot a left_base a right_base M bits) 64 slot_unseen

  -- After t of the stores of the slots.
  module _ (t : ℕ) where
    kind : Every Unseen (take t slots)
    kind = every_take Unseen t slots slots_kind

    -- A slot that is live in the left half is as it was.
    slot_stays : (j at : ℕ) → live (suc M) (2 * bits) (key_at a left_base j) ≡ true → InSlot left_base j at → word (exec slots t a) at ≡ word a at
    unfolding exec
    slot_stays j at l in-slot =
        word_elsewhere (take t slots) a at
        (every_map Unseen (λ s. s.at ≡ at → ⊥)
        (λ s u e.
        let q : u.slot ≡ j = one_slot left_base u.slot j at (rw e at u.at_slot) in-slot in
        true≢false (sym l ∙ rw q at u.not_live))
        (take t slots) kind)

    -- A key that was not live there is not live there.
    slot_stale : (j : ℕ) → j < 64 → live (suc M) (2 * bits) (key_at a left_base j) ≡ false → live (suc M) (2 * bits) (key_at (exec slots t a) left_base j) ≡ false
    unfolding exec
    slot_stale j k l =
        word_keeps (λ w. live (suc M) (2 * bits) w ≡ false) (take t slots) a (key_address left_base j) (left_inside _ (key_within d left j k)) l
        (every_map Unseen (λ s. s.at ≡ key_address left_base j → live (suc M) (2 * bits) s.value ≡ false)
        (λ s u e.
        let q : u.slot ≡ j = one_slot left_base u.slot j (key_address left_base j) (rw e at u.at_slot) (key_in_slot left_base j) in
        u.stale_key (e ∙ rw q refl))
        (take t slots) kind)

    slots_changed : BlockChanged m m g d S f (block_start g M i) a (exec slots t a)
    slots_changed =
        slots_unseen inv (block_start g M i) (left_in dir fits below h left_below right_below) (exec slots t a) (length_exec slots t a)
        (λ at other. exec_elsewhere (Within d left) slots t a at (slots_within a d left right_base M bits) (rw own_segment at other))
        (λ j k l.
        let l' = rw (own_segment, own_depth, own_bits) at l in
        rw own_segment
        (slot_stays j (key_address left_base j) l' (key_in_slot left_base j), slot_stays j (value_address left_base j) l' (value_in_slot left_base j)))
        (λ j k l. rw (own_segment, own_depth, own_bits) (slot_stale j k (rw (own_segment, own_depth, own_bits) at l)))

  slots_kept : Always (Kept m d S) slots a
  slots_kept t =
      record {
        g = g;
        f = f;
        inv = block_changed (block_start g M i) (left_in dir fits below h left_below right_below) (exec slots t a) inv same (slots_changed t);
      }

  -- ---- The array between slots and entries

  abbrev between : List ℕ
  between = apply slots a

  all_changed : BlockChanged m m g d S f (block_start g M i) a between
  all_changed = always_whole (BlockChanged m m g d S f (block_start g M i) a) slots a slots_changed

  now : Inv m g d S f between
  now = block_changed (block_start g M i) (left_in dir fits below h left_below right_below) between inv same all_changed

  now_same : Recovered g f between
  now_same = block_recovered (block_start g M i) (left_in dir fits below h left_below right_below) between inv same all_changed

  -- The right segment is as it was.
  right_same : SegmentSame d right a between
  right_same = all_changed.others_same right right_below (λ e. segments_apart dir fits below h left_below right_below (sym (e ∙ own_segment)))

  -- A key of the left segment that is live in the right half has come from there.
  came : (j : ℕ) → j < 64 → live (suc M) (2 * bits + 1) (key_at between left_base j) ≡ true → live_right M bits (key_at a right_base j) ≡ true
  came j k l =
      by_test (live_right M bits (key_at a right_base j))
      (λ t. t)
      (λ t. absurd (true≢false (sym l ∙ not_moved a left_base right_base M bits j k t (left_inside _ (key_within d left j k)))))

  live_there : (j : ℕ) → j < 64 → live (suc M) (2 * bits + 1) (key_at between right_base j) ≡ true → live_right M bits (key_at a right_base j) ≡ true
  live_there j k l = rw (same_key d right a between right_same j k) at l

  came_key : (j : ℕ) → j < 64 → live_right M bits (key_at a right_base j) ≡ true → key_at between left_base j ≡ key_at between right_base j
  came_key j k t =
      moved_key a left_base right_base M bits j k t (left_inside _ (key_within d left j k)) ∙ sym (same_key d right a between right_same j k)

  came_value : (j : ℕ) → j < 64 → live_right M bits (key_at a right_base j) ≡ true → value_at between left_base j ≡ value_at between right_base j
  came_value j k t =
      moved_value a left_base right_base M bits j k t (left_inside _ (value_within d left j k)) ∙ sym (same_value d right a between right_same j k)

  -- What the right segment holds for a key of the right half, the left one holds too.
  right_holds : (key : ℕ) → live (suc M) (2 * bits + 1) key ≡ true → Holds (m key) between right_base key
  right_holds key l =
      rw other_segment at (now.holds (right_start g M i) (right_in dir fits below h left_below right_below) key (rw (other_depth, other_bits) l))

  right_in_window : (j : ℕ) → j < 64 → live (suc M) (2 * bits + 1) (key_at between right_base j) ≡ true → Memᴰ j (window (key_at between right_base j))
  right_in_window j k l =
      rw other_segment at
      (now.in_window (right_start g M i) (right_in dir fits below h left_below right_below) j k (rw (other_segment, other_depth, other_bits) l))

  joined_holds : (key : ℕ) → live M bits key ≡ true → Holds (m key) between left_base key
  joined_holds key l =
      ⊎_elim
      (λ (t : live (suc M) (2 * bits) key ≡ true).
      rw own_segment at (now.holds (block_start g M i) (left_in dir fits below h left_below right_below) key (rw (own_depth, own_bits) t)))
      (λ (t : live (suc M) (2 * bits + 1) key ≡ true).
      holds_same (m key) between right_base between left_base key
      (λ j w q. let k = window_lt key j w in sym (came_key j k (came j k (rw q t))) ∙ q)
      (λ j w q.
      let k = window_lt key j w in
      let c = live_there j k (rw q t) in
      (came_key j k c ∙ q, came_value j k c))
      (right_holds key t))
      (either_half key l)

  joined_in_window : (j : ℕ) → j < 64 → live M bits (key_at between left_base j) ≡ true → Memᴰ j (window (key_at between left_base j))
  joined_in_window j k l =
      ⊎_elim
      (λ (t : live (suc M) (2 * bits) (key_at between left_base j) ≡ true).
      rw own_segment at
      (now.in_window (block_start g M i) (left_in dir fits below h left_below right_below) j k (rw (own_segment, own_depth, own_bits) t)))
      (λ (t : live (suc M) (2 * bits + 1) (key_at between left_base j) ≡ true).
      let e = came_key j k (came j k t) in
      rw e (right_in_window j k (rw e at t)))
      (either_half (key_at between left_base j) l)

  -- ---- The entries

  -- The directory that the whole merge leaves.
  abbrev joined : ℕ → ℕ
  joined = joined_directory g M f i left

  -- An index is in the joined block, or its entry is as it was.
  by_place : (k : ℕ) (P : Type 0) → (block_bits g M k ≡ block_bits g M i → P) → (joined k ≡ f k → P) → P
  by_place k P inside outside = by_equal (block_bits g M k) (block_bits g M i) inside (λ t. outside (joined_out g M f i left k t))

  -- The array between slots and entries serves both directories.
  serves : Serves m g d S joined i right between
  serves =
      record {
        shape = now.shape;
        directory = joined_directory_holds dir fits below h left_below right_below;
        holds = λ k l key t.
            by_place k (Holds (m key) between (base_at d joined k) key)
            (λ e. rw (joined_segment h fits left_below k e) (joined_holds key (rw (joined_depth_holds h fits left_below k e, e) at t)))
            (λ e. rw e (now.holds k l key (rw e at t)));
        in_window = λ k l j u t.
            by_place k (Memᴰ j (window (key_at between (base_at d joined k) j)))
            (λ e.
            rw (joined_segment h fits left_below k e)
            (joined_in_window j u (rw (joined_segment h fits left_below k e, joined_depth_holds h fits left_below k e, e) at t)))
            (λ e. rw e (now.in_window k l j u (rw e at t)));
        new_holds = λ key t. right_holds key (rw (joined_depth_holds h fits left_below i refl) at t);
        new_in_window = λ j u t. right_in_window j u (rw (joined_depth_holds h fits left_below i refl) at t);
      }

  entry_there : (j : ℕ) → j < 2 ^ g → entry_address g j < length between
  entry_there j l =
      rw (length_apply slots a) (omega (arith, entry_inside d g j inv.shape.present l, directories_below d S, inv.shape.room))

  -- The block that the entries are of ends within the directory.
  block_fits : block_start g M i + width g M ≤ 2 ^ g
  block_fits = block_end g M i (omega (arith, h.room)) below

  joining_outside : (t at : ℕ) → ((k : ℕ) → k < 2 ^ g → at ≡ entry_address g k → ⊥) → word (exec entries t between) at ≡ word between at
  joining_outside t at other =
      joining_elsewhere g M (block_start g M i) left between t at
      (λ q. other q.number (omega (arith, q.to, block_fits)) q.address)

  entries_between : (t : ℕ) → Between g d joined i right between (exec entries t between)
  entries_between t =
      record {
        length_same = length_exec entries t between;
        word_0_same = joining_outside t 0 (λ k l e. omega (arith, entry_positive g k));
        segments_same = λ at u. joining_outside t at (λ k l e. omega (arith, entry_inside d g k inv.shape.present l));
        entries = λ j l.
            ⊎_elim (λ e. inl e) (λ e. inr (e ∙ sym (halved_again h fits left_below j l)))
            (either_joined g M f i left between t j (entry_there j l) (now_same j l));
      }

  -- Once the first entry is stored, the invariant holds with the joined directory.
  joined_inv : (t : ℕ) → 0 < t → Inv m g d S joined (exec entries t between)
  joined_inv t one =
      old_inv i below (rw (joined_depth_holds h fits left_below i refl) h.room) right right_below (right_unnamed dir fits below h left_below right_below)
      serves (exec entries t between) (entries_between t)
      (λ k l b.
      begins_joined g M f i left between t k (entry_there k l) (now_same k l) one
      (λ q. sym (same_start g M i k q) ∙ rw (joined_depth_holds h fits left_below k q) at b))

  entries_kept : (t : ℕ) → Kept m d S (exec entries t between)
  entries_kept zero = rw exec_none (record { g = g; f = f; inv = now })
  entries_kept (suc t) = record { g = g; f = joined; inv = joined_inv (suc t) (omega arith) }

  -- The whole merge: every entry is the joined directory's.
  pub joined_recovered : Recovered g joined (apply entries between)
  joined_recovered j l = all_joined g M f i left between j (entry_there j l) (now_same j l)

  joined_now : Inv m g d S joined (apply entries between)
  joined_now =
      rw (exec_all entries (width g M) between (omega (arith, length_joining g M (block_start g M i) left))) at
      (joined_inv (width g M) (width_pos g M))

  joined_whole : Whole m d S (apply entries between)
  joined_whole = record { g = g; f = joined; inv = joined_now; recovered = joined_recovered }

  -- The merge's plan keeps the map, which is told nothing.
  pub merging_kept : PlanKept keeps m d S (record { due = slots ++ entries; reply = done [] }) a
  unfolding fed
  merging_kept =
      plan_after keeps a slots (record { due = entries; reply = done [] }) slots_kept
      (record { prefixes = λ t l. entries_kept t; whole = joined_whole; not_cut = refl; no_damage = refl })

  -- What the whole of it leaves has the shape that the array had.
  pub merged_shape : Shape g d S (apply (slots ++ entries) a)
  merged_shape = rw (apply_append slots entries a) joined_now.shape

  -- Behind it no entry names the right half's segment.
  pub right_freed : (j : ℕ) → j < 2 ^ g → segment_of (entry_at (apply (slots ++ entries) a) g j) ≡ right → ⊥
  right_freed j l e =
      right_unnamed dir fits below h left_below right_below j l
      (sym (ap segment_of (joined_recovered j l)) ∙ rw (apply_append slots entries a) at e)
