-- The copy step of a split, for an index and its block's bits: the new segment holds what the old one holds for the right half.
use mathlib.Core.Path.{◌≡◌, sym, ◌∙◌}
use mathlib.Core.Bool.{true}
use mathlib.Core.List.{List, [], ◌∷◌, Memᴰ}
use mathlib.Core.Logic.{◌⊎◌, inl, inr, ⊎_elim}
use Prim.Native.Nat.{ℕ, suc, ◌+◌, ◌*◌, ◌^◌, ◌<◌}
use native.Mathlib.Omega.{arith}
use lib.ListN.{length}
use lib.Pow.{pow_pos}
use Rattle.stores.specs.Lists.{pick}
use Rattle.stores.specs.Store.{Store, word, store, apply, exec, Every}
use Rattle.stores.proofs.Tests.{by_test}
use Rattle.stores.proofs.Lists.{every_pick}
use Rattle.stores.proofs.Stores.{length_exec, word_set_same}
use Rattle.stores.proofs.Prefixes.{Always, always_whole, exec_elsewhere}
use Rattle.index_rules.specs.Layout.{entry_address, entry_at, segment_of, local_depth, segment_address, key_address, value_address, key_at, value_at}
use Rattle.index_rules.specs.Keys.{live, window}
use Rattle.index_rules.specs.Split.{moves, copy_slot, copying}
use Rattle.index_laws.proofs.Words.{entry_inside, Within, within_inside, key_inside, value_inside, segments_disjoint}
use Rattle.index_laws.proofs.Keys.{live_nonzero, live_whole, window_lt}
use Rattle.runs.specs.Map.{Map}
use Rattle.index_history.proofs.Holds.{Holds, holds_same}
use Rattle.index_history.proofs.Invariant.{Inv, Recovered, base_at, SegmentSame, Framed, inv_framed}
use Rattle.index_history.proofs.Kept.{Kept}
use Rattle.index_laws.proofs.SlotStores.{InSlot, key_in_slot, value_in_slot, record_key, record_value, slot_alone}
use Rattle.index_laws.proofs.Halving.{moves_live, copying_within}
use Rattle.index_laws.proofs.Blocks.{bits_at}

-- The stores for slot k of the new segment go to slot k.
slot_stores_holds : (a : List ℕ) (from to L bits k : ℕ) → Every (λ s. InSlot to k s.at) (copy_slot a from to L bits k)
unfolding copy_slot
slot_stores_holds a from to L bits k =
    every_pick (λ s. InSlot to k s.at) (moves a from L bits k)
    (store (value_address to k) (value_at a from k) ∷ store (key_address to k) (key_at a from k) ∷ [])
    (store (key_address to k) 0 ∷ [])
    (value_in_slot to k, (key_in_slot to k, Prim.tt))
    (key_in_slot to k, Prim.tt)

module _ (a : List ℕ) (from to L bits j : ℕ) (h : j < 64) (b : List ℕ) where
  -- The key word of slot j in the new segment: the key of a record that moves, else 0.
  copied_key : key_address to j < length b
      → key_at (apply (copying a from to L bits) b) to j ≡ pick (moves a from L bits j) (key_at a from j) 0
  unfolding copying copy_slot apply
  copied_key inside =
      slot_alone to (copy_slot a from to L bits) (slot_stores_holds a from to L bits) j (key_address to j) 64 b (key_in_slot to j) h
      ∙ by_test (moves a from L bits j)
      (λ t. rw t (record_key to j (key_at a from j) (value_at a from j) b inside))
      (λ t. rw t (word_set_same b (key_address to j) 0 inside))

  -- The value of a record that moves.
  copied_value : value_address to j < length b → moves a from L bits j ≡ true
      → value_at (apply (copying a from to L bits) b) to j ≡ value_at a from j
  unfolding copying copy_slot apply
  copied_value inside t =
      slot_alone to (copy_slot a from to L bits) (slot_stores_holds a from to L bits) j (value_address to j) 64 b (value_in_slot to j) h
      ∙ rw t (record_value to j (key_at a from j) (value_at a from j) b inside)

-- The stores of step 3 for index i's block.
abbrev pub copies : (a : List ℕ) (g d : ℕ) → (ℕ → ℕ) → (i n : ℕ) → List Store
copies a g d f i n = copying a (base_at d f i) (segment_address d n) (local_depth (f i)) (bits_at g f i)

-- The array c, between step 3 and step 4: nothing that the invariant sees has changed, and the new segment holds what the map has
-- for the keys of the right half.
pub record Copied (m : Map) (g d S : ℕ) (f : ℕ → ℕ) (i n : ℕ) (c : List ℕ) : Type 0 where
  pub inv : Inv m g d S f c
  pub recovered : Recovered g f c
  pub new_holds : (key : ℕ) → live (suc (local_depth (f i))) (2 * bits_at g f i + 1) key ≡ true → Holds (m key) c (segment_address d n) key
  pub new_in_window : (j : ℕ) → j < 64
      → live (suc (local_depth (f i))) (2 * bits_at g f i + 1) (key_at c (segment_address d n) j) ≡ true
      → Memᴰ j (window (key_at c (segment_address d n) j))

module _ {m : Map} {g d S : ℕ} {f : ℕ → ℕ} {a : List ℕ} (inv : Inv m g d S f a) (same : Recovered g f a) (i : ℕ) (below : i < 2 ^ g)
    (n : ℕ) (new : n < S) (unnamed : (j : ℕ) → j < 2 ^ g → segment_of (f j) ≡ n → ⊥) where
  abbrev L : ℕ
  L = local_depth (f i)

  abbrev bits : ℕ
  bits = bits_at g f i

  -- Where the old segment begins, and the new one.
  abbrev old : ℕ
  old = base_at d f i

  abbrev fresh : ℕ
  fresh = segment_address d n

  abbrev step : List Store
  step = copies a g d f i n

  -- The array between the two steps.
  abbrev between : List ℕ
  between = apply step a

  -- Step 3 changes only words of the segment n.
  copies_elsewhere : (t at : ℕ) → (Within d n at → ⊥) → word (exec step t a) at ≡ word a at
  copies_elsewhere t at = exec_elsewhere (Within d n) step t a at (copying_within a old d n L bits)

  copies_segment : (t s : ℕ) → (s ≡ n → ⊥) → SegmentSame d s a (exec step t a)
  copies_segment t s u at w = copies_elsewhere t at (λ q. u (segments_disjoint d s n at w q))

  -- No address of a directory lies in the segment n.
  not_within : (at : ℕ) → at < 2 ^ suc d → Within d n at → ⊥
  not_within at h w = omega (arith, (within_inside d S n at new w).behind)

  copies_framed : (t : ℕ) → Framed g d f a (exec step t a)
  copies_framed t =
      record {
        length_same = length_exec step t a;
        word_0_same = copies_elsewhere t 0 (not_within 0 (pow_pos (suc d)));
        entries_same = λ k h.
            copies_elsewhere t (entry_address g k) (not_within (entry_address g k) (entry_inside d g k inv.shape.present h));
        named_same = λ k h. copies_segment t (segment_of (f k)) (unnamed k h);
        standing_same = λ k h. copies_segment t (segment_of (entry_at a g k)) (rw (same k h) (unnamed k h));
      }

  pub copies_kept : Always (Kept m d S) (copies a g d f i n) a
  copies_kept t = record { g = g; f = f; inv = inv_framed (exec step t a) (copies_framed t) inv }

  copied_framed : Framed g d f a between
  copied_framed = always_whole (Framed g d f a) step a copies_framed

  key_now : (j : ℕ) → j < 64 → key_at between fresh j ≡ pick (moves a old L bits j) (key_at a old j) 0
  key_now j h = copied_key a old fresh L bits j h a (omega (arith, (key_inside d S n j new h).below, inv.shape.room))

  value_now : (j : ℕ) → j < 64 → moves a old L bits j ≡ true → value_at between fresh j ≡ value_at a old j
  value_now j h t = copied_value a old fresh L bits j h a (omega (arith, (value_inside d S n j new h).below, inv.shape.room)) t

  -- The key word of the new segment is the old one, of a key live in the right half, or 0.
  new_key : (j : ℕ) → j < 64
      → ((key_at between fresh j ≡ key_at a old j) × (live (suc L) (2 * bits + 1) (key_at a old j) ≡ true)) ⊎ (key_at between fresh j ≡ 0)
  new_key j h =
      let moved = moves a old L bits j in
      by_test moved
      (λ t. inl (rw t at (key_now j h), sym (moves_live a old L bits j) ∙ t))
      (λ t. inr (rw t at (key_now j h)))

  copied_holds : (key : ℕ) → live (suc L) (2 * bits + 1) key ≡ true → Holds (m key) between fresh key
  copied_holds key t =
      holds_same (m key) a old between fresh key back forth (inv.holds i below key (live_whole L bits 1 key (omega arith) t))
    where
      back : (j : ℕ) → Memᴰ j (window key) → key_at between fresh j ≡ key → key_at a old j ≡ key
      back j w q =
          ⊎_elim
          (λ r. sym r.0 ∙ q)
          (λ r. absurd (live_nonzero (suc L) (2 * bits + 1) key t (sym q ∙ r)))
          (new_key j (window_lt key j w))

      forth : (j : ℕ) → Memᴰ j (window key) → key_at a old j ≡ key
          → (key_at between fresh j ≡ key) × (value_at between fresh j ≡ value_at a old j)
      forth j w q =
          let moved : moves a old L bits j ≡ true = moves_live a old L bits j ∙ rw q t in
          ((rw moved at (key_now j (window_lt key j w))) ∙ q, value_now j (window_lt key j w) moved)

  copied_in_window : (j : ℕ) → j < 64 → live (suc L) (2 * bits + 1) (key_at between fresh j) ≡ true → Memᴰ j (window (key_at between fresh j))
  copied_in_window j h t =
      ⊎_elim
      (λ r. rw r.0 (inv.in_window i below j h (live_whole L bits 1 _ (omega arith) r.1)))
      (λ r. absurd (live_nonzero (suc L) (2 * bits + 1) _ t r))
      (new_key j h)

  pub copied : Copied m g d S f i n (apply (copies a g d f i n) a)
  copied =
      record {
        inv = inv_framed between copied_framed inv;
        recovered = λ k h. copied_framed.entries_same k h ∙ same k h;
        new_holds = copied_holds;
        new_in_window = copied_in_window;
      }
