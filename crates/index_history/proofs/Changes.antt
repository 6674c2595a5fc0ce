-- Changes of one segment, for an index and its block's bits: a new value at the hit; value, then key, into a slot that is not
-- live; the key cleared at the hit. The store needs no recovery before, nor after.
use mathlib.Core.Path.{◌≡◌, refl, sym, ◌∙◌}
use mathlib.Core.Bool.{false, true≢false}
use mathlib.Core.List.{List, Memᴰ}
use mathlib.Core.Option.{Option, none, some}
use Prim.Native.Nat.{ℕ, suc, ◌^◌, ◌≤◌, ◌<◌}
use native.Mathlib.Omega.{arith}
use borrow.Author.Tests.{eq-eqb, ne_eqb}
use lib.ListN.{length, set, length-set}
use lib.Pow.{pow_pos}
use Rattle.stores.proofs.Tests.{by_test, by_equal}
use Rattle.stores.proofs.Stores.{word_set_same, word_set_other}
use Rattle.stores.specs.Store.{word}
use Rattle.index_rules.specs.Layout.{words_for, entry_address, segment_of, local_depth, key_address, value_address, key_at, value_at}
use Rattle.index_rules.specs.Keys.{live, window}
use Rattle.index_rules.specs.Slots.{hit}
use Rattle.index_laws.proofs.Words.{Within, within_inside, key_within, value_within, entry_inside, segments_disjoint}
use Rattle.index_laws.proofs.Keys.{live_nonzero, live_empty, window_lt}
use Rattle.index_laws.proofs.Blocks.{bits_at}
use Rattle.index_laws.proofs.Slots.{hit_none, hit_window, hit_key, key_after_value, key_after_key}
use Rattle.runs.specs.Map.{Map, updated}
use Rattle.index_history.proofs.Holds.{Holds, holds_same, holds_new_value, holds_new_key, holds_removed, holds_other_value, holds_other_key}
use Rattle.index_history.proofs.Invariant.{Inv, LiveAt, BlockChanged, base_at}

-- ---- The map with another value for one key

pub updated_same : (m : Map) (key : ℕ) (v : Option ℕ) → updated m key v key ≡ v
unfolding updated
updated_same m key v = rw (eq-eqb key key refl)

pub updated_other : (m : Map) (key : ℕ) (v : Option ℕ) (other : ℕ) → (other ≡ key → ⊥) → updated m key v other ≡ m other
unfolding updated
updated_other m key v other n = rw (ne_eqb other key n)

-- ---- One store in the segment of index i's block

module _ {m : Map} {g d S : ℕ} {f : ℕ → ℕ} {a : List ℕ} (inv : Inv m g d S f a) (i : ℕ) (below : i < 2 ^ g) where
  -- The store leaves word 0, the directory and the other segments as they were; what it leaves in its own is to be shown.
  store_in_block : (m' : Map) (at v : ℕ) → Within d (segment_of (f i)) at
      → ((key : ℕ) → live (local_depth (f i)) (bits_at g f i) key ≡ false → m' key ≡ m key)
      → ((key : ℕ) → LiveAt g f i key → Holds (m' key) (set a at v) (base_at d f i) key)
      → ((j : ℕ) → j < 64 → LiveAt g f i (key_at (set a at v) (base_at d f i) j) → Memᴰ j (window (key_at (set a at v) (base_at d f i) j)))
      → BlockChanged m m' g d S f i a (set a at v)
  store_in_block m' at v w others holds windows =
      let far : 2 ^ suc d ≤ at = (within_inside d S (segment_of (f i)) at (inv.directory.entries.below i below) w).behind in
      record {
        length_same = length-set a at v;
        word_0_same = word_set_other a at 0 v (omega (arith, pow_pos (suc d)));
        entries_same = λ k h.
            let near : entry_address g k < 2 ^ suc d = entry_inside d g k inv.shape.present h in
            word_set_other a at (entry_address g k) v (omega arith);
        others_same = λ s h unlike x u.
            word_set_other a at x v (λ e. unlike (segments_disjoint d s (segment_of (f i)) at (rw e at u) w));
        map_same = others;
        now_holds = holds;
        now_in_window = windows;
      }

  -- The words of the block's slots are in the array.
  inside : (at : ℕ) → Within d (segment_of (f i)) at → at < length a
  inside at w =
      let low : at < words_for d S = (within_inside d S (segment_of (f i)) at (inv.directory.entries.below i below) w).below in
      let room : words_for d S ≤ length a = inv.shape.room in
      omega arith

  key_in_block : (j : ℕ) → j < 64 → Within d (segment_of (f i)) (key_address (base_at d f i) j)
  key_in_block j h = key_within d (segment_of (f i)) j h

  value_in_block : (j : ℕ) → j < 64 → Within d (segment_of (f i)) (value_address (base_at d f i) j)
  value_in_block j h = value_within d (segment_of (f i)) j h

  -- A key that is live in the block is not one that is not.
  unlike_stale : (key other : ℕ) → LiveAt g f i key → live (local_depth (f i)) (bits_at g f i) other ≡ false → other ≡ key → ⊥
  unlike_stale key other t s e = true≢false (sym t ∙ rw e at s)

  -- Keys that are not live in the block are as before in a map that changes for a key that is.
  others_as_before : (key : ℕ) (v : Option ℕ) → LiveAt g f i key → (other : ℕ) → live (local_depth (f i)) (bits_at g f i) other ≡ false
      → updated m key v other ≡ m other
  others_as_before key v t other s = updated_other m key v other (unlike_stale key other t s)

  -- A value stored in the block leaves the live records in their windows.
  windows_after_value : (j v k : ℕ) → k < 64 → LiveAt g f i (key_at (set a (value_address (base_at d f i) j) v) (base_at d f i) k)
      → Memᴰ k (window (key_at (set a (value_address (base_at d f i) j) v) (base_at d f i) k))
  windows_after_value j v k h t =
      let e = key_after_value a (base_at d f i) j v k in
      rw e (inv.in_window i below k h (rw e at t))

  -- So does a key stored in a slot of its own window, or 0.
  windows_after_key : (j x k : ℕ) → j < 64 → (LiveAt g f i x → Memᴰ j (window x)) → k < 64
      → LiveAt g f i (key_at (set a (key_address (base_at d f i) j) x) (base_at d f i) k)
      → Memᴰ k (window (key_at (set a (key_address (base_at d f i) j) x) (base_at d f i) k))
  windows_after_key j x k l own h t =
      by_equal k j
      (λ e.
      let there : key_at (set a (key_address (base_at d f i) j) x) (base_at d f i) k ≡ x =
      rw e (word_set_same a (key_address (base_at d f i) j) x (inside _ (key_in_block j l)))
      in
      rw (there, e) (own (rw there at t)))
      (λ q.
      let there = key_after_key a (base_at d f i) j x k q in
      rw there (inv.in_window i below k h (rw there at t)))

  -- ---- The changes

  -- The new value of a live key, stored at the hit.
  pub new_value : (key j v : ℕ) → LiveAt g f i key → hit a (base_at d f i) key ≡ some j
      → BlockChanged m (updated m key (some v)) g d S f i a (set a (value_address (base_at d f i) j) v)
  new_value key j v t e =
      let base = base_at d f i in
      let small : j < 64 = window_lt key j (hit_window a base key j e) in
      store_in_block (updated m key (some v)) (value_address base j) v (value_in_block j small) (others_as_before key (some v) t)
      (λ other u.
      by_equal other key
      (λ q.
      rw (q, updated_same m key (some v))
      (holds_new_value (m key) a base key j v (inside _ (value_in_block j small)) (inv.holds i below key t) e))
      (λ n.
      rw (updated_other m key (some v) other n)
      (holds_other_value (m other) a base other j v (λ r. n (sym r ∙ hit_key a base key j e)) (inv.holds i below other u))))
      (windows_after_value j v)

  -- A value stored into a slot that is not live is not seen.
  pub value_unseen : (j v : ℕ) → j < 64 → live (local_depth (f i)) (bits_at g f i) (key_at a (base_at d f i) j) ≡ false
      → BlockChanged m m g d S f i a (set a (value_address (base_at d f i) j) v)
  value_unseen j v small stale =
      store_in_block m (value_address (base_at d f i) j) v (value_in_block j small) (λ key s. refl)
      (λ key t.
      holds_other_value (m key) a (base_at d f i) key j v (unlike_stale key (key_at a (base_at d f i) j) t stale)
      (inv.holds i below key t))
      (windows_after_value j v)

  -- Any change of slots that are not live, to keys that are not live, is not seen.
  pub slots_unseen : (b : List ℕ) → length b ≡ length a → ((at : ℕ) → (Within d (segment_of (f i)) at → ⊥) → word b at ≡ word a at)
      → ((j : ℕ) → j < 64 → LiveAt g f i (key_at a (base_at d f i) j)
      → (key_at b (base_at d f i) j ≡ key_at a (base_at d f i) j) × (value_at b (base_at d f i) j ≡ value_at a (base_at d f i) j))
      → ((j : ℕ) → j < 64 → live (local_depth (f i)) (bits_at g f i) (key_at a (base_at d f i) j) ≡ false
      → live (local_depth (f i)) (bits_at g f i) (key_at b (base_at d f i) j) ≡ false)
      → BlockChanged m m g d S f i a b
  slots_unseen b l elsewhere stays unseen =
      record {
        length_same = l;
        word_0_same = elsewhere 0 (in_front_holds 0 (pow_pos (suc d)));
        entries_same = λ k h. elsewhere (entry_address g k) (in_front_holds (entry_address g k) (entry_inside d g k inv.shape.present h));
        others_same = λ s h unlike x u. elsewhere x (λ w. unlike (segments_disjoint d s (segment_of (f i)) x u w));
        map_same = λ key s. refl;
        now_holds = λ key t.
            holds_same (m key) a base b base key
            (λ j w q. let small = window_lt key j w in sym (live_before j small (rw q t)) ∙ q)
            (λ j w q. let e = stays j (window_lt key j w) (rw q t) in (e.0 ∙ q, e.1))
            (inv.holds i below key t);
        now_in_window = λ j h t.
            let e = live_before j h t in
            rw e (inv.in_window i below j h (rw e at t));
      }
    where
      base : ℕ
      base = base_at d f i

      -- No address of word 0 and the directories lies in the segment.
      in_front_holds : (at : ℕ) → at < 2 ^ suc d → Within d (segment_of (f i)) at → ⊥
      in_front_holds at h w = omega (arith, (within_inside d S (segment_of (f i)) at (inv.directory.entries.below i below) w).behind)

      -- A key that is live now was there before.
      live_before : (j : ℕ) → j < 64 → LiveAt g f i (key_at b base j) → key_at b base j ≡ key_at a base j
      live_before j h t =
          by_test (live (local_depth (f i)) (bits_at g f i) (key_at a base j))
          (λ u. (stays j h u).0)
          (λ u. absurd (true≢false (sym t ∙ unseen j h u)))

  -- A live key that the window did not have, stored into a slot that is not live and has the value v.
  pub new_key : (key j v : ℕ) → LiveAt g f i key → Memᴰ j (window key) → hit a (base_at d f i) key ≡ none
      → live (local_depth (f i)) (bits_at g f i) (key_at a (base_at d f i) j) ≡ false
      → value_at a (base_at d f i) j ≡ v
      → BlockChanged m (updated m key (some v)) g d S f i a (set a (key_address (base_at d f i) j) key)
  new_key key j v t w e stale there =
      let base = base_at d f i in
      let small : j < 64 = window_lt key j w in
      store_in_block (updated m key (some v)) (key_address base j) key (key_in_block j small) (others_as_before key (some v) t)
      (λ other u.
      by_equal other key
      (λ q.
      rw (q, updated_same m key (some v))
      (holds_new_key a base key j v (inside _ (key_in_block j small)) w (hit_none a base key e) there))
      (λ n.
      rw (updated_other m key (some v) other n)
      (holds_other_key (m other) a base other j key (inside _ (key_in_block j small)) (unlike_stale other (key_at a base j) u stale)
      (λ r. n (sym r)) (inv.holds i below other u))))
      (λ k. windows_after_key j key k small (λ u. w))

  -- The key word of a live key cleared at the hit.
  pub key_removed : (key j : ℕ) → LiveAt g f i key → hit a (base_at d f i) key ≡ some j
      → BlockChanged m (updated m key none) g d S f i a (set a (key_address (base_at d f i) j) 0)
  key_removed key j t e =
      let base = base_at d f i in
      let small : j < 64 = window_lt key j (hit_window a base key j e) in
      store_in_block (updated m key none) (key_address base j) 0 (key_in_block j small) (others_as_before key none t)
      (λ other u.
      by_equal other key
      (λ q.
      rw (q, updated_same m key none)
      (holds_removed (m key) a base key j (live_nonzero (local_depth (f i)) (bits_at g f i) key t) (inside _ (key_in_block j small))
      (inv.holds i below key t) e))
      (λ n.
      rw (updated_other m key none other n)
      (holds_other_key (m other) a base other j 0 (inside _ (key_in_block j small)) (λ r. n (sym r ∙ hit_key a base key j e))
      (λ r. live_nonzero (local_depth (f i)) (bits_at g f i) other u (sym r)) (inv.holds i below other u))))
      (λ k. windows_after_key j 0 k small (λ u. absurd (true≢false (sym u ∙ live_empty (local_depth (f i)) (bits_at g f i)))))
