-- The doubling of the directory: the map is kept after every number of its stores, and what the whole of it leaves.
use mathlib.Core.Path.{◌≡◌, sym, ap, ◌∙◌}
use mathlib.Core.List.{List, [], ◌∷◌, Memᴰ}
use Prim.Native.Nat.{ℕ, suc, ◌/◌, ◌^◌, ◌≤◌, ◌<◌}
use native.Mathlib.Omega.{arith}
use lib.Pow.{pow_mono, pow_pos}
use Rattle.stores.specs.Store.{Store, word, store, apply, exec}
use Rattle.stores.proofs.Stores.{apply_append, length_exec}
use Rattle.stores.proofs.Prefixes.{Always, always_whole, always_append, always_one, exec_elsewhere}
use Rattle.index_rules.specs.Layout.{depth, max_depth, segments, header, entry_address, entry_at, segment_of, local_depth, key_at}
use Rattle.index_rules.specs.Keys.{window}
use Rattle.index_rules.specs.Split.{doubling}
use Rattle.index_laws.proofs.Words.{entry_to, within_inside}
use Rattle.index_laws.proofs.Keys.{bits_doubled}
use Rattle.index_laws.proofs.Blocks.{doubled_directory, doubled_blocks, bits_at}
use Rattle.runs.specs.Map.{Map}
use Rattle.index_history.proofs.Holds.{Holds}
use Rattle.index_history.proofs.Invariant.{Shape, Directory, Inv, Recovered, LiveAt, base_at, SegmentSame, Framed, inv_framed, recovered_lookups, shape_depth, shape_max_depth, shape_segments, shape_valid, same_key, same_holds}
use Rattle.index_history.proofs.Kept.{Kept}
use Rattle.index_laws.proofs.Doubling.{DirectoryWord, doubled_entries, doubled_entries_holds, doubling_parts, doubled_word_0, Doubled, after_doubling}

-- No two blocks of the doubled directory share a segment.
doubled_directory_holds : {g S : ℕ} {f : ℕ → ℕ} → Directory g S f → Directory (suc g) S (doubled_directory f)
doubled_directory_holds {g} {S} {f} dir =
    record {
      entries = doubled_blocks dir.entries;
      apart = λ i j h k e.
          let l : local_depth (f (i / 2)) ≤ g = dir.entries.depths (i / 2) (omega arith) in
          bits_doubled g (local_depth (f (i / 2))) j l
          ∙ dir.apart (i / 2) (j / 2) (omega arith) (omega arith) e
          ∙ sym (bits_doubled g (local_depth (f (i / 2))) i l);
    }

module _ {m : Map} {g d S : ℕ} {f : ℕ → ℕ} {a : List ℕ} (inv : Inv m g d S f a) (same : Recovered g f a) (room : g < d) where
  -- ---- The whole doubling

  depth_room : depth a < max_depth a
  depth_room = rw (shape_depth inv.shape, shape_max_depth inv.shape) room

  left : Doubled a (apply (doubling a) a)
  left = after_doubling a (shape_valid inv.shape) depth_room

  doubled_shape : Shape (suc g) d S (apply (doubling a) a)
  doubled_shape =
      record {
        word_0 = doubled_word_0 a (shape_valid inv.shape) depth_room
            ∙ rw (shape_depth inv.shape, shape_max_depth inv.shape, shape_segments inv.shape);
        deep = inv.shape.deep;
        shallow = inv.shape.shallow;
        present = room;
        some_segment = inv.shape.some_segment;
        few_segments = inv.shape.few_segments;
        room = rw left.length_kept inv.shape.room;
      }

  pub doubled_recovered : Recovered (suc g) (doubled_directory f) (apply (doubling a) a)
  doubled_recovered e h =
      (rw (shape_depth inv.shape) at left.entries) e h ∙ same (e / 2) (omega arith)

  -- The segments' words are as they were.
  segments_same : (s : ℕ) → s < S → SegmentSame d s a (apply (doubling a) a)
  segments_same s h at w =
      let p : 2 ^ suc (suc g) ≤ 2 ^ suc d = pow_mono {i = suc (suc g)} {j = suc d} (omega arith) in
      let b : 2 ^ suc d ≤ at = (within_inside d S s at h w).behind in
      (rw (shape_depth inv.shape) at left.behind) at (omega arith)

  -- An index of the doubled directory has the block bits of the index that it comes from.
  same_bits : (i : ℕ) → i < 2 ^ suc g → bits_at (suc g) (doubled_directory f) i ≡ bits_at g f (i / 2)
  same_bits i h = bits_doubled g (local_depth (f (i / 2))) i (inv.directory.entries.depths (i / 2) (omega arith))

  doubled_holds : (i : ℕ) → i < 2 ^ suc g → (key : ℕ) → LiveAt (suc g) (doubled_directory f) i key
      → Holds (m key) (apply (doubling a) a) (base_at d (doubled_directory f) i) key
  doubled_holds i h key t =
      same_holds d (segment_of (f (i / 2))) a (apply (doubling a) a)
      (segments_same (segment_of (f (i / 2))) (inv.directory.entries.below (i / 2) (omega arith))) (m key) key
      (inv.holds (i / 2) (omega arith) key (rw (same_bits i h) at t))

  doubled_in_window : (i : ℕ) → i < 2 ^ suc g → (j : ℕ) → j < 64
      → LiveAt (suc g) (doubled_directory f) i (key_at (apply (doubling a) a) (base_at d (doubled_directory f) i) j)
      → Memᴰ j (window (key_at (apply (doubling a) a) (base_at d (doubled_directory f) i) j))
  doubled_in_window i h j l t =
      let e =
      same_key d (segment_of (f (i / 2))) a (apply (doubling a) a)
      (segments_same (segment_of (f (i / 2))) (inv.directory.entries.below (i / 2) (omega arith))) j l in
      rw e (inv.in_window (i / 2) (omega arith) j l (rw (same_bits i h, e) at t))

  pub doubled : Inv m (suc g) d S (doubled_directory f) (apply (doubling a) a)
  doubled =
      record {
        shape = doubled_shape;
        directory = doubled_directory_holds inv.directory;
        leaders_agree = λ i h e. doubled_recovered i h;
        holds = doubled_holds;
        in_window = doubled_in_window;
        lookups_agree = recovered_lookups (doubled_directory_holds inv.directory) doubled_holds doubled_recovered;
      }

  -- ---- Under every allowance

  -- The stores before the last leave every address but those of the next directory.
  entries_elsewhere : (n at : ℕ) → (DirectoryWord (suc g) at → ⊥) → word (exec (doubled_entries a) n a) at ≡ word a at
  entries_elsewhere n at other =
      exec_elsewhere (DirectoryWord (suc (depth a))) (doubled_entries a) n a at (doubled_entries_holds a) (rw (shape_depth inv.shape) other)

  -- The stores before the last change nothing that the invariant sees.
  entries_framed : (n : ℕ) → Framed g d f a (exec (doubled_entries a) n a)
  entries_framed n =
      record {
        length_same = length_exec (doubled_entries a) n a;
        word_0_same = entries_elsewhere n 0 (λ e. omega (arith, e.from, pow_pos (suc g)));
        entries_same = λ i h. entries_elsewhere n (entry_address g i) (λ e. omega (arith, e.from, entry_to g i h));
        named_same = λ i h. segment (segment_of (f i)) (inv.directory.entries.below i h);
        standing_same = λ i h. segment (segment_of (entry_at a g i)) (inv.lookups_agree i h).segment_fits;
      }
    where
      segment : (s : ℕ) → s < S → SegmentSame d s a (exec (doubled_entries a) n a)
      segment s h at w =
          let p : 2 ^ suc (suc g) ≤ 2 ^ suc d = pow_mono {i = suc (suc g)} {j = suc d} (omega arith) in
          entries_elsewhere n at (λ e. omega (arith, e.to, (within_inside d S s at h w).behind))

  entries_kept : Always (Kept m d S) (doubled_entries a) a
  entries_kept n = record { g = g; f = f; inv = inv_framed (exec (doubled_entries a) n a) (entries_framed n) inv }

  -- After every number of stores of a doubling the map is kept.
  pub doubling_kept : Always (Kept m d S) (doubling a) a
  doubling_kept =
      let last : Store = store 0 (header (suc (depth a)) (max_depth a) (segments a)) in
      let all : apply (doubling a) a ≡ apply (last ∷ []) (apply (doubled_entries a) a) =
      ap (λ (ss : List Store). apply ss a) (doubling_parts a) ∙ apply_append (doubled_entries a) (last ∷ []) a in
      rw (doubling_parts a)
      (always_append (Kept m d S) (doubled_entries a) (last ∷ []) a entries_kept
      (always_one (Kept m d S) last (apply (doubled_entries a) a) (always_whole (Kept m d S) (doubled_entries a) a entries_kept)
      (record { g = suc g; f = doubled_directory f; inv = rw all at doubled })))
