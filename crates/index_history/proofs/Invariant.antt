-- The invariant of the history proof: what holds of the array at every point of a run, with the map as it is then.
-- Its facts speak of an index of the directory and of its block's bits, not of a key.
use mathlib.Core.Path.{◌≡◌, refl, sym, ap, ◌∙◌}
use mathlib.Core.Bool.{true, false}
use mathlib.Core.List.{List, Memᴰ}
use mathlib.Core.Option.{Option}
use Prim.Native.Nat.{ℕ, ◌^◌, ◌≤◌, ◌<◌}
use native.Mathlib.Omega.{arith}
use lib.ListN.{length}
use lib.Pow.{pow_mono}
use Rattle.stores.specs.Store.{word}
use Rattle.stores.proofs.Tests.{by_test, by_equal}
use Rattle.index_rules.specs.Layout.{depth, max_depth, segments, header, words_for, entry_at, segment_of, local_depth, segment_address, key_at, value_at}
use Rattle.index_rules.specs.Keys.{index, block_bits, block_start, live, window}
use Rattle.index_laws.proofs.Words.{ValidHeader, header_depth, header_max_depth, header_segments, header_mark, Within, key_within, value_within}
use Rattle.index_laws.proofs.Keys.{index_lt, index_shift, live_nonzero, live_index, live_true, window_lt}
use Rattle.index_laws.proofs.Blocks.{bits_at, SameBlock, Blocks}
use Rattle.runs.specs.Map.{Map}
use Rattle.index_history.proofs.Holds.{Holds, holds_same}

-- ---- The facts

-- Word 0 packs G, D and S, within their bounds, and the array has room.
pub record Shape (g d S : ℕ) (a : List ℕ) : Type 0 where
  pub word_0 : word a 0 ≡ header g d S
  pub deep : 2 ≤ d
  pub shallow : d ≤ 12
  pub present : g ≤ d
  pub some_segment : 1 ≤ S
  pub few_segments : S ≤ 2 ^ d
  pub room : words_for d S ≤ length a

-- The address of the segment that index i's entry in f names.
abbrev pub base_at : (d : ℕ) → (ℕ → ℕ) → (i : ℕ) → ℕ
base_at d f i = segment_address d (segment_of (f i))

-- The key is live in index i's block.
abbrev pub LiveAt : (g : ℕ) → (ℕ → ℕ) → (i key : ℕ) → Type 0
LiveAt g f i key = live (local_depth (f i)) (bits_at g f i) key ≡ true

-- f is a consistent directory of depth g in which no two blocks share a segment.
pub record Directory (g S : ℕ) (f : ℕ → ℕ) : Type 0 where
  pub entries : Blocks g S f
  pub apart : (i j : ℕ) → i < 2 ^ g → j < 2 ^ g → segment_of (f j) ≡ segment_of (f i) → SameBlock g f i j

-- A lookup agrees: entry i, as it stands, is in range, and its segment holds what the map has for each key of this index.
pub record LookupAgrees (m : Map) (g d S : ℕ) (a : List ℕ) (i : ℕ) : Type 0 where
  pub depth_fits : local_depth (entry_at a g i) ≤ g
  pub segment_fits : segment_of (entry_at a g i) < S
  pub found : (key : ℕ) → live g i key ≡ true → Holds (m key) a (segment_address d (segment_of (entry_at a g i))) key

-- The invariant. f is the directory as mending would leave it.
pub record Inv (m : Map) (g d S : ℕ) (f : ℕ → ℕ) (a : List ℕ) : Type 0 where
  pub shape : Shape g d S a
  pub directory : Directory g S f
  -- where a block begins, the entry is f's
  pub leaders_agree : (i : ℕ) → i < 2 ^ g → block_start g (local_depth (f i)) i ≡ i → entry_at a g i ≡ f i
  -- the segment of a block holds what the map has for each key that is live there
  pub holds : (i : ℕ) → i < 2 ^ g → (key : ℕ) → LiveAt g f i key → Holds (m key) a (base_at d f i) key
  -- a live record of a block lies in its key's probe window
  pub in_window : (i : ℕ) → i < 2 ^ g → (j : ℕ) → j < 64 → LiveAt g f i (key_at a (base_at d f i) j)
      → Memᴰ j (window (key_at a (base_at d f i) j))
  pub lookups_agree : (i : ℕ) → i < 2 ^ g → LookupAgrees m g d S a i

-- The array needs no recovery: every entry is f's (document 01: tidy).
abbrev pub Recovered : (g : ℕ) → (ℕ → ℕ) → List ℕ → Type 0
Recovered g f a = (i : ℕ) → i < 2 ^ g → entry_at a g i ≡ f i

-- ---- Word 0

module _ {g d S : ℕ} {a : List ℕ} (s : Shape g d S a) where
  S-bound : S ≤ 4096
  S-bound =
      let few : S ≤ 2 ^ d = s.few_segments in
      let p : 2 ^ d ≤ 4096 = pow_mono {j = 12} s.shallow in
      omega arith

  pub segments_fit : S < 2 ^ 16
  segments_fit = let b : S ≤ 4096 = S-bound in omega arith

  pub shape_depth : depth a ≡ g
  shape_depth = rw s.word_0 (header_depth g d S (omega (arith, s.present, s.shallow)) (omega (arith, s.shallow)) segments_fit)

  pub shape_max_depth : max_depth a ≡ d
  shape_max_depth =
      rw s.word_0 (header_max_depth g d S (omega (arith, s.present, s.shallow)) (omega (arith, s.shallow)) segments_fit)

  pub shape_segments : segments a ≡ S
  shape_segments =
      rw s.word_0 (header_segments g d S (omega (arith, s.present, s.shallow)) (omega (arith, s.shallow)) segments_fit)

  pub shape_valid : ValidHeader a
  shape_valid =
      record {
        marked = rw s.word_0 (header_mark g d S (omega (arith, s.present, s.shallow)) (omega (arith, s.shallow)) segments_fit);
        depth_low = rw shape_max_depth s.deep;
        depth_high = rw shape_max_depth s.shallow;
        present = rw (shape_depth, shape_max_depth) s.present;
        segments_low = rw shape_segments s.some_segment;
        segments_high = rw (shape_segments, shape_max_depth) s.few_segments;
        room = rw (shape_max_depth, shape_segments) s.room;
      }

-- The shape is kept with word 0 and the length.
pub shape_kept : {g d S : ℕ} {a : List ℕ} (b : List ℕ) → Shape g d S a → word b 0 ≡ word a 0 → length b ≡ length a → Shape g d S b
shape_kept b s e l =
    record {
      word_0 = e ∙ s.word_0;
      deep = s.deep;
      shallow = s.shallow;
      present = s.present;
      some_segment = s.some_segment;
      few_segments = s.few_segments;
      room = rw l s.room;
    }

-- ---- Blocks and live keys

-- A key of index i is live in every block that holds i.
pub live_above : (g L i key : ℕ) → L ≤ g → live g i key ≡ true → live L (block_bits g L i) key ≡ true
live_above g L i key h t =
    live_true L (block_bits g L i) key (live_nonzero g i key t)
    (sym (index_shift key g L h) ∙ ap (block_bits g L) (live_index g i key t))

-- A key but 0 is live at its own index.
pub live_own : (g key : ℕ) → (key ≡ 0 → ⊥) → live g (index key g) key ≡ true
live_own g key nonzero = live_true g (index key g) key nonzero refl

-- A key that is live in index i's block has its own index in that block.
pub live_block : {g S : ℕ} {f : ℕ → ℕ} → Directory g S f → (i key : ℕ) → i < 2 ^ g → LiveAt g f i key → f (index key g) ≡ f i
live_block {g} {S} {f} dir i key h t =
    dir.entries.blocks i (index key g) h (index_lt key g)
    (index_shift key g (local_depth (f i)) (dir.entries.depths i h) ∙ live_index (local_depth (f i)) (bits_at g f i) key t)

-- Where all entries are f's, lookups agree with the blocks.
pub recovered_lookups : {m : Map} {g d S : ℕ} {f : ℕ → ℕ} {a : List ℕ} → Directory g S f
    → ((i : ℕ) → i < 2 ^ g → (key : ℕ) → LiveAt g f i key → Holds (m key) a (base_at d f i) key)
    → Recovered g f a
    → (i : ℕ) → i < 2 ^ g → LookupAgrees m g d S a i
recovered_lookups {m} {g} {d} {S} {f} {a} dir holds same i h =
    record {
      depth_fits = rw (same i h) (dir.entries.depths i h);
      segment_fits = rw (same i h) (dir.entries.below i h);
      found = λ key t. rw (same i h) (holds i h key (live_above g (local_depth (f i)) i key (dir.entries.depths i h) t));
    }

-- ---- What a change elsewhere leaves

-- The words of segment s are the same in both arrays.
abbrev pub SegmentSame : (d s : ℕ) (a b : List ℕ) → Type 0
SegmentSame d s a b = (at : ℕ) → Within d s at → word b at ≡ word a at

module _ (d s : ℕ) (a b : List ℕ) (same : SegmentSame d s a b) where
  pub same_key : (j : ℕ) → j < 64 → key_at b (segment_address d s) j ≡ key_at a (segment_address d s) j
  same_key j h = same _ (key_within d s j h)

  pub same_value : (j : ℕ) → j < 64 → value_at b (segment_address d s) j ≡ value_at a (segment_address d s) j
  same_value j h = same _ (value_within d s j h)

  pub same_holds : (m : Option ℕ) (key : ℕ) → Holds m a (segment_address d s) key → Holds m b (segment_address d s) key
  same_holds m key =
      holds_same m a (segment_address d s) b (segment_address d s) key
      (λ j w q. sym (same_key j (window_lt key j w)) ∙ q)
      (λ j w q. (same_key j (window_lt key j w) ∙ q, same_value j (window_lt key j w)))

-- What is the same in two arrays as far as the invariant can see: word 0, the present directory, and the named segments.
pub record Framed (g d : ℕ) (f : ℕ → ℕ) (a b : List ℕ) : Type 0 where
  pub length_same : length b ≡ length a
  pub word_0_same : word b 0 ≡ word a 0
  pub entries_same : (i : ℕ) → i < 2 ^ g → entry_at b g i ≡ entry_at a g i
  pub named_same : (i : ℕ) → i < 2 ^ g → SegmentSame d (segment_of (f i)) a b
  pub standing_same : (i : ℕ) → i < 2 ^ g → SegmentSame d (segment_of (entry_at a g i)) a b

pub inv_framed : {m : Map} {g d S : ℕ} {f : ℕ → ℕ} {a : List ℕ} (b : List ℕ) → Framed g d f a b → Inv m g d S f a → Inv m g d S f b
inv_framed {m} {g} {d} {S} {f} {a} b fr inv =
    record {
      shape = shape_kept b inv.shape fr.word_0_same fr.length_same;
      directory = inv.directory;
      leaders_agree = λ i h e. fr.entries_same i h ∙ inv.leaders_agree i h e;
      holds = λ i h key t. same_holds d (segment_of (f i)) a b (fr.named_same i h) (m key) key (inv.holds i h key t);
      in_window = λ i h j k t.
          let e = same_key d (segment_of (f i)) a b (fr.named_same i h) j k in
          rw e (inv.in_window i h j k (rw e at t));
      lookups_agree = λ i h.
          let l = inv.lookups_agree i h in
          let e = fr.entries_same i h in
          record {
            depth_fits = rw e l.depth_fits;
            segment_fits = rw e l.segment_fits;
            found = λ key t. rw e (same_holds d (segment_of (entry_at a g i)) a b (fr.standing_same i h) (m key) key (l.found key t));
          };
    }

-- ---- A change of one block's segment, where no entry needs mending

-- b differs from a in the segment of index i's block alone, which in b holds what the map m' has for the block's live keys;
-- for all other keys m' is m.
pub record BlockChanged (m m' : Map) (g d S : ℕ) (f : ℕ → ℕ) (i : ℕ) (a b : List ℕ) : Type 0 where
  pub length_same : length b ≡ length a
  pub word_0_same : word b 0 ≡ word a 0
  pub entries_same : (k : ℕ) → k < 2 ^ g → entry_at b g k ≡ entry_at a g k
  pub others_same : (s : ℕ) → s < S → (s ≡ segment_of (f i) → ⊥) → SegmentSame d s a b
  pub map_same : (key : ℕ) → live (local_depth (f i)) (bits_at g f i) key ≡ false → m' key ≡ m key
  pub now_holds : (key : ℕ) → LiveAt g f i key → Holds (m' key) b (base_at d f i) key
  pub now_in_window : (j : ℕ) → j < 64 → LiveAt g f i (key_at b (base_at d f i) j) → Memᴰ j (window (key_at b (base_at d f i) j))

module _ {m m' : Map} {g d S : ℕ} {f : ℕ → ℕ} {a : List ℕ} (i : ℕ) (below : i < 2 ^ g) (b : List ℕ) (inv : Inv m g d S f a)
    (same : Recovered g f a) (ch : BlockChanged m m' g d S f i a b) where
  -- A key that is live in a block with another segment is not live in index i's block.
  not_live_here : (k : ℕ) → k < 2 ^ g → (segment_of (f k) ≡ segment_of (f i) → ⊥) → (key : ℕ) → LiveAt g f k key
      → live (local_depth (f i)) (bits_at g f i) key ≡ false
  not_live_here k h unlike key t =
      by_test (live (local_depth (f i)) (bits_at g f i) key)
      (λ u. absurd (unlike (ap segment_of (sym (live_block inv.directory k key h t) ∙ live_block inv.directory i key below u))))
      (λ u. u)

  -- A block with the same segment is index i's block.
  same_entry : (k : ℕ) → k < 2 ^ g → segment_of (f k) ≡ segment_of (f i) → f k ≡ f i
  same_entry k h e = inv.directory.entries.blocks i k below h (inv.directory.apart i k below h e)

  same_bits : (k : ℕ) → k < 2 ^ g → segment_of (f k) ≡ segment_of (f i) → bits_at g f k ≡ bits_at g f i
  same_bits k h e = ap (λ (x : ℕ). block_bits g (local_depth x) k) (same_entry k h e) ∙ inv.directory.apart i k below h e

  now_holds_all : (k : ℕ) → k < 2 ^ g → (key : ℕ) → LiveAt g f k key → Holds (m' key) b (base_at d f k) key
  now_holds_all k h key t =
      by_equal (segment_of (f k)) (segment_of (f i))
      (λ q. rw (same_entry k h q) (ch.now_holds key (rw (same_bits k h q, ap local_depth (same_entry k h q)) at t)))
      (λ u.
      rw (ch.map_same key (not_live_here k h u key t))
      (same_holds d (segment_of (f k)) a b (ch.others_same (segment_of (f k)) (inv.directory.entries.below k h) u) (m key) key
      (inv.holds k h key t)))

  now_in_window_all : (k : ℕ) → k < 2 ^ g → (j : ℕ) → j < 64 → LiveAt g f k (key_at b (base_at d f k) j)
      → Memᴰ j (window (key_at b (base_at d f k) j))
  now_in_window_all k h j l t =
      by_equal (segment_of (f k)) (segment_of (f i))
      (λ q. rw (same_entry k h q) (ch.now_in_window j l (rw (same_bits k h q, same_entry k h q) at t)))
      (λ u.
      let w =
      same_key d (segment_of (f k)) a b (ch.others_same (segment_of (f k)) (inv.directory.entries.below k h) u) j l
      in
      rw w (inv.in_window k h j l (rw w at t)))

  pub block_recovered : Recovered g f b
  block_recovered k h = ch.entries_same k h ∙ same k h

  pub block_changed : Inv m' g d S f b
  block_changed =
      record {
        shape = shape_kept b inv.shape ch.word_0_same ch.length_same;
        directory = inv.directory;
        leaders_agree = λ k h e. block_recovered k h;
        holds = now_holds_all;
        in_window = now_in_window_all;
        lookups_agree = recovered_lookups inv.directory now_holds_all block_recovered;
      }
