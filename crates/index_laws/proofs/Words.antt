-- Laws of the layout: what a valid word 0 says, what is packed in word 0 and in an entry, and that addresses do not overlap.
use mathlib.Core.Path.{◌≡◌}
use mathlib.Core.Bool.{true, ◌&&◌}
use mathlib.Core.List.{List}
use Prim.Native.Nat.{ℕ, suc, ◌+◌, ◌^◌, ◌≤◌, ◌<◌}
use native.Mathlib.Omega.{arith}
use borrow.Author.Tests.{eqb-true, eq-eqb, leb-true, le-leb}
use lib.Dec.{leb, eqb}
use lib.ListN.{length}
use lib.Pow.{pow_mono, pow_pos}
use Rattle.stores.specs.Store.{word}
use Rattle.stores.proofs.Tests.{and_left, and_right, and_true}
use Rattle.index_rules.specs.Layout.{mark, depth_in, max_depth_in, segments_in, mark_in, header, depth, max_depth, segments, words_for, valid_shape, valid_header, entry_address, segment_of, local_depth, entry, segment_address, key_address, value_address}

-- ---- Word 0

-- What a valid word 0 says of the array.
pub record ValidHeader (a : List ℕ) : Type 0 where
  pub marked : mark_in (word a 0) ≡ mark
  pub depth_low : 2 ≤ max_depth a
  pub depth_high : max_depth a ≤ 12
  pub present : depth a ≤ max_depth a
  pub segments_low : 1 ≤ segments a
  pub segments_high : segments a ≤ 2 ^ max_depth a
  pub room : words_for (max_depth a) (segments a) ≤ length a

pub valid_header_holds : (a : List ℕ) → valid_header a ≡ true → ValidHeader a
unfolding valid_header valid_shape
valid_header_holds a e =
    let D = max_depth a in
    let S = segments a in
    let m = eqb (mark_in (word a 0)) mark in
    let lo = leb 2 D && leb D 12 in
    let hi = leb 1 S && leb S (2 ^ D) in
    let r = leb (depth a) D && leb (words_for D S) (length a) in
    let rest : (lo && hi) && r ≡ true = and_right m ((lo && hi) && r) e in
    let shape : lo && hi ≡ true = and_left (lo && hi) r rest in
    let room : r ≡ true = and_right (lo && hi) r rest in
    let l : lo ≡ true = and_left lo hi shape in
    let h : hi ≡ true = and_right lo hi shape in
    record {
      marked = eqb-true (mark_in (word a 0)) mark (and_left m ((lo && hi) && r) e);
      depth_low = leb-true 2 D (and_left (leb 2 D) (leb D 12) l);
      depth_high = leb-true D 12 (and_right (leb 2 D) (leb D 12) l);
      present = leb-true (depth a) D (and_left (leb (depth a) D) (leb (words_for D S) (length a)) room);
      segments_low = leb-true 1 S (and_left (leb 1 S) (leb S (2 ^ D)) h);
      segments_high = leb-true S (2 ^ D) (and_right (leb 1 S) (leb S (2 ^ D)) h);
      room = leb-true (words_for D S) (length a) (and_right (leb (depth a) D) (leb (words_for D S) (length a)) room);
    }

pub header_valid : {a : List ℕ} → ValidHeader a → valid_header a ≡ true
unfolding valid_header valid_shape
header_valid {a} v =
    and_true (eq-eqb (mark_in (word a 0)) mark v.marked)
    (and_true
    (and_true
    (and_true (le-leb 2 (max_depth a) v.depth_low) (le-leb (max_depth a) 12 v.depth_high))
    (and_true (le-leb 1 (segments a) v.segments_low) (le-leb (segments a) (2 ^ max_depth a) v.segments_high)))
    (and_true (le-leb (depth a) (max_depth a) v.present) (le-leb (words_for (max_depth a) (segments a)) (length a) v.room)))

-- With the same word 0 and the same length, the header is as valid as before.
pub same_header : (a b : List ℕ) → word b 0 ≡ word a 0 → length b ≡ length a → ValidHeader a → ValidHeader b
same_header a b e l v =
    record {
      marked = rw e v.marked;
      depth_low = rw e v.depth_low;
      depth_high = rw e v.depth_high;
      present = rw e v.present;
      segments_low = rw e v.segments_low;
      segments_high = rw e v.segments_high;
      room = rw (e, l) v.room;
    }

-- What word 0 packs is read back.
module _ (G D S : ℕ) (g : G < 2 ^ 8) (d : D < 2 ^ 8) (s : S < 2 ^ 16) where
  pub header_depth : depth_in (header G D S) ≡ G
  unfolding depth_in header
  header_depth = omega arith

  pub header_max_depth : max_depth_in (header G D S) ≡ D
  unfolding max_depth_in header
  header_max_depth = omega arith

  pub header_segments : segments_in (header G D S) ≡ S
  unfolding segments_in header
  header_segments = omega arith

  pub header_mark : mark_in (header G D S) ≡ mark
  unfolding mark_in header
  header_mark = omega arith

  pub header_fits : header G D S < 2 ^ 64
  unfolding header
  header_fits = omega arith

-- A largest depth of at most 12 bounds every power by 2 ^ 12.
pow_12 : (n : ℕ) → n ≤ 12 → 2 ^ n ≤ 4096
pow_12 n h = pow_mono h

-- What the packing of word 0 and of entries needs of G, D and S.
pub record Small (a : List ℕ) : Type 0 where
  pub depth_small : depth a < 2 ^ 8
  pub max_depth_small : max_depth a < 2 ^ 8
  pub segments_small : segments a < 2 ^ 16
  pub segments_32 : segments a < 2 ^ 32
  pub segments_4096 : segments a ≤ 4096

pub small : {a : List ℕ} → ValidHeader a → Small a
small {a} v =
    let p : 2 ^ max_depth a ≤ 4096 = pow_12 (max_depth a) v.depth_high in
    record {
      depth_small = omega arith;
      max_depth_small = omega arith;
      segments_small = omega arith;
      segments_32 = omega arith;
      segments_4096 = omega arith;
    }

-- ---- Entries

pub entry_segment : (s L : ℕ) → s < 2 ^ 32 → segment_of (entry s L) ≡ s
unfolding segment_of entry
entry_segment s L h = omega arith

pub entry_depth : (s L : ℕ) → s < 2 ^ 32 → local_depth (entry s L) ≡ L
unfolding local_depth entry
entry_depth s L h = omega arith

pub entry_eta : (e : ℕ) → entry (segment_of e) (local_depth e) ≡ e
unfolding segment_of local_depth entry
entry_eta e = omega arith

-- ---- Addresses of entries

pub entry_inside : (D g i : ℕ) → g ≤ D → i < 2 ^ g → entry_address g i < 2 ^ suc D
unfolding entry_address
entry_inside D g i h k = let p : 2 ^ g ≤ 2 ^ D = pow_mono h in omega arith

-- No entry is word 0.
pub entry_positive : (g i : ℕ) → 1 ≤ entry_address g i
unfolding entry_address
entry_positive g i = omega (arith, pow_pos g)

pub entry_inj : (g i j : ℕ) → entry_address g i ≡ entry_address g j → i ≡ j
unfolding entry_address
entry_inj g i j e = omega arith

-- The directory of depth g is the words from 2 ^ g on, below 2 ^ suc g.
pub entry_from : (g i : ℕ) → 2 ^ g ≤ entry_address g i
unfolding entry_address
entry_from g i = omega arith

pub entry_to : (g i : ℕ) → i < 2 ^ g → entry_address g i < 2 ^ suc g
unfolding entry_address
entry_to g i h = omega arith

-- Directories of different depths do not overlap.
pub entries_apart : (g h i j : ℕ) → g < h → i < 2 ^ g → entry_address g i < entry_address h j
unfolding entry_address
entries_apart g h i j l k = let p : 2 ^ suc g ≤ 2 ^ h = pow_mono l in omega arith

-- ---- Addresses in segments

-- The address is behind all directories, and below the words that D and S take.
pub record Inside (D S at : ℕ) : Type 0 where
  pub behind : 2 ^ suc D ≤ at
  pub below : at < words_for D S

-- The address lies in segment s.
pub record Within (D s at : ℕ) : Type 0 where
  pub from : segment_address D s ≤ at
  pub to : at < segment_address D s + 128

-- No address lies in two segments.
pub segments_disjoint : (D s t at : ℕ) → Within D s at → Within D t at → s ≡ t
unfolding segment_address
segments_disjoint D s t at v w = omega (arith, v.from, v.to, w.from, w.to)

module _ (D s j : ℕ) (k : j < 64) where
  pub key_within : Within D s (key_address (segment_address D s) j)
  key_within = record { from = omega arith; to = omega arith }

  pub value_within : Within D s (value_address (segment_address D s) j)
  value_within = record { from = omega arith; to = omega arith }

-- What lies in a segment below S lies behind all directories, and below the words that D and S take.
pub within_inside : (D S s at : ℕ) → s < S → Within D s at → Inside D S at
unfolding segment_address words_for
within_inside D S s at h w =
    let f = w.from in
    let t = w.to in
    record { behind = omega arith; below = omega arith }

module _ (D S s j : ℕ) (h : s < S) (k : j < 64) where
  pub key_inside : Inside D S (key_address (segment_address D s) j)
  key_inside = within_inside D S s (key_address (segment_address D s) j) h (key_within D s j k)

  pub value_inside : Inside D S (value_address (segment_address D s) j)
  value_inside = within_inside D S s (value_address (segment_address D s) j) h (value_within D s j k)

-- The directories are below the words that D and S take.
pub directories_below : (D S : ℕ) → 2 ^ suc D ≤ words_for D S
unfolding words_for
directories_below D S = omega arith

-- The present directory is below the segments, and so within the array.
pub directory_low : {a : List ℕ} → ValidHeader a → 2 ^ suc (depth a) ≤ 2 ^ suc (max_depth a)
directory_low {a} v = pow_mono {i = suc (depth a)} {j = suc (max_depth a)} (omega (arith, v.present))

pub directory_fits : {a : List ℕ} → ValidHeader a → 2 ^ suc (depth a) ≤ length a
directory_fits {a} v = omega (arith, directory_low v, directories_below (max_depth a) (segments a), v.room)

module _ (D s j t k : ℕ) (p : j < 64) (q : k < 64) where
  -- Slots at the same address are the same slot of the same segment.
  pub key_inj : key_address (segment_address D s) j ≡ key_address (segment_address D t) k → (s ≡ t) × (j ≡ k)
  unfolding segment_address
  key_inj e = let o : s ≡ t = omega arith in (o, omega arith)

  pub value_inj : value_address (segment_address D s) j ≡ value_address (segment_address D t) k → (s ≡ t) × (j ≡ k)
  unfolding segment_address
  value_inj e = let o : s ≡ t = omega arith in (o, omega arith)

  -- No word is a key's and a value's.
  pub key_not_value : key_address (segment_address D s) j ≡ value_address (segment_address D t) k → ⊥
  unfolding segment_address
  key_not_value e = omega arith
