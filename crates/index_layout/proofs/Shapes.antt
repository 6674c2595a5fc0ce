-- What a valid shape and a header that was read say in numbers.
use mathlib.Core.Path.{◌≡◌, refl}
use mathlib.Core.Bool.{true, false, ◌&&◌}
use mathlib.Core.List.{List, [], ◌∷◌}
use Prim.Native.Nat.{ℕ, suc, ◌^◌, ◌≤◌, ◌<◌}
use native.Mathlib.Omega.{arith}
use borrow.Author.Tests.{leb-true}
use lib.Dec.{leb}
use lib.ListN.{length}
use lib.Pow.{pow_mono, pow_pos}
use Rattle.stores.proofs.Tests.{and_left, and_right}
use Rattle.replies.specs.declared.Refusal.TheVariants.{NoStore}
use Rattle.index_rules.specs.Layout.{valid_header, valid_shape, depth, max_depth, segments, words_for, mark_in}
use Rattle.replies.specs.Replies.{done, refuse}
use Rattle.index_laws.proofs.Words.{ValidHeader, valid_header_holds, small, directories_below}
use Rattle.index_layout.specs.declared.header.Header.{Header}
use Rattle.index_layout.specs.Headers.{header_of, Describes}

-- A valid shape, in numbers.
pub record ShapeBounds (D S : ℕ) : Type 0 where
  pub depth_low : 2 ≤ D
  pub depth_high : D ≤ 12
  pub segments_low : 1 ≤ S
  pub segments_high : S ≤ 2 ^ D
  pub segments_4096 : S ≤ 4096

pub shape : (D S : ℕ) → valid_shape D S ≡ true → ShapeBounds D S
unfolding valid_shape
shape D S e =
    let lo : leb 2 D && leb D 12 ≡ true = and_left (leb 2 D && leb D 12) (leb 1 S && leb S (2 ^ D)) e in
    let hi : leb 1 S && leb S (2 ^ D) ≡ true = and_right (leb 2 D && leb D 12) (leb 1 S && leb S (2 ^ D)) e in
    let d : D ≤ 12 = leb-true D 12 (and_right (leb 2 D) (leb D 12) lo) in
    let s : S ≤ 2 ^ D = leb-true S (2 ^ D) (and_right (leb 1 S) (leb S (2 ^ D)) hi) in
    let p : 2 ^ D ≤ 4096 = pow_mono d in
    record {
      depth_low = leb-true 2 D (and_left (leb 2 D) (leb D 12) lo);
      depth_high = d;
      segments_low = leb-true 1 S (and_left (leb 1 S) (leb S (2 ^ D)) hi);
      segments_high = s;
      segments_4096 = omega arith;
    }

-- ---- What the reader of word 0 is to say

pub says_valid : (a : List ℕ) → valid_header a ≡ true → done (depth a ∷ max_depth a ∷ segments a ∷ []) ≡ header_of a
unfolding header_of
says_valid a e = rw e

pub says_not_valid : (a : List ℕ) → valid_header a ≡ false → refuse NoStore ≡ header_of a
unfolding header_of
says_not_valid a e = rw e

-- An array of no words has no mark.
pub empty_not_valid : (a : List ℕ) → length a ≡ 0 → valid_header a ≡ false
unfolding valid_header mark_in
empty_not_valid [] e = refl
empty_not_valid (x ∷ a) e = absurd (omega arith)

-- ---- What a header that was read says of its array

pub record Bounds (h : Header) (a : List ℕ) : Type 0 where
  pub depth_high : h.depth ≤ 12
  pub present : h.depth ≤ h.max_depth
  pub max_depth_high : h.max_depth ≤ 12
  pub segments_low : 1 ≤ h.segments
  pub segments_high : h.segments ≤ 4096
  pub entries : 2 ^ h.depth ≤ 4096
  pub room : 2 ^ suc h.max_depth ≤ length a
  pub entries_room : 2 ^ suc h.depth ≤ length a
  pub not_empty : 0 < length a

pub bounds : {h : Header} {a : List ℕ} → Describes h a → Bounds h a
bounds {h} {a} d =
    let v : ValidHeader a = valid_header_holds a d.valid in
    let g : depth a ≡ h.depth = d.depth_read in
    let m : max_depth a ≡ h.max_depth = d.max_depth_read in
    let s : segments a ≡ h.segments = d.segments_read in
    let high : h.max_depth ≤ 12 = rw m at v.depth_high in
    let present : h.depth ≤ h.max_depth = rw (g, m) at v.present in
    let below : 2 ^ suc h.max_depth ≤ words_for (max_depth a) (segments a) = rw m (directories_below h.max_depth (segments a)) in
    let fits : words_for (max_depth a) (segments a) ≤ length a = v.room in
    let room : 2 ^ suc h.max_depth ≤ length a = omega arith in
    let within : 2 ^ suc h.depth ≤ 2 ^ suc h.max_depth = pow_mono {i = suc h.depth} {j = suc h.max_depth} (omega arith) in
    record {
      depth_high = omega arith;
      present = present;
      max_depth_high = high;
      segments_low = rw s at v.segments_low;
      segments_high = rw s at (small v).segments_4096;
      entries = pow_mono {j = 12} (omega arith);
      room = room;
      entries_room = omega arith;
      not_empty = omega (arith, pow_pos h.max_depth);
    }

-- Below the largest depth there is room for the directory of the next depth.
pub next_room : {h : Header} {a : List ℕ} → Describes h a → h.depth < h.max_depth → 2 ^ suc (suc h.depth) ≤ length a
next_room {h} {a} d k =
    let b = bounds d in
    let within : 2 ^ suc (suc h.depth) ≤ 2 ^ suc h.max_depth = pow_mono {i = suc (suc h.depth)} {j = suc h.max_depth} (omega arith) in
    omega arith
