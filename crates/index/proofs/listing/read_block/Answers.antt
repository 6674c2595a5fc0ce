-- `index::listing::read_block` meets its contract.
use Prim.Native.Nat.{◌≤◌}
use native.Mathlib.Omega.{arith}
use Rattle.index_laws.proofs.Keys.{width_le}
use Rattle.index_layout.proofs.Shapes.{bounds}
use Rattle.index_layout.proofs.Entries.{entry_word}
use Rattle.index.proofs.Listings.{leader_below, leader_bounds}
use Rattle.index.proofs.listing.read_block.Goals as goal

pub overflow_add-at : goal.overflow_add-at
overflow_add-at c = let b = bounds c.requires.0.0 in omega (arith, leader_below c.requires.0.0 c.requires.0.1 _ c.requires.1)

pub offset_bounds-words-at : goal.offset_bounds-words-at
offset_bounds-words-at c = let b = bounds c.requires.0.0 in omega (arith, leader_below c.requires.0.0 c.requires.0.1 _ c.requires.1)

pub bounds-words-at : goal.bounds-words-at
bounds-words-at c = let b = bounds c.requires.0.0 in omega (arith, leader_below c.requires.0.0 c.requires.0.1 _ c.requires.1)

pub segment_base-base-requires : goal.segment_base-base-requires
segment_base-base-requires c =
    let b = bounds c.requires.0.0 in
    let l = leader_bounds c.requires.0.0 c.requires.0.1 _ c.requires.1 _ c.pow2.ensures in
    (omega arith, rw c.segment_of.ensures l.segment_small)

pub block_bits-bits-requires : goal.block_bits-bits-requires
block_bits-bits-requires c =
    let b = bounds c.requires.0.0 in
    let l = leader_bounds c.requires.0.0 c.requires.0.1 _ c.requires.1 _ c.pow2.ensures in
    (rw c.local_depth_of-local_depth.ensures l.depth_low, b.depth_high, leader_below c.requires.0.0 c.requires.0.1 _ c.requires.1)

pub block_width-requires : goal.block_width-requires
block_width-requires c =
    let b = bounds c.requires.0.0 in
    let l = leader_bounds c.requires.0.0 c.requires.0.1 _ c.requires.1 _ c.pow2.ensures in
    (rw c.local_depth_of-local_depth.ensures l.depth_low, b.depth_high)

pub overflow_add-next : goal.overflow_add-next
overflow_add-next c =
    let b = bounds c.requires.0.0 in
    let w = width_le c.args.header.depth c.local_depth_of-local_depth.result b.depth_high in
    omega (arith, c.block_width.ensures, leader_below c.requires.0.0 c.requires.0.1 _ c.requires.1)

pub returns : goal.returns
returns c =
    let d = c.requires.0.0 in
    let w = entry_word _ c.args.i d c.pow2.ensures in
    record {
      base_is = rw (← w, d.max_depth_read, ← c.segment_of.ensures) c.segment_base-base.ensures;
      depth_is = rw (← w) c.local_depth_of-local_depth.ensures;
      bits_are = rw d.depth_read c.block_bits-bits.ensures;
      next_is = rw (← w, d.depth_read, ← c.local_depth_of-local_depth.ensures, c.block_width.ensures);
    }

pub pow2-requires : goal.pow2-requires
pow2-requires c = let b = bounds c.requires.0.0 in omega arith

pub invariant_of-result : goal.invariant_of-result
invariant_of-result c =
    let b = bounds c.requires.0.0 in
    let l = leader_bounds c.requires.0.0 c.requires.0.1 _ c.requires.1 _ c.pow2.ensures in
    let low : c.local_depth_of-local_depth.result ≤ c.args.header.depth = rw c.local_depth_of-local_depth.ensures l.depth_low in
    record { shallow = omega (arith, low, b.depth_high) }
