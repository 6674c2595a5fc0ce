-- `index::listing::find_block` meets its contract.
use native.Mathlib.Omega.{arith}
use Rattle.index_laws.proofs.Keys.{width_pos}
use Rattle.index_laws.proofs.Listing.{listing_passed}
use Rattle.index_layout.proofs.Shapes.{bounds}
use Rattle.index.proofs.Listings.{leads_not_behind, entry_low, leads_here, leads_not_inside}
use Rattle.index.proofs.listing.find_block.Goals as goal

pub returns-then-index-count : goal.returns-then-index-count
returns-then-index-count c = leads_not_behind c.requires _ c.pow2-count.ensures _ c.if-index-count.true

pub overflow_add-count : goal.overflow_add-count
overflow_add-count c = let b = bounds c.requires.0 in omega (arith, c.if-index-count.false, c.pow2-count.ensures)

pub offset_bounds-words-count : goal.offset_bounds-words-count
offset_bounds-words-count c = let b = bounds c.requires.0 in omega (arith, c.if-index-count.false, c.pow2-count.ensures)

pub bounds-words-count : goal.bounds-words-count
bounds-words-count c =
    let b = bounds c.requires.0 in omega (arith, c.if-index-count.false, c.pow2-count.ensures)

pub block_width-width-requires : goal.block_width-width-requires
block_width-width-requires c =
    let p = c.requires in
    let b = bounds p.0 in
    (rw c.local_depth_of-local_depth.ensures (entry_low p _ c.pow2-count.ensures _ c.if-index-count.false), b.depth_high)

pub overflow_sub-width : goal.overflow_sub-width
overflow_sub-width c =
    omega (arith, c.block_width-width.ensures, width_pos c.args.header.depth c.local_depth_of-local_depth.result)

pub returns-then-i-width-ne0 : goal.returns-then-i-width-ne0
returns-then-i-width-ne0 c =
    leads_not_inside c.requires _ c.pow2-count.ensures _
    c.if-index-count.false _ _ c.local_depth_of-local_depth.ensures c.block_width-width.ensures c.if-i-width-ne0.true

pub read_block-requires : goal.read_block-requires
read_block-requires c =
    let p = c.requires in (
      (p.0, (listing_passed _ _ p.1).leaders),
      leads_here p _ c.pow2-count.ensures _ c.if-index-count.false _ _
          c.local_depth_of-local_depth.ensures c.block_width-width.ensures c.if-i-width-ne0.false,
    )

pub returns : goal.returns
returns c = (
  leads_here c.requires _ c.pow2-count.ensures _
      c.if-index-count.false _ _ c.local_depth_of-local_depth.ensures c.block_width-width.ensures
      c.if-i-width-ne0.false,
  c.read_block.ensures,
)

pub pow2-count-requires : goal.pow2-count-requires
pow2-count-requires c = let b = bounds c.requires.0 in omega arith
