-- `index_directory::buddy::find_pair` meets its contract.
use native.Mathlib.Omega.{arith}
use mathlib.Core.Path.{sym, ◌∙◌}
use Rattle.index_laws.proofs.Keys.{first_lt}
use Rattle.index_layout.proofs.Shapes.{bounds}
use Rattle.index_directory.proofs.Buddies.{whole_directory, joined_low, buddy_below, other_depth, same_depth}
use Rattle.index_directory.proofs.buddy.find_pair.Goals as goal

pub returns-then-local_depth-eq0 : goal.returns-then-local_depth-eq0
returns-then-local_depth-eq0 c = whole_directory c.requires c.if-local_depth-eq0.true

pub directory_index-i-requires : goal.directory_index-i-requires
directory_index-i-requires c = (bounds c.requires.header_read).depth_high

pub starts_of-starts-requires : goal.starts_of-starts-requires
starts_of-starts-requires c =
    let k = c.requires in
    let p = c.args.place in (
      joined_low k c.if-local_depth-eq0.false,
      (bounds k.header_read).depth_high,
      rw c.directory_index-i.ensures (first_lt p.bits p.header.depth),
    )

pub overflow_add-at : goal.overflow_add-at
overflow_add-at c =
    let k = c.requires in
    let g = bounds k.header_read in
    let b = c.starts_of-starts.ensures in
    let low = buddy_below k c.if-local_depth-eq0.false c.directory_index-i.ensures b (c.buddy_index.ensures _ _ b) in
    omega (arith, g.entries, c.pow2.ensures)

pub offset_bounds-words-at : goal.offset_bounds-words-at
offset_bounds-words-at c =
    let g = bounds c.requires.header_read in
    let b = c.starts_of-starts.ensures in
    let low = buddy_below c.requires c.if-local_depth-eq0.false c.directory_index-i.ensures b (c.buddy_index.ensures _ _ b) in
    omega (arith, g.entries, c.pow2.ensures)

pub bounds-words-at : goal.bounds-words-at
bounds-words-at c =
    let g = bounds c.requires.header_read in
    let b = c.starts_of-starts.ensures in
    let low = buddy_below c.requires c.if-local_depth-eq0.false c.directory_index-i.ensures b (c.buddy_index.ensures _ _ b) in
    omega (arith, g.room, c.pow2.ensures)

pub returns-then-local_depth_of-local_depth : goal.returns-then-local_depth_of-local_depth
returns-then-local_depth_of-local_depth c =
    let k = c.requires in
    let deep = c.if-local_depth-eq0.false in
    let b = c.starts_of-starts.ensures in
    other_depth k deep c.directory_index-i.ensures b
    (c.buddy_index.ensures _ _ b) c.pow2.ensures
    (λ e. c.if-local_depth_of-local_depth.true (c.local_depth_of.ensures ∙ e))

pub returns : goal.returns
returns c =
    let k = c.requires in
    let deep = c.if-local_depth-eq0.false in
    let b = c.starts_of-starts.ensures in
    let found =
    same_depth k deep c.directory_index-i.ensures b
    (c.buddy_index.ensures _ _ b) c.pow2.ensures
    (sym c.local_depth_of.ensures ∙ c.if-local_depth_of-local_depth.false) in
    rw (c.pair_of.ensures, c.segment_of.ensures) found

pub pow2-requires : goal.pow2-requires
pow2-requires c = omega (arith, (bounds c.requires.header_read).depth_high)
