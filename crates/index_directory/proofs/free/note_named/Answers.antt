-- `index_directory::free::note_named` meets its contract.
use borrow.Author.Rules.{rules}
use native.Mathlib.Omega.{arith}
use Prim.Native.Nat.{◌<◌}
use Rattle.index_layout.proofs.Shapes.{bounds}
use Rattle.index_directory.proofs.Blocks.{part_entry}
use Rattle.index_directory.proofs.Segments.{noted_none, noted_entry, noted_all}
use Rattle.index_directory.proofs.free.note_named.Goals as goal

pub loop-entry-init : goal.loop-entry-init
loop-entry-init c = noted_none c.args.words.now _ c.requires.2

pub note_entry-requires : goal.note_entry-requires
note_entry-requires c = let b = bounds c.requires.0 in (search rules, omega arith)

pub loop-entry-preserved : goal.loop-entry-preserved
loop-entry-preserved c =
    let d = c.requires.0 in
    let l = c.loop-entry in
    let below : l.entry-index < c.pow2-count.result = omega arith in
    noted_entry c.args.words.now _ _ l.entry-index l.invariant
    (rw (← part_entry d _ _ c.pow2-count.ensures below, d.segments_read) c.note_entry.ensures)

pub returns : goal.returns
returns c =
    noted_all c.args.words.now _ c.loop-entry.entry-index (rw c.requires.0.depth_read (omega arith)) c.loop-entry.invariant

pub pow2-count-requires : goal.pow2-count-requires
pow2-count-requires c = let b = bounds c.requires.0 in omega arith

pub overflow_mul-entry-items : goal.overflow_mul-entry-items
overflow_mul-entry-items c = let b = bounds c.requires.0 in omega arith

pub offset_bounds-words-count : goal.offset_bounds-words-count
offset_bounds-words-count c = let b = bounds c.requires.0 in omega arith

pub slice_bounds-entry-items-end : goal.slice_bounds-entry-items-end
slice_bounds-entry-items-end c = let b = bounds c.requires.0 in omega arith
