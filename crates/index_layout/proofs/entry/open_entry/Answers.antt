-- `index_layout::entry::open_entry` meets its contract.
use Rattle.index_layout.proofs.Entries.{says_deep, says_no_segment, says_in_range}
use Rattle.index_layout.proofs.entry.open_entry.Goals as goal

pub returns-then-depth-local_depth : goal.returns-then-depth-local_depth
returns-then-depth-local_depth c = says_deep _ _ _ _ c.local_depth_of-local_depth.ensures c.if-depth-local_depth.true

pub returns-then-segments-segment : goal.returns-then-segments-segment
returns-then-segments-segment c =
    says_no_segment _ _ _ _ c.local_depth_of-local_depth.ensures _ c.segment_of-segment.ensures c.if-depth-local_depth.false c.if-segments-segment.true

pub returns : goal.returns
returns c =
    says_in_range _ _ _ _ c.local_depth_of-local_depth.ensures _ c.segment_of-segment.ensures c.if-depth-local_depth.false c.if-segments-segment.false
