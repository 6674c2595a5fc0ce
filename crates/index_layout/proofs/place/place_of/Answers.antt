-- `index_layout::place::place_of` meets its contract.
use native.Mathlib.Omega.{arith}
use Rattle.index_layout.proofs.Shapes.{bounds}
use Rattle.index_layout.proofs.Places.{key_index_lt, entry_segment, placed_at, placed_broken}
use Rattle.index_layout.proofs.place.place_of.Goals as goal

pub read_entry-requires : goal.read_entry-requires
read_entry-requires c = (c.requires, key_index_lt c.requires _ _ _ c.open_key-opened.ensures.1 c.directory_index-i.ensures)

pub segment_base-base-requires : goal.segment_base-base-requires
segment_base-base-requires c =
    let b = bounds c.requires in
    (omega arith, entry_segment c.requires _ _ _ c.open_key-opened.ensures.1 c.directory_index-i.ensures _ c.read_entry.ensures _ c.in-Ok.is)

pub returns : goal.returns
returns c =
    placed_at c.requires _ _ _ c.open_key-opened.ensures.1 c.directory_index-i.ensures _ c.read_entry.ensures _ c.in-Ok.is _ c.segment_base-base.ensures

pub directory_index-i-requires : goal.directory_index-i-requires
directory_index-i-requires c = let b = bounds c.requires in omega arith

pub returns-in_default : goal.returns-in_default
returns-in_default c =
    placed_broken c.requires _ _ _ c.open_key-opened.ensures.1 c.directory_index-i.ensures _ c.read_entry.ensures _ c.in_default.is
