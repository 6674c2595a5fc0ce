-- `index_structure::merge::merge_slots` meets its contract.
use Rattle.index_layout.specs.Blocks.{shared}
use Rattle.index_structure.proofs.Merges.{slots_made}
use Rattle.index_structure.proofs.merge.merge_slots.Goals as goal

pub returns : goal.returns
returns c =
    let u = c.args in
    let m = u.merging in
    let p = c.requires.0 in
    slots_made u.words.now m.left_base m.right_base m.joined.local_depth (shared m.joined) p.left_room p.right_room
    c.read_segment-left.ensures c.read_segment-right.ensures _ _ _
    c.merge_records.ensures
