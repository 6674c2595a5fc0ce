-- `index_structure::merge::both_live` meets its contract.
use mathlib.Core.Path.{◌∙◌}
use Rattle.index_layout.specs.Blocks.{shared}
use Rattle.index_structure.proofs.Merges.{both_read}
use Rattle.index_structure.proofs.merge.both_live.Goals as goal

pub returns : goal.returns
returns c =
    let u = c.args in
    let m = u.merging in
    let p = c.requires in
    c.some_both_live.ensures
    ∙ both_read u.words.now m.left_base m.right_base m.joined.local_depth (shared m.joined) p.left_room p.right_room
