-- `index_directory::free::free_segment` meets its contract.
use mathlib.Core.Path.{◌∙◌}
use Rattle.index_directory.proofs.Segments.{free_named}
use Rattle.index_directory.proofs.free.free_segment.Goals as goal

pub returns : goal.returns
returns c =
    c.free_in.ensures
    ∙ free_named _ c.note_named.ensures c.requires.segments_read
