-- `index_layout::entry::read_entry` meets its contract.
use Rattle.index_layout.proofs.Entries.{entry_word}
use Rattle.index_layout.proofs.entry.read_entry.Goals as goal

pub returns : goal.returns
returns c =
    let d = c.requires.0 in
    rw (← entry_word _ _ d c.pow2.ensures, d.depth_read, d.segments_read) c.open_entry.ensures
