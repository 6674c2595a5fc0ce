-- `index_directory::free::note_named` meets its contract.
use Rattle.index_directory.proofs.Segments.{NotedBelow}
use Rattle.index_directory.proofs.free.note_named.Given as goal

abbrev pub invariant-loop-entry : goal.invariant-loop-entry
invariant-loop-entry l = NotedBelow l.words l.set l.entry-index
