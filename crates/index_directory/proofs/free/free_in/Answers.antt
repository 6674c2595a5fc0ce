-- `index_directory::free::free_in` meets its contract.
use Rattle.index_directory.proofs.Segments.{free_answer}
use Rattle.index_directory.proofs.free.free_in.Goals as goal

pub returns : goal.returns
returns c = rw c.then_some.ensures (free_answer c.smallest_missing-number.ensures _)
