-- `board::job::valid_number` meets its contract.
use mathlib.Core.Path.{refl}
use Rattle.board.specs.Jobs.{valid_number}
use Rattle.board.proofs.job.valid_number.Goals as goal

pub returns : goal.returns
unfolding valid_number
returns c = refl
