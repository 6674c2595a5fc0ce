-- `board::id::JobId::key` meets its contract.
use mathlib.Core.Path.{refl}
use Rattle.board.specs.Jobs.{job_key}
use Rattle.board.proofs.id.JobId.key.Goals as goal

pub returns : goal.returns
unfolding job_key
returns c = refl
