-- `board::remove` meets its contract.
use Rattle.board.proofs.Jobs.{job_called, job_refused}
use Rattle.board.proofs.remove.Goals as goal

pub returns-in-Ok : goal.returns-in-Ok
returns-in-Ok c = job_called _ _ _ _ _ _ _ _ c.in-Ok.ensures c.remove.ensures

pub returns-in-Err : goal.returns-in-Err
returns-in-Err c = job_refused _ _ _ _ _ _ _ c.in-Err.ensures c.without_store.ensures
