-- `board::count::count_job` meets its contract.
use Rattle.std.proofs.Common.{ap, ◌∙◌, Ok}
use Rattle.std.proofs.lemmas.Result.{err_from_is_err_and}
use Rattle.board.proofs.Found.{got, counted_found, counted_none, counted_refused}
use Rattle.board.proofs.count.count_job.Goals as goal

pub returns-in_err-pages : goal.returns-in_err-pages
returns-in_err-pages c =
    let p = err_from_is_err_and c.from_residual.result c.from_residual.ensures.1 in
    rw (p.1, p.2) (counted_refused _ _ _ _ _ (got _ _ _ _ _ _ _ c.key.ensures c.get.ensures) _ c.in_err-pages.was)

pub returns-in-Value : goal.returns-in-Value
returns-in-Value c =
    counted_found _ _ _ _ _ (got _ _ _ _ _ _ _ c.key.ensures c.get.ensures) _ _ (c.in_ok-pages.was ∙ ap Ok c.in-Value.is) c.line_length.ensures

pub returns-in_default : goal.returns-in_default
returns-in_default c =
    counted_none _ _ _ _ _ (got _ _ _ _ _ _ _ c.key.ensures c.get.ensures) _ c.in_ok-pages.was c.in_default.not-Value
