-- `board::job::valid_month` meets its contract.
use borrow.Author.Tests.{le-leb, lt-leb}
use Rattle.board.specs.Jobs.{valid_month}
use Rattle.board.proofs.job.valid_month.Goals as goal

pub returns-then-month-ge1 : goal.returns-then-month-ge1
unfolding valid_month
returns-then-month-ge1 c = rw (le-leb 1 _ c.if-month-ge1.true)

pub returns-else-month-ge1 : goal.returns-else-month-ge1
unfolding valid_month
returns-else-month-ge1 c = rw (lt-leb 1 _ c.if-month-ge1.false)
