-- `board::job::valid_year` meets its contract.
use borrow.Author.Tests.{le-leb, lt-leb}
use Rattle.board.specs.Jobs.{valid_year}
use Rattle.board.proofs.job.valid_year.Goals as goal

pub returns-then-year-ge1 : goal.returns-then-year-ge1
unfolding valid_year
returns-then-year-ge1 c = rw (le-leb 1 _ c.if-year-ge1.true)

pub returns-else-year-ge1 : goal.returns-else-year-ge1
unfolding valid_year
returns-else-year-ge1 c = rw (lt-leb 1 _ c.if-year-ge1.false)
