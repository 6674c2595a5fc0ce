-- `board::month::month_name` meets its contract.
use borrow.Author.Rules.{rules}
use Rattle.board.specs.Print.{month_name}
use Rattle.board.proofs.month.month_name.Goals as goal

pub returns : goal.returns
unfolding month_name
returns c = search rules
