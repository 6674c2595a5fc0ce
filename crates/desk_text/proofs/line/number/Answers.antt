-- `desk_text::line::number` meets its contract.
use Rattle.desk_text.proofs.Reading.{number_taken}
use Rattle.desk_text.proofs.line.number.Goals as goal

pub returns : goal.returns
returns c = number_taken _ _ _ _ c.in_ok-next.ensures.steps c.read_number.ensures
