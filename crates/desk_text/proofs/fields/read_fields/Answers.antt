-- `desk_text::fields::read_fields` meets its contract.
use Rattle.std.proofs.Common.{sym, ◌∙◌}
use Rattle.desk_text.proofs.Held.{called_held}
use Rattle.desk_text.proofs.fields.read_fields.Goals as goal

pub returns : goal.returns
returns c = sym (c.in_ok-letter.ensures ∙ called_held _ _ _ c.in_ok-numbers.ensures)
