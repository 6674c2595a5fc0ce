-- `desk_run::output::write_value` meets its contract.
use Rattle.text.proofs.Appended.{appended_none}
use Rattle.desk_run.proofs.AnswerLine.{value_field, no_value}
use Rattle.desk_run.proofs.output.write_value.Goals as goal

pub returns-in_default-reply : goal.returns-in_default-reply
returns-in_default-reply c = rw (c.in-Ok.is, no_value c.in-Ok.reply c.in_default-reply.not-Value) (appended_none _)

pub field-requires : goal.field-requires
field-requires c = rw (c.in-Ok.is, c.in-Value.is, value_field c.in-Value.value) at c.requires

pub returns : goal.returns
returns c = rw (c.in-Ok.is, c.in-Value.is, value_field c.in-Value.value) c.field.ensures
