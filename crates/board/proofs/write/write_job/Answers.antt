-- `board::write::write_job` meets its contract.
use Rattle.std.proofs.Common.{ap, ◌∙◌, Ok}
use Rattle.text.proofs.Appended.{appended_none}
use Rattle.board.proofs.Found.{got, lines_found, lines_none, lines_refused}
use Rattle.board.proofs.write.write_job.Goals as goal

pub returns-in_default : goal.returns-in_default
returns-in_default c =
    rw (lines_refused _ _ _ _ c.get-answer.result.reply (got _ _ _ _ _ _ _ c.key.ensures c.get-answer.ensures) c.in_default.field-0 c.in_default.is)
    (appended_none _)

pub returns-in_default-reply : goal.returns-in_default-reply
returns-in_default-reply c =
    rw (lines_none _ _ _ _ c.get-answer.result.reply (got _ _ _ _ _ _ _ c.key.ensures c.get-answer.ensures) c.in-Ok.reply c.in-Ok.is c.in_default-reply.not-Value)
    (appended_none _)

pub write_line-requires : goal.write_line-requires
write_line-requires c =
    rw (lines_found _ _ _ _ c.get-answer.result.reply (got _ _ _ _ _ _ _ c.key.ensures c.get-answer.ensures) _ (c.in-Ok.is ∙ ap Ok c.in-Value.is))
    at c.requires

pub returns : goal.returns
returns c =
    rw (lines_found _ _ _ _ c.get-answer.result.reply (got _ _ _ _ _ _ _ c.key.ensures c.get-answer.ensures) _ (c.in-Ok.is ∙ ap Ok c.in-Value.is))
    c.write_line.ensures
