-- `desk_run::output::write_answer` meets its contract.
use Rattle.desk_run.proofs.AnswerLine.{head_written, room_reply, room_stores, room_value, room_end, answer_written}
use Rattle.desk_run.proofs.output.write_answer.Goals as goal

pub write_reply-requires : goal.write_reply-requires
write_reply-requires c =
    let head = head_written c.args.letter _ _ _ c.requires c.byte.ensures c.byte-2.ensures in
    room_reply c.args.letter c.args.answer.reply c.args.answer.stores _ _ c.requires head

pub field-requires : goal.field-requires
field-requires c =
    let head = head_written c.args.letter _ _ _ c.requires c.byte.ensures c.byte-2.ensures in
    rw c.from.ensures (room_stores c.args.letter c.args.answer.reply c.args.answer.stores _ _ c.requires head _ c.write_reply.ensures)

pub write_value-requires : goal.write_value-requires
write_value-requires c =
    let head = head_written c.args.letter _ _ _ c.requires c.byte.ensures c.byte-2.ensures in
    room_value c.args.letter c.args.answer.reply c.args.answer.stores _ _ c.requires head _ c.write_reply.ensures _
    (rw c.from.ensures at c.field.ensures)

pub byte-requires-3 : goal.byte-requires-3
byte-requires-3 c =
    let head = head_written c.args.letter _ _ _ c.requires c.byte.ensures c.byte-2.ensures in
    room_end c.args.letter c.args.answer.reply c.args.answer.stores _ _ c.requires head _ c.write_reply.ensures _
    (rw c.from.ensures at c.field.ensures) _ c.write_value.ensures

pub returns : goal.returns
returns c =
    let head = head_written c.args.letter _ _ _ c.requires c.byte.ensures c.byte-2.ensures in
    answer_written c.args.letter c.args.answer.reply c.args.answer.stores _ _ c.requires head _ c.write_reply.ensures _
    (rw c.from.ensures at c.field.ensures) _ c.write_value.ensures _ c.byte-3.ensures
