-- `board::line::write_line` meets its contract.
use Rattle.board.proofs.Lines.{room_name, room_number, room_pages, room_end, line_written}
use Rattle.board.proofs.line.write_line.Goals as goal

pub text-requires : goal.text-requires
text-requires c = rw c.month_name.ensures (room_name c.args.id.month c.args.id.number c.args.pages c.args.output.now c.requires)

pub field-requires : goal.field-requires
field-requires c =
    room_number c.args.id.month c.args.id.number c.args.pages _ c.requires _ (rw c.month_name.ensures at c.text.ensures)

pub field-requires-2 : goal.field-requires-2
field-requires-2 c =
    room_pages c.args.id.month c.args.id.number c.args.pages _ c.requires _ (rw c.month_name.ensures at c.text.ensures) _ c.field.ensures

pub byte-requires : goal.byte-requires
byte-requires c =
    room_end c.args.id.month c.args.id.number c.args.pages _ c.requires _ (rw c.month_name.ensures at c.text.ensures) _ c.field.ensures _ c.field-2.ensures

pub returns : goal.returns
returns c =
    line_written c.args.id.month c.args.id.number c.args.pages _ c.requires _ (rw c.month_name.ensures at c.text.ensures) _ c.field.ensures _ c.field-2.ensures _
    c.byte.ensures
