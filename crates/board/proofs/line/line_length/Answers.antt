-- `board::line::line_length` meets its contract.
use mathlib.Core.Path.{sym}
use native.Mathlib.Omega.{arith}
use Rattle.text.proofs.Digits.{length_decimal}
use Rattle.board.proofs.Lines.{length_line}
use Rattle.board.proofs.line.line_length.Goals as goal

pub overflow_add-result : goal.overflow_add-result
overflow_add-result c = omega (arith, c.decimal_length.ensures, length_decimal c.args.id.number)

pub overflow_add-result-2 : goal.overflow_add-result-2
overflow_add-result-2 c =
    omega (arith, c.decimal_length.ensures, length_decimal c.args.id.number, c.decimal_length-2.ensures, length_decimal c.args.pages)

pub returns : goal.returns
returns c =
    rw (c.decimal_length.ensures, c.decimal_length-2.ensures)
    (sym (length_line _ c.args.id.number c.args.pages (omega arith) (omega arith)))
