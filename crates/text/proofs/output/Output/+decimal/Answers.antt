-- `text::output::Output::decimal` meets its contract: the digits in front of the last four are those of the quotient.
use Rattle.std.proofs.Common.{◌/◌, ◌%◌, arith, rules}
use Rattle.text.specs.Number.{decimal, four_digits}
use Rattle.text.proofs.Digits.{decimal_four_more}
use Rattle.text.proofs.Appended.{fits_first, room_behind, appended_append}
use Rattle.text.proofs.output.Output.+decimal.Goals as goal

pub decimal-requires : goal.decimal-requires
decimal-requires t c =
    let room = rw (decimal_four_more c.args.n c.if-n-lt10000.false (search rules)) at c.requires in
    (omega arith, fits_first _ (four_digits (c.args.n % 10000)) c.args.self.now room)

pub four_digits-requires-clause-room : goal.four_digits-requires-clause-room
four_digits-requires-clause-room t c =
    let room = rw (decimal_four_more c.args.n c.if-n-lt10000.false (search rules)) at c.requires in
    room_behind (decimal (c.args.n / 10000)) (four_digits (c.args.n % 10000)) _ _ room c.decimal.ensures

pub returns-else-n-lt10000 : goal.returns-else-n-lt10000
returns-else-n-lt10000 t c =
    let room = rw (decimal_four_more c.args.n c.if-n-lt10000.false (search rules)) at c.requires in
    rw (decimal_four_more c.args.n c.if-n-lt10000.false (search rules))
    (appended_append (decimal (c.args.n / 10000)) (four_digits (c.args.n % 10000)) _ _ room c.decimal.ensures _ c.four_digits.ensures)
