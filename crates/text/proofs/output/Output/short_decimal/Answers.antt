-- `text::output::Output::short_decimal` meets its contract.
use Rattle.std.proofs.Common.{◌%◌, [], ◌∷◌, arith}
use Rattle.text.specs.Number.{two_digits}
use Rattle.text.proofs.Digits.{decimal_one, decimal_two, decimal_three, decimal_four}
use Rattle.text.proofs.Appended.{room_behind, appended_append}
use Rattle.text.proofs.output.Output.short_decimal.Goals as goal

pub byte-requires : goal.byte-requires
byte-requires c = rw (decimal_one c.args.n (omega arith)) at c.requires.room

pub two_digits-requires-clause-room : goal.two_digits-requires-clause-room
two_digits-requires-clause-room c = rw (decimal_two c.args.n (omega arith) (omega arith)) at c.requires.room

pub byte-requires-in-100-to-999 : goal.byte-requires-in-100-to-999
byte-requires-in-100-to-999 c = let room = rw (decimal_three c.args.n (omega arith) (omega arith)) at c.requires.room in omega arith

pub two_digits-requires-in-100-to-999-clause-room : goal.two_digits-requires-in-100-to-999-clause-room
two_digits-requires-in-100-to-999-clause-room c =
    room_behind (_ ∷ []) (two_digits (c.args.n % 100)) _ _ (rw (decimal_three c.args.n (omega arith) (omega arith)) at c.requires.room) c.byte-in-100-to-999.ensures

pub four_digits-requires-clause-room : goal.four_digits-requires-clause-room
four_digits-requires-clause-room c = rw (decimal_four c.args.n (omega arith) c.requires.low) at c.requires.room

pub returns-in-0-to-9 : goal.returns-in-0-to-9
returns-in-0-to-9 c = rw (decimal_one c.args.n (omega arith)) c.byte.ensures

pub returns-in-10-to-99 : goal.returns-in-10-to-99
returns-in-10-to-99 c = rw (decimal_two c.args.n (omega arith) (omega arith)) c.two_digits.ensures

pub returns-in-100-to-999 : goal.returns-in-100-to-999
returns-in-100-to-999 c =
    rw (decimal_three c.args.n (omega arith) (omega arith))
    (appended_append (_ ∷ []) (two_digits (c.args.n % 100)) _ _ (rw (decimal_three c.args.n (omega arith) (omega arith)) at c.requires.room) c.byte-in-100-to-999.ensures _ c.two_digits-in-100-to-999.ensures)

pub returns-in_default : goal.returns-in_default
returns-in_default c = rw (decimal_four c.args.n (omega arith) c.requires.low) c.four_digits.ensures
