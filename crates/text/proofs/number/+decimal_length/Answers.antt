-- `text::number::decimal_length` meets its contract: the digits are counted by fours.
use Rattle.std.proofs.Common.{◌+◌, ◌/◌, sym, ap, ◌∙◌, arith, rules}
use Rattle.text.proofs.Digits.{length_decimal, length_one_digit, length_two_digits, length_three_digits, length_four_digits, length_four_more}
use Rattle.text.proofs.number.+decimal_length.Goals as goal

pub overflow_add-result : goal.overflow_add-result
overflow_add-result t c = omega (arith, c.decimal_length.ensures, length_decimal (c.args.n / 10000))

pub returns-in-0-to-9 : goal.returns-in-0-to-9
returns-in-0-to-9 t c = sym (length_one_digit _ (omega arith))

pub returns-in-10-to-99 : goal.returns-in-10-to-99
returns-in-10-to-99 t c = sym (length_two_digits _ (omega arith) (omega arith))

pub returns-in-100-to-999 : goal.returns-in-100-to-999
returns-in-100-to-999 t c = sym (length_three_digits _ (omega arith) (omega arith))

pub returns-in-1000-to-9999 : goal.returns-in-1000-to-9999
returns-in-1000-to-9999 t c = sym (length_four_digits _ (omega arith) (omega arith))

pub returns-in_default : goal.returns-in_default
returns-in_default t c =
    ap (λ m. 4 + m) c.decimal_length.ensures ∙ sym (length_four_more c.args.n (omega arith) (search rules))
