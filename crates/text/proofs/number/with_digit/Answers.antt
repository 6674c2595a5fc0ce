-- `text::number::with_digit` meets its contract.
use mathlib.Core.Path.{◌∙◌}
use Rattle.text.proofs.Digits.{no_digit, ten_times_past, digit_added}
use Rattle.text.proofs.number.with_digit.Goals as goal

pub returns-in_err-digit : goal.returns-in_err-digit
returns-in_err-digit c = rw c.from_residual.ensures (no_digit _ _ _ c.from.ensures c.in_err-digit.ensures.value)

pub returns-in_err-checked_mul : goal.returns-in_err-checked_mul
returns-in_err-checked_mul c = rw c.from_residual-in_err-checked_mul.ensures (ten_times_past _ _ c.in_err-checked_mul.ensures)

pub returns : goal.returns
returns c =
    digit_added _ _ _ _ _ _ c.from.ensures c.in_ok-digit.ensures.value.0 (c.from-2.ensures ∙ c.in_ok-digit.ensures.value.1) c.in_ok-checked_mul.ensures.1 c.checked_add.ensures
