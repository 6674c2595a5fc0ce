-- `desk_text::fields::take_letter` meets its contract.
use Rattle.std.proofs.Common.{arith, sym}
use Rattle.desk_text.proofs.Reading.{fields_call, no_fields, not_a_letter, letter_first, untabbed}
use Rattle.desk_text.proofs.fields.take_letter.Goals as goal

pub returns-then-line-ne-TAB : goal.returns-then-line-ne-TAB
returns-then-line-ne-TAB c = untabbed _ c.if-line-gt1.true c.if-line-ne-TAB.true

pub returns-in_err-first : goal.returns-in_err-first
returns-in_err-first c =
    rw (c.from_residual.ensures, ← fields_call _ _ c.of-fields.ensures, c.in_err-first.ensures.steps.0) (sym no_fields)

pub returns-then-first-ne1 : goal.returns-then-first-ne1
returns-then-first-ne1 c =
    rw (← fields_call _ _ c.of-fields.ensures, c.in_ok-first.ensures.steps) (sym (not_a_letter _ _ c.if-first-ne1.true))

pub returns : goal.returns
returns c =
    rw (← fields_call _ _ c.of-fields.ensures, c.in_ok-first.ensures.steps) (sym (letter_first _ _ (omega arith) (omega arith)))
